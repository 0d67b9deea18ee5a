use Rattle.std.proofs.Common.{rules}
use Rattle.rules.specs.Answers.{passes, first_of, unless}
use Rattle.rules.specs.Request.{arm_verdict}
use Rattle.request.proofs.Rules.{arming}
use Rattle.request.proofs.arm_verdict.Goals.{then-not-wake_state-via-then-not-wake_state, then-not-wake_state-via-else-not-wake_state+then-entry-y}
use Rattle.request.proofs.arm_verdict.Goals as goal

pub returns-then-not-wake_from : goal.returns-then-not-wake_from
unfolding arm_verdict first_of unless passes
returns-then-not-wake_from c = search rules

pub returns-then-not-wake_powered : goal.returns-then-not-wake_powered
unfolding arm_verdict first_of unless passes
returns-then-not-wake_powered c = search rules

pub returns-then-not-wake_state : goal.returns-then-not-wake_state
returns-then-not-wake_state c =
    elim c.then-not-wake_state.branch [
      | then-not-wake_state-via-then-not-wake_state w ↦ search (rules, arming)
      | then-not-wake_state-via-else-not-wake_state+then-entry-y w ↦ search (rules, arming)
    ]

pub returns : goal.returns
returns c = search (rules, arming)
