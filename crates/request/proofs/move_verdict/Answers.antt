use Rattle.std.proofs.Common.{rules}
use Rattle.rules.specs.Answers.{passes, first_of, unless}
use Rattle.rules.specs.Request.{move_verdict}
use Rattle.table.proofs.Readers.{field_in}
use Rattle.status.proofs.Keeps.{entry_ready}
use Rattle.request.proofs.Rules.{moving}
use Rattle.request.proofs.move_verdict.Goals as goal

pub returns-then-not-supported : goal.returns-then-not-supported
unfolding move_verdict first_of unless passes
returns-then-not-supported c = search (rules, entry_ready)

pub returns-then-not-not_shallower_or_d0 : goal.returns-then-not-not_shallower_or_d0
unfolding move_verdict first_of unless passes
returns-then-not-not_shallower_or_d0 c = search (rules, entry_ready)

pub returns-then-not-parent_allows : goal.returns-then-not-parent_allows
unfolding move_verdict first_of unless passes
returns-then-not-parent_allows c =
    search (rules, entry_ready, field_in (λ v. v.parent) c.device-device.result c.parent.result c.parent.ensures)

pub returns-in-Some : goal.returns-in-Some
returns-in-Some c = search (rules, moving)

pub returns-then-not-wake_allows : goal.returns-then-not-wake_allows
returns-then-not-wake_allows c = search (rules, moving)

pub returns : goal.returns
returns c = search (rules, moving)
