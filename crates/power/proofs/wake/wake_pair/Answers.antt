use Rattle.power.proofs.WakeLaws.{wake_laws}
use Rattle.power.proofs.wake.wake_pair.Goals.{then-wake_from, else-wake_from}
use borrow.Author.Rules.{rules}
use Rattle.power.proofs.wake.wake_pair.Goals as goal

pub returns-then-wake_powered : goal.returns-then-wake_powered
returns-then-wake_powered c =
    elim c.if-wake_from.branch [ then-wake_from w ↦ search (rules, wake_laws) | else-wake_from w ↦ search (rules, wake_laws) ]

pub returns-else-wake_powered : goal.returns-else-wake_powered
returns-else-wake_powered c =
    elim c.if-wake_from.branch [ then-wake_from w ↦ search (rules, wake_laws) | else-wake_from w ↦ search (rules, wake_laws) ]
