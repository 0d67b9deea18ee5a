use Rattle.status.proofs.Keeps.{keep_laws}
use Rattle.status.proofs.consistency.consistent_but_power.Goals.{then-supported, else-supported}
use borrow.Author.Rules.{rules}
use Rattle.status.proofs.consistency.consistent_but_power.Goals as goal

pub parent_allows-requires : goal.parent_allows-requires
parent_allows-requires c = search (rules, keep_laws)

pub wake_consistent-requires : goal.wake_consistent-requires
wake_consistent-requires c = search (rules, keep_laws)

pub returns-then-parent_allows : goal.returns-then-parent_allows
returns-then-parent_allows c =
    elim c.if-supported.branch [ then-supported w ↦ search (rules, keep_laws) | else-supported w ↦ search (rules, keep_laws) ]

pub returns-else-parent_allows : goal.returns-else-parent_allows
returns-else-parent_allows c =
    elim c.if-supported.branch [ then-supported w ↦ search (rules, keep_laws) | else-supported w ↦ search (rules, keep_laws) ]
