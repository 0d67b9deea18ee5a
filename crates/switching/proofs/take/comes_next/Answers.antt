use mathlib.Core.Path.{sym}
use Rattle.sets.proofs.Laws.{member_below}
use Rattle.switching.proofs.take.comes_next.Goals as goal

-- A member of the set is one of the table's resources.
pub in_order-requires : goal.in_order-requires
in_order-requires c =
    (c.requires.0, rw c.in-Some.is at c.requires.2, member_below _ _ _ c.requires.1 (sym c.if-has.ensures))
