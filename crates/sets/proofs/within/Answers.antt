use mathlib.Core.Path.{ap}
use Prim.Native.Nat.{ℕ}
use lib.Dec.{eqb}
use Rattle.sets.specs.Sets.{subset}
use Rattle.sets.proofs.within.Goals as goal

-- Nothing is left of a without b.
pub returns : goal.returns
unfolding subset
returns c = ap (λ (x : ℕ). eqb x 0) c.minus.ensures
