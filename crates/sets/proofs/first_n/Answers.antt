use mathlib.Core.Path.{◌≡◌, refl, ap}
use Prim.Native.Nat.{ℕ, ◌-◌}
use native.Mathlib.Omega.{arith}
use Rattle.sets.specs.Sets.{single, first_n}
use Rattle.sets.proofs.Machine.{single_pos}
use Rattle.sets.proofs.first_n.Goals as goal

-- Below 64 it is one less than the next resource alone, and 64 is the whole word.
pub overflow_sub-result : goal.overflow_sub-result
overflow_sub-result c = omega (arith, single_pos c.args.n)

pub returns-then-n-lt64 : goal.returns-then-n-lt64
unfolding single first_n
returns-then-n-lt64 c = ap (λ (x : ℕ). x - 1) c.single.ensures

pub returns-else-n-lt64 : goal.returns-else-n-lt64
unfolding first_n
returns-else-n-lt64 c = let e : c.args.n ≡ 64 = omega arith in rw e refl
