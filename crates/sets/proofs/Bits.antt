-- A set by its bits: the lowest, and the others as those of the half.
use mathlib.Core.Path.{◌≡◌, refl, ap}
use mathlib.Core.Bool.{Bool, true, false, cond}
use Prim.Native.Nat.{ℕ, suc, ◌/◌, ◌%◌, ◌^◌}
use native.Mathlib.Nat.{div-one}
use native.Mathlib.Numerals.{one-add}
use native.Mathlib.Omega.{arith}
use lib.Dec.{eqb}
use lib.Pow.{shr-shr}
use borrow.Author.Tests.{eqb-true, eqb-false}
use Rattle.sets.specs.Sets.{member}

-- by cases on what a test says, with the equation
pub decide {ℓ} : {P : Type ℓ} (b : Bool) → (b ≡ true → P) → (b ≡ false → P) → P
decide true t f = t refl
decide false t f = f refl

-- what holds of each pair of answers holds of any
pub both {ℓ} : (P : Bool → Bool → Type ℓ) → P true true → P true false → P false true → P false false → (x y : Bool) → P x y
both P a b c d true true = a
both P a b c d true false = b
both P a b c d false true = c
both P a b c d false false = d

pub bit_member : (s r : ℕ) → s / 2 ^ r % 2 ≡ cond (member s r) 1 0
unfolding member
bit_member s r =
    decide (eqb (s / 2 ^ r % 2) 1)
    (λ e. rw e (eqb-true (s / 2 ^ r % 2) 1 e))
    (λ e. rw e (omega (arith, eqb-false (s / 2 ^ r % 2) 1 e)))

-- the lowest bit, and the others as those of the half
pub member_zero : (s : ℕ) → member s 0 ≡ eqb (s % 2) 1
unfolding member
member_zero s = rw (div-one s)

pub member_suc : (s r : ℕ) → member s (suc r) ≡ member (s / 2) r
unfolding member
member_suc s r = rw (← one-add r, ← shr-shr s 1 r)

-- of an operation that works on each bit apart, a member is known by the two members at its place
module _ (op : ℕ → ℕ → ℕ)
    (shr : (a b k : ℕ) → op a b / 2 ^ k ≡ op (a / 2 ^ k) (b / 2 ^ k))
    (low : (a b k : ℕ) → op a b % 2 ^ k ≡ op (a % 2 ^ k) (b % 2 ^ k)) where
  pub member_op : (a b r : ℕ) → member (op a b) r ≡ eqb (op (cond (member a r) 1 0) (cond (member b r) 1 0)) 1
  unfolding member
  member_op a b r =
      rw (← bit_member a r, ← bit_member b r, shr a b r) (ap (λ (x : ℕ). eqb x 1) (low (a / 2 ^ r) (b / 2 ^ r) 1))
