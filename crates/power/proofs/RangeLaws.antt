-- The wake range by the array of verdicts: what the array leaves out has no range, and each lookup answers as the range. Only these laws
-- open the range, and the proof of `wake_range`, where the prover computes the array.
use mathlib.Core.Path.{◌≡◌, refl, sym, ap, ◌∙◌}
use mathlib.Core.Bool.{Bool, true, false, ◌&&◌, cond, false≢true}
use mathlib.Core.List.{List, [], append-nil}
use Prim.Native.Nat.{ℕ, zero, suc, ◌+◌, ◌*◌, ◌/◌, ◌%◌, ◌≤◌, ◌<◌}
use native.Mathlib.Nat.{zero-add}
use native.Mathlib.Omega.{arith}
use borrow.Author.Tests.{leb-true, ltb-true, eqb-true, eqb-false, eq-eqb, ne_eqb}
use lib.Dec.{eqb, leb, ltb}
use lib.ListN.{get_or}
use Rattle.sets.specs.Sets.{member}
use Rattle.sets.proofs.Laws.{decide, member_zero, member_suc}
use Rattle.laws.proofs.Tests.{both_true}
use Rattle.laws.proofs.Parts.{get_each}
use Rattle.rules.specs.Index.{each}
use Rattle.rules.specs.Station.{absent}
use Rattle.rules.specs.Power.{wake_range}

-- the index of an `_SxD` or `_SxW`, and the value at an index: an absent one comes first
abbrev sx_index : ℕ → ℕ
sx_index n = (n + 1) % 256

unfoldable pub value : ℕ → ℕ
value zero = absent
value (suc n) = n

value_at : (n k : ℕ) → n < 256 → k ≡ sx_index n → value k ≡ n
unfolding value
value_at n k h e =
    decide (eqb n 255)
    (λ p. rw (e, eqb-true n 255 p) refl)
    (λ p. let q : k ≡ suc n = omega (arith, e, eqb-false n 255 p) in rw q refl)

-- ---- what the array leaves out has no range
module _ (sxd sxw x : ℕ) where
  abbrev Listed : Type 0
  Listed = (sx_index sxd ≤ 4) × (sx_index sxw ≤ 5) × (x ≤ 4)

  upper : eqb sxd 255 ≡ true → leb sxw 4 && leb x sxw ≡ true → Listed
  upper p e =
      let a = eqb-true sxd 255 p in
      let b = leb-true sxw 4 (both_true (leb sxw 4) (leb x sxw) e).0 in
      let c = leb-true x sxw (both_true (leb sxw 4) (leb x sxw) e).1 in
      (omega arith, omega arith, omega arith)

  alone : leb sxd 3 ≡ true → eqb sxw 255 ≡ true → eqb x sxd ≡ true → Listed
  alone p q e =
      let a = leb-true sxd 3 p in
      let b = eqb-true sxw 255 q in
      let c = eqb-true x sxd e in
      (omega arith, omega arith, omega arith)

  between : leb sxd 3 ≡ true → leb sxw 4 && leb sxd x && leb x sxw ≡ true → Listed
  between p e =
      let a = leb-true sxd 3 p in
      let b = leb-true sxw 4 (both_true (leb sxw 4) (leb sxd x) (both_true (leb sxw 4 && leb sxd x) (leb x sxw) e).0).0 in
      let c = leb-true x sxw (both_true (leb sxw 4 && leb sxd x) (leb x sxw) e).1 in
      (omega arith, omega arith, omega arith)

  listed : wake_range sxd sxw x ≡ true → Listed
  unfolding wake_range
  listed =
      decide (eqb sxd 255)
      (λ p. rw p (decide (eqb sxw 255) (λ q. rw q (λ e. absurd (false≢true e))) (λ q. rw q (upper p))))
      (λ p. rw p (decide (leb sxd 3)
      (λ l. rw l (decide (eqb sxw 255) (λ q. rw q (alone l q)) (λ q. rw q (between l))))
      (λ l. rw l (λ e. absurd (false≢true e)))))

  outside : (Listed → ⊥) → false ≡ wake_range sxd sxw x
  outside n = sym (decide (wake_range sxd sxw x) (λ e. absurd (n (listed e))) (λ e. e))

  -- so a guard with these bounds, or higher ones, keeps out no range
  pub outside_sxd : (n from : ℕ) → from ≡ sx_index sxd → n < from → 4 ≤ n → false ≡ wake_range sxd sxw x
  outside_sxd n from e h l = outside (λ i. omega (arith, e, i.0))

  pub outside_sxw : (n to : ℕ) → to ≡ sx_index sxw → ltb n to ≡ true → 5 ≤ n → false ≡ wake_range sxd sxw x
  outside_sxw n to e h l = outside (λ i. omega (arith, e, i.1, ltb-true n to h))

  pub outside_state : (n : ℕ) → ltb n x ≡ true → 4 ≤ n → false ≡ wake_range sxd sxw x
  outside_state n h l = outside (λ i. omega (arith, i.2, ltb-true n x h))

pub ruleset outside_laws = (outside_sxd, outside_sxw, outside_state)

-- ---- the array: for each `_SxD` a number, whose digits are the verdicts for each `_SxW` and, within it, for each state

-- the number whose lowest n digits are f 0, f 1, ..
unfoldable pub digits : (ℕ → Bool) → ℕ → ℕ
digits f zero = 0
digits f (suc n) = cond (f 0) 1 0 + 2 * digits (λ k. f (suc k)) n

first_digit : (b : Bool) (m : ℕ) → eqb ((cond b 1 0 + 2 * m) % 2) 1 ≡ b
first_digit true m = eq-eqb ((1 + 2 * m) % 2) 1 (omega arith)
first_digit false m = ne_eqb ((0 + 2 * m) % 2) 1 (omega arith)

half : (b : Bool) (m : ℕ) → (cond b 1 0 + 2 * m) / 2 ≡ m
half true m = omega arith
half false m = omega arith

digit_at : (f : ℕ → Bool) (n k : ℕ) → k < n → member (digits f n) k ≡ f k
unfolding digits
digit_at f zero k h = absurd (omega arith)
digit_at f (suc n) zero h = member_zero (digits f (suc n)) ∙ first_digit (f 0) (digits (λ k. f (suc k)) n)
digit_at f (suc n) (suc k) h =
    member_suc (digits f (suc n)) k ∙ rw (half (f 0) (digits (λ i. f (suc i)) n)) (digit_at (λ i. f (suc i)) n k (omega arith))

abbrev range_at : ℕ → ℕ → Bool
range_at from k = wake_range (value from) (value (k / 5)) (k % 5)

abbrev verdicts_of : ℕ → ℕ
verdicts_of from = digits (range_at from) 30

unfoldable pub verdicts : List ℕ
verdicts = each verdicts_of 5

verdicts_at : (from : ℕ) → from < 5 → get_or verdicts from 0 ≡ verdicts_of from
unfolding verdicts
verdicts_at from h = rw (← append-nil (each verdicts_of 5)) (get_each verdicts_of [] 0 5 from h ∙ ap verdicts_of (zero-add from))

-- each lookup in the array answers as the wake range
pub looked_up : (sxd sxw x from to : ℕ) (b : Bool) → from ≤ 4 → to ≤ 5 → x ≤ 4 → from ≡ sx_index sxd → to ≡ sx_index sxw → sxd < 256
    → sxw < 256 → b ≡ member (get_or verdicts from 0) (to * 5 + x) → b ≡ wake_range sxd sxw x
looked_up sxd sxw x from to r p q h d w m n e =
    let k = to * 5 + x in
    let a : k / 5 ≡ to = omega arith in
    let b : k % 5 ≡ x = omega arith in
    rw (verdicts_at from (omega arith), digit_at (range_at from) 30 k (omega arith), a, b, value_at sxd from m d, value_at sxw to n w) at e
