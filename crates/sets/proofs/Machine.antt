-- What the machine's operations on a word of w bits give, for every w. `a | b` and `a ^ (a & b)` are `union` and `minus` as they stand.
use mathlib.Core.Path.{◌≡◌, sym, ◌∙◌}
use mathlib.Core.Bool.{true}
use Prim.Native.Nat.{ℕ, ◌*◌, ◌/◌, ◌%◌, ◌^◌, ◌≤◌, ◌<◌}
use native.Mathlib.Nat.{one-mul, div-eq_of_lt, div-lt_iff_lt-mul, le_trans}
use native.Mathlib.Omega.{arith}
use lib.Dec.{lit<, eqb, ltb}
use lib.Pow.{shl_exact, pow_pos, pow_mono}
use borrow.Author.Tests.{eq-eqb, ne_eqb, lt-ltb, ltb-true, ltb-false}
use Rattle.sets.specs.Sets.{single}
use Rattle.sets.proofs.Laws.{decide}

-- `1 << r`
pub shl_single : (w r : ℕ) → r < w → 1 * 2 ^ r % 2 ^ w ≡ single r
unfolding single
shl_single w r h = shl_exact 1 r w (lit< tt) (omega arith) ∙ one-mul (2 ^ r)

pub single_pos : (r : ℕ) → 0 < single r
unfolding single
single_pos r = pow_pos r

-- `(s >> n) == 0`
pub shr_fits : (s n : ℕ) → eqb (s / 2 ^ n) 0 ≡ ltb s (2 ^ n)
shr_fits s n =
    decide (ltb s (2 ^ n))
    (λ e. rw e (eq-eqb (s / 2 ^ n) 0 (div-eq_of_lt (ltb-true s (2 ^ n) e))))
    (λ e. rw e (ne_eqb (s / 2 ^ n) 0 (λ z. omega (
      arith,
      (div-lt_iff_lt-mul {k = 2 ^ n} {x = s} {y = 1} (pow_pos n)).0 (omega arith),
      ltb-false s (2 ^ n) e,
    ))))

-- past the width: a word has no bit there
pub past_fits : (w s n : ℕ) → s < 2 ^ w → w ≤ n → true ≡ ltb s (2 ^ n)
past_fits w s n h l = sym (lt-ltb s (2 ^ n) (le_trans h (pow_mono l)))
