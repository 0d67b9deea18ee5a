-- The laws of the sets, each once, for every width: which resources are in each set, how large the number is, and that a set is known by
-- its members.
use mathlib.Core.Path.{◌≡◌, refl, sym, ap, ◌∙◌}
use mathlib.Core.Bool.{Bool, true, false, cond, not, ◌||◌, ◌&&◌, and-true, and-false, true≢false}
use Prim.Native.Nat.{ℕ, zero, suc, ◌-◌, ◌/◌, ◌%◌, ◌^◌, ◌≤◌, ◌<◌}
use native.Mathlib.Nat.{pow-suc, zero-div, div-eq_of_lt, le_trans, lt_of_le_of_lt}
use native.Mathlib.Omega.{arith}
use lib.Arith.{bin_ind}
use lib.Bits.{bit_and, bit_or, bit_xor, or_zero_l, or_comm, and_le_l, or_lt, xor_lt, and_shr, or_shr, xor_shr}
use lib.Bits.{and_mod, or_mod, xor_mod}
use lib.Dec.{eqb, ltb, eqb-zero-suc, eqb-suc-zero, eqb-suc-suc, leb-suc-suc}
use lib.Pow.{pow_pos, pow_mono}
use borrow.Author.Tests.{eqb-true, eqb-false, eq-eqb, ne_eqb, ltb-true, ltb-false, lt-ltb, le-ltb, not-false}
use Rattle.std.proofs.Math.Bool.{or_assoc}
use Rattle.std.proofs.lemmas.Nat.{le_or_l}
use Rattle.std.proofs.lemmas.Nat.Bits.{same_from_bits, same_from_bits_below}
use Rattle.sets.specs.Sets.{member, union, minus, single, first_n, subset}
use Rattle.sets.proofs.Bits.{both, member_op}
pub use Rattle.sets.proofs.Bits.{decide, bit_member, member_zero, member_suc}

-- ---- the members of each set

minus_shr : (a b k : ℕ) → minus a b / 2 ^ k ≡ minus (a / 2 ^ k) (b / 2 ^ k)
unfolding minus
minus_shr a b k = xor_shr a (bit_and a b) k ∙ ap (bit_xor (a / 2 ^ k)) (and_shr a b k)

minus_low : (a b k : ℕ) → minus a b % 2 ^ k ≡ minus (a % 2 ^ k) (b % 2 ^ k)
unfolding minus
minus_low a b k = xor_mod a (bit_and a b) k ∙ ap (bit_xor (a % 2 ^ k)) (and_mod a b k)

pub member_union : (a b r : ℕ) → member (union a b) r ≡ member a r || member b r
unfolding union
member_union a b r =
    member_op bit_or or_shr or_mod a b r
    ∙ both (λ (x y : Bool). eqb (bit_or (cond x 1 0) (cond y 1 0)) 1 ≡ x || y) refl refl refl refl (member a r) (member b r)

pub member_minus : (a b r : ℕ) → member (minus a b) r ≡ member a r && not (member b r)
unfolding minus
member_minus a b r =
    member_op minus minus_shr minus_low a b r
    ∙ both (λ (x y : Bool). eqb (minus (cond x 1 0) (cond y 1 0)) 1 ≡ x && not y) refl refl refl refl (member a r) (member b r)

pub member_none : (r : ℕ) → member 0 r ≡ false
unfolding member
member_none r = rw (zero-div (2 ^ r))

pub member_single : (r k : ℕ) → member (single r) k ≡ eqb k r
unfolding single
member_single zero zero = member_zero 1
member_single zero (suc k) = member_suc 1 k ∙ member_none k ∙ sym (eqb-suc-zero k)
member_single (suc r) zero =
    member_zero (2 ^ suc r) ∙ ne_eqb (2 ^ suc r % 2) 1 (omega (arith, pow-suc 2 r)) ∙ sym (eqb-zero-suc r)
member_single (suc r) (suc k) =
    let half : 2 ^ suc r / 2 ≡ 2 ^ r = omega (arith, pow-suc 2 r) in
    member_suc (2 ^ suc r) k ∙ rw half (member_single r k ∙ sym (eqb-suc-suc k r))

pub member_first_n : (n r : ℕ) → member (first_n n) r ≡ ltb r n
unfolding first_n
member_first_n zero r = member_none r ∙ sym (le-ltb r 0 (omega arith))
member_first_n (suc n) zero =
    member_zero (2 ^ suc n - 1) ∙ eq-eqb ((2 ^ suc n - 1) % 2) 1 (omega (arith, pow-suc 2 n, pow_pos n))
    ∙ sym (lt-ltb 0 (suc n) (omega arith))
member_first_n (suc n) (suc r) =
    let half : (2 ^ suc n - 1) / 2 ≡ 2 ^ n - 1 = omega (arith, pow-suc 2 n, pow_pos n) in
    member_suc (2 ^ suc n - 1) r ∙ rw half (member_first_n n r ∙ sym (leb-suc-suc (suc r) n))

pub member_small : (w s r : ℕ) → s < 2 ^ w → w ≤ r → member s r ≡ false
unfolding member
member_small w s r h l = rw (div-eq_of_lt (le_trans h (pow_mono l)))

-- ---- how large the number is

pub member_below : (n m r : ℕ) → m < 2 ^ n → member m r ≡ true → r < n
member_below n m r u h =
    decide (ltb r n) (ltb-true r n) (λ e. absurd (true≢false (sym h ∙ member_small n m r u (ltb-false r n e))))

pub union_lt : (w a b : ℕ) → a < 2 ^ w → b < 2 ^ w → union a b < 2 ^ w
unfolding union
union_lt = or_lt

pub minus_lt : (w a b : ℕ) → a < 2 ^ w → minus a b < 2 ^ w
unfolding minus
minus_lt w a b h = xor_lt w a (bit_and a b) h (lt_of_le_of_lt (and_le_l a b) h)

pub first_n_lt : (w n : ℕ) → n ≤ w → first_n n < 2 ^ w
unfolding first_n
first_n_lt w n h = omega (arith, pow_pos n, pow_mono h)

fewer : (x y : Bool) → cond (x && not y) 1 0 ≤ cond x 1 0
fewer = both (λ (x y : Bool). cond (x && not y) 1 0 ≤ cond x 1 0) (omega arith) (omega arith) (omega arith) (omega arith)

pub minus_le : (a b : ℕ) → minus a b ≤ a
minus_le =
    bin_ind (λ (n : ℕ). (b : ℕ) → minus n b ≤ n)
    (λ b. unfold minus in omega arith)
    (λ n ih b. omega (
      arith,
      ih (b / 2),
      minus_shr n b 1,
      bit_member n 0,
      rw (member_minus n b 0) at (bit_member (minus n b) 0),
      fewer (member n 0) (member b 0),
    ))

-- ---- a set is known by its members

-- what a bit is, from whether it is a member
same_bit : (a b r : ℕ) → member a r ≡ member b r → a / 2 ^ r % 2 ≡ b / 2 ^ r % 2
same_bit a b r e = bit_member a r ∙ ap {B = ℕ} (λ (x : Bool). cond x 1 0) e ∙ sym (bit_member b r)

pub ext : (w a b : ℕ) → a < 2 ^ w → b < 2 ^ w → ((r : ℕ) → r < w → member a r ≡ member b r) → a ≡ b
ext w a b ha hb e = same_from_bits_below w a b ha hb (λ r l. same_bit a b r (e r l))

pub empty : (w s : ℕ) → s < 2 ^ w → ((r : ℕ) → r < w → member s r ≡ false) → s ≡ 0
empty w s h f = ext w s 0 h (pow_pos w) (λ r l. f r l ∙ sym (member_none r))

-- ---- unions of several sets

pub union_assoc : (a b c : ℕ) → union (union a b) c ≡ union a (union b c)
union_assoc a b c =
    same_from_bits _ _
    (λ r. same_bit _ _ r (rw (member_union (union a b) c r, member_union a b r, member_union a (union b c) r, member_union b c r)
    (or_assoc (member a r) (member b r) (member c r))))

pub union_comm : (a b : ℕ) → union a b ≡ union b a
unfolding union
union_comm a b = or_comm a b

pub union_empty : (a : ℕ) → union 0 a ≡ a
unfolding union
union_empty a = or_zero_l a

-- ---- all of a is in b

pub subset_at : (a b r : ℕ) → subset a b ≡ true → member a r ≡ true → member b r ≡ true
unfolding subset
subset_at a b r h m =
    not-false (member b r)
    (sym (rw m at (member_minus a b r)) ∙ rw (eqb-true (minus a b) 0 h) (member_none r))

implied : (x y : Bool) → (x ≡ true → y ≡ true) → x && not y ≡ false
implied true y h = rw (h refl)
implied false y h = refl

pub subset_of : (w a b : ℕ) → a < 2 ^ w → ((r : ℕ) → r < w → member a r ≡ true → member b r ≡ true) → subset a b ≡ true
unfolding subset
subset_of w a b h f =
    eq-eqb (minus a b) 0
    (empty w (minus a b) (minus_lt w a b h) (λ r l. member_minus a b r ∙ implied (member a r) (member b r) (f r l)))

-- ---- one resource taken out

pub minus_single_same : (s r : ℕ) → member (minus s (single r)) r ≡ false
minus_single_same s r = member_minus s (single r) r ∙ rw (member_single r r, eq-eqb r r refl) (and-false (member s r))

pub minus_single_other : (s r k : ℕ) → (k ≡ r → ⊥) → member (minus s (single r)) k ≡ member s k
minus_single_other s r k h = member_minus s (single r) k ∙ rw (member_single r k, ne_eqb k r h) (and-true (member s k))

-- the number falls: the measure of a loop that takes members out one by one
pub minus_single_lt : (s r : ℕ) → member s r ≡ true → minus s (single r) < s
minus_single_lt s r h =
    let other : minus s (single r) ≡ s → ⊥ =
    λ e. true≢false (sym h ∙ ap (λ (x : ℕ). member x r) (sym e) ∙ minus_single_same s r) in
    omega (arith, minus_le s (single r))

-- ---- a union is empty where both sets are

pub or_none : (a b : ℕ) → eqb (bit_or a b) 0 ≡ eqb a 0 && eqb b 0
or_none a b =
    decide (eqb a 0)
    (λ e. rw (e, eqb-true a 0 e) refl)
    (λ e. let no = eqb-false a 0 e in rw e (ne_eqb (bit_or a b) 0 (λ z. no (omega (arith, le_or_l a b)))))

pub union_none : (a b : ℕ) → eqb (union a b) 0 ≡ eqb a 0 && eqb b 0
unfolding union
union_none a b = or_none a b
