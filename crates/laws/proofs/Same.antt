-- Two places with the same bytes have the same number and the same device.
use mathlib.Core.Path.{◌≡◌, refl, sym, ap, ◌∙◌, fun_ext}
use mathlib.Core.Bool.{cond}
use mathlib.Core.List.{List}
use Prim.Native.Nat.{ℕ, zero, suc, ◌+◌, ◌*◌, ◌<◌}
use native.Mathlib.Nat.{add-zero}
use native.Mathlib.Omega.{arith}
use borrow.Author.Tests.{ltb-true, ltb-false}
use lib.Dec.{eqb, ltb}
use lib.ListN.{get_or}
use Rattle.sets.proofs.Laws.{decide}
use Rattle.words.specs.Words.{read_le}
use Rattle.rules.specs.Index.{below}
use Rattle.rules.specs.Station.{absent, fields_size, device_at}
use Rattle.rules.proofs.Index.{below_in, below_out}
use Rattle.laws.proofs.Fields.{set_inside}

pub read_same : (k : ℕ) (s t : List ℕ) (x y : ℕ) → ((i : ℕ) → i < k → get_or s (x + i) 0 ≡ get_or t (y + i) 0) → read_le k s x ≡ read_le k t y
unfolding read_le
read_same zero s t x y h = refl
read_same (suc k) s t x y h =
    let first : get_or s x 0 ≡ get_or t y 0 = rw (add-zero x, add-zero y) at (h 0 (omega arith)) in
    let rest = read_same k s t (x + 1) (y + 1)
    (λ i l.
    let a : x + 1 + i ≡ x + (i + 1) = omega arith in
    let b : y + 1 + i ≡ y + (i + 1) = omega arith in
    rw (a, b) (h (i + 1) (omega arith))) in
    rw (first, rest) refl

pub below_same : {A : Type 0} (n : ℕ) (other : A) (f g : ℕ → A) → ((i : ℕ) → i < n → f i ≡ g i) → below n other f ≡ below n other g
below_same n other f g h =
    fun_ext (λ i. decide (ltb i n)
    (λ e. let l = ltb-true i n e in below_in n other f i l ∙ h i l ∙ sym (below_in n other g i l))
    (λ e. let l = ltb-false i n e in below_out n other f i l ∙ sym (below_out n other g i l)))

module _ (w : ℕ) (s t : List ℕ) (a b : ℕ) (byte : (i : ℕ) → i < fields_size w → get_or s (a + i) 0 ≡ get_or t (b + i) 0) where
  byte_at : (i x y : ℕ) → x ≡ a + i → y ≡ b + i → i < fields_size w → get_or s x 0 ≡ get_or t y 0
  byte_at i x y e f h = rw (e, f) (byte i h)

  pub same_device : device_at w s a ≡ device_at w t b
  unfolding device_at
  same_device =
      let sets = below_same 5 0 (λ k. read_le w s (a + 4 + w * k)) (λ k. read_le w t (b + 4 + w * k))
      (λ k h. read_same w s t (a + 4 + w * k) (b + 4 + w * k)
      (λ i u. byte_at (4 + w * k + i) _ _ (omega arith) (omega arith) (omega (arith, set_inside w k h)))) in
      let states = below_same 5 absent (λ x. cond (eqb x 0) absent (get_or s (a + 3 + 5 * w + x) 0))
      (λ x. cond (eqb x 0) absent (get_or t (b + 3 + 5 * w + x) 0))
      (λ x h. ap (cond (eqb x 0) absent) (byte_at (3 + 5 * w + x) _ _ (omega arith) (omega arith) (omega arith))) in
      let limits = below_same 5 absent (λ x. get_or s (a + 8 + 5 * w + x) 0) (λ x. get_or t (b + 8 + 5 * w + x) 0)
      (λ x h. byte_at (8 + 5 * w + x) _ _ (omega arith) (omega arith) (omega arith)) in
      rw (
        byte_at 0 a b (omega arith) (omega arith) (omega arith),
        byte_at 1 (a + 1) (b + 1) refl refl (omega arith),
        byte_at 2 (a + 2) (b + 2) refl refl (omega arith),
        byte_at 3 (a + 3) (b + 3) refl refl (omega arith),
        sets,
        states,
        limits,
        byte_at (13 + 5 * w) (a + 13 + 5 * w) (b + 13 + 5 * w) (omega arith) (omega arith) (omega arith),
      ) refl
