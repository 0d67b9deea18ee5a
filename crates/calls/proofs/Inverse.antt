-- A call of RULES.md 2.9 is read back from its word, and a word that says a call is that call's word: no two words say the same.
use mathlib.Core.Path.{◌≡◌, refl, sym, ap, ◌∙◌, subst}
use mathlib.Core.Bool.{Bool, true, false, cond, ◌&&◌, and-false}
use mathlib.Core.Logic.{◌↔◌}
use Prim.Native.Nat.{ℕ, ◌+◌, ◌-◌, ◌*◌, ◌/◌, ◌%◌, ◌<◌, ◌≤◌}
use native.Mathlib.Omega.{arith}
use borrow.Author.Tests.{eqb-true, leb-true, eq-eqb, ne_eqb, le-leb}
use lib.Dec.{eqb, leb}
use Rattle.rules.specs.declared.Wake.TheVariants.{Enable, Disable}
use Rattle.rules.specs.declared.Call.{Call}
use Rattle.rules.specs.declared.Call.TheVariants.{ResourceOn, ResourceOff, SetState, SetWake}
use Rattle.std.specs.Prelude.{Option, Some, None}
use Rattle.rules.specs.Calls.{word4, word_of, wake_of, call_of_bytes, call_of}
use Rattle.laws.proofs.Tests.{both_true}
use Rattle.calls.specs.Ranges.{InRange}

-- the bytes of a word are those it was made of
of_bytes_lem : (a b c d : ℕ) → a < 256 → b < 256 → c < 256 → call_of (word4 a b c d) ≡ call_of_bytes a b c d
unfolding call_of
of_bytes_lem a b c d ha hb hc =
    let w = word4 a b c d in
    let low : w / 0x100 ≡ b + 0x100 * (c + 0x100 * d) = omega arith in
    let high : w / 0x1_0000 ≡ c + 0x100 * d = omega arith in
    let pa : w % 0x100 ≡ a = omega arith in
    let pb : w / 0x100 % 0x100 ≡ b = rw low (omega arith) in
    let pc : w / 0x1_0000 % 0x100 ≡ c = rw high (omega arith) in
    let pd : w / 0x100_0000 ≡ d = omega arith in
    cc

pub call_of_word : (c : Call) → InRange c → call_of (word_of c) ≡ Some c
unfolding call_of_bytes wake_of
call_of_word (ResourceOn r) h = of_bytes_lem 1 r 0 0 (omega arith) h (omega arith)
call_of_word (ResourceOff r) h = of_bytes_lem 2 r 0 0 (omega arith) h (omega arith)
call_of_word (SetState d x) h = of_bytes_lem 3 d x 0 (omega arith) h.0 (omega arith) ∙ rw (le-leb x 3 h.1)
call_of_word (SetWake d (Enable s x)) h =
    let n : 128 + x ≡ 0 → ⊥ = λ e. omega arith in
    let y : 128 + x - 128 ≡ x = omega arith in
    let low : 128 ≤ 128 + x = omega arith in
    let high : 128 + x ≤ 132 = omega arith in
    let small : s ≤ 4 = h.1.0 in
    of_bytes_lem 4 d s (128 + x) (omega arith) h.0 (omega arith) ∙ simp (ne_eqb, and-false, le-leb, y)
call_of_word (SetWake d Disable) h = of_bytes_lem 4 d 0 0 (omega arith) h.0 (omega arith)

-- the other way: whatever call a tree of tests ends in has the word w
Right : ℕ → Option Call → Type 0
Right w (Some c) = word_of c ≡ w
Right w None = Unit {0}

at_cond : (w : ℕ) (b : Bool) (p q : Option Call) → (b ≡ true → Right w p) → Right w q → Right w (cond b p q)
at_cond w true p q f g = f refl
at_cond w false p q f g = g

ends : (w : ℕ) (c : Call) → word_of c ≡ w → Right w (Some c)
unfolding Right
ends w c e = e

none : (w : ℕ) → Right w None
unfolding Right
none w = tt

-- a call under three tests
at_call : (w : ℕ) (a b c : Bool) (p : Call) (q : Option Call)
    → (a ≡ true → b ≡ true → c ≡ true → word_of p ≡ w) → Right w q → Right w (cond (a && b && c) (Some p) q)
at_call w a b c p q f g =
    at_cond w (a && b && c) (Some p) q
    (λ t. let u = both_true (a && b) c t in let v = both_true a b u.0 in ends w p (f v.0 v.1 u.1)) g

module _ (w k d x y : ℕ) (e : w ≡ word4 k d x y) where
  wake_right : k ≡ 4 → Right w (wake_of d x y)
  unfolding wake_of
  wake_right h =
      at_call w true (eqb x 0) (eqb y 0) (SetWake d Disable) _ (λ _ t u. omega (arith, eqb-true x 0 t, eqb-true y 0 u))
      (at_call w (leb x 4) (leb 128 y) (leb y 132) (SetWake d (Enable x (y - 128))) _ (λ _ t _. omega (arith, leb-true 128 y t)) (none w))

  bytes_right : Right w (call_of_bytes k d x y)
  unfolding call_of_bytes
  bytes_right =
      at_call w (eqb k 1) (eqb x 0) (eqb y 0) (ResourceOn d) _ (λ a b c. omega (arith, eqb-true k 1 a, eqb-true x 0 b, eqb-true y 0 c))
      (at_call w (eqb k 2) (eqb x 0) (eqb y 0) (ResourceOff d) _ (λ a b c. omega (arith, eqb-true k 2 a, eqb-true x 0 b, eqb-true y 0 c))
      (at_call w (eqb k 3) (leb x 3) (eqb y 0) (SetState d x) _ (λ a _ c. omega (arith, eqb-true k 3 a, eqb-true y 0 c))
      (at_cond w (eqb k 4) _ _ (λ a. wake_right (eqb-true k 4 a)) (none w))))

-- every word is the word of its four bytes
whole : (w : ℕ) → w ≡ word4 (w % 0x100) (w / 0x100 % 0x100) (w / 0x1_0000 % 0x100) (w / 0x100_0000)
whole w = omega arith

pub word_of_call : (w : ℕ) (c : Call) → call_of w ≡ Some c → word_of c ≡ w
unfolding Right call_of
word_of_call w c e = subst (Right w) e (bytes_right w _ _ _ _ (whole w))

-- so to compare a word with a call's word is to read it and find that call
pub says_call : (w : ℕ) (c : Call) → InRange c → eqb w (word_of c) ≡ true ↔ call_of w ≡ Some c
says_call w c h = (λ e. ap call_of (eqb-true w (word_of c) e) ∙ call_of_word c h, λ e. eq-eqb w (word_of c) (sym (word_of_call w c e)))

pub ruleset inverse = (call_of_word, word_of_call, says_call)
