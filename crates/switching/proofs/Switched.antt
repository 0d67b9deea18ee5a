-- A word that is decoded to a call which switches a resource is the word that switches it, and the other way round.
use mathlib.Core.Path.{◌≡◌, refl, sym, ap, ◌∙◌}
use mathlib.Core.Bool.{Bool, true, false}
use Prim.Native.Nat.{ℕ, ◌<◌}
use native.Mathlib.Omega.{arith}
use borrow.Author.Tests.{eqb-true, eq-eqb}
use lib.Dec.{eqb}
use Rattle.sets.proofs.Laws.{decide}
use Rattle.rules.specs.declared.Call.TheVariants.{ResourceOn, ResourceOff, SetState, SetWake}
use Rattle.rules.specs.declared.Call.{Call}
use Rattle.std.specs.Prelude.{Option, Some, None}
use Rattle.rules.specs.Station.{Station}
use Rattle.rules.specs.Calls.{call_of}
use Rattle.rules.specs.Check.{on_word, off_word, resource_in, may_come}
use Rattle.calls.specs.Switch.{switch_word}
use Rattle.calls.proofs.Inverse.{call_of_word, word_of_call}
use Rattle.std.specs.Prelude.{is_none, unwrap_or}
use Rattle.switching.specs.Decode.{switched_by, switched}
use Rattle.switching.specs.Phases.{follows, comes_next}

not_none : (r : ℕ) → Some r ≡ None → ⊥
not_none r e = let z : ◌≡◌ {A = ℕ} 0 1 = cc in omega arith

word_switches : (off : Bool) (r : ℕ) → r < 256 → switched off (call_of (switch_word off r)) ≡ Some r
unfolding switch_word switched switched_by
word_switches true r h = ap (switched true) (call_of_word (ResourceOff r) h)
word_switches false r h = ap (switched false) (call_of_word (ResourceOn r) h)

switches_word : (w r : ℕ) (off : Bool) (o : Option Call) → call_of w ≡ o → switched off o ≡ Some r → w ≡ switch_word off r
unfolding switch_word switched switched_by
switches_word w r true (Some (ResourceOff n)) e h = let z : n ≡ r = cc in sym (word_of_call w (ResourceOff n) e) ∙ ap off_word z
switches_word w r false (Some (ResourceOff n)) e h = absurd (not_none r (sym h))
switches_word w r true (Some (ResourceOn n)) e h = absurd (not_none r (sym h))
switches_word w r false (Some (ResourceOn n)) e h = let z : n ≡ r = cc in sym (word_of_call w (ResourceOn n) e) ∙ ap on_word z
switches_word w r off (Some (SetState d x)) e h = absurd (not_none r (sym h))
switches_word w r off (Some (SetWake d k)) e h = absurd (not_none r (sym h))
switches_word w r off None e h = absurd (not_none r (sym h))

-- the resource that the word names by its second byte
names : (off : Bool) (r : ℕ) → r < 256 → resource_in (switch_word off r) ≡ r
unfolding switch_word
names true r h = omega arith
names false r h = omega arith

-- ---- so the test of a word is the test of what it switches
module _ (s : Station) (off : Bool) (todo : ℕ) (last : Option ℕ) (w : ℕ) where
  pub come_none : switched off (call_of w) ≡ None → may_come (switch_word off) (follows s off) todo (is_none last) (unwrap_or last 0) w ≡ false
  unfolding may_come
  come_none e =
      decide (eqb w (switch_word off (resource_in w)))
      (λ p. let is = ap (λ (x : ℕ). switched off (call_of x)) (eqb-true _ _ p) ∙ word_switches off (resource_in w) (omega arith) in
      absurd (not_none (resource_in w) (sym is ∙ e)))
      (λ p. rw p refl)

  module _ (r : ℕ) (h : r < 256) (e : switched off (call_of w) ≡ Some r) where
    is_word : w ≡ switch_word off r
    is_word = switches_word w r off (call_of w) refl e

    pub come_names : resource_in w ≡ r
    come_names = ap resource_in is_word ∙ names off r h

    pub come_is : may_come (switch_word off) (follows s off) todo (is_none last) (unwrap_or last 0) w ≡ comes_next s off todo last r
    unfolding may_come comes_next
    come_is = rw (come_names, eq-eqb w (switch_word off r) is_word) refl
