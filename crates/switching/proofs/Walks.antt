-- A whole list from its phases: a phase that is refused ends it, and what the last leaves must be nothing.
use mathlib.Core.Path.{◌≡◌, refl, sym, ap, ◌∙◌, fun_ext}
use mathlib.Core.Bool.{Bool, true, false}
use mathlib.Core.List.{List, [], ◌∷◌}
use Prim.Native.Nat.{ℕ, ◌≤◌, ◌<◌}
use native.Mathlib.Omega.{arith}
use lib.Dec.{eqb}
use lib.ListN.{length}
use lib.Seq.{drop-cons}
use Rattle.sets.proofs.Laws.{decide}
use Rattle.rules.specs.declared.Call.{Call}
use Rattle.std.specs.Prelude.{Option, Some, None}
use Rattle.rules.specs.Station.{Station}
use Rattle.rules.specs.Calls.{word_of, list_of, to_turn_on, to_turn_off, switching_of}
use Rattle.rules.specs.Check.{Rest, left, refused, and_then, take_words, take_set, is_end, on_word, off_word, not_lower, not_higher}
use Rattle.rules.specs.Check.{first_calls, last_calls, conforming}
use Rattle.calls.specs.Switch.{switch_word}
use Rattle.std.specs.Borrow.{Bor}
use Rattle.std.proofs.lemmas.List.{nil_from_length}
use Rattle.switching.specs.Phases.{Leaves, follows, own_words, take_phases, take_switching, walked}

-- ---- a call's word
module _ (w : ℕ) where
  pub word_short : (ws : List ℕ) → length ws ≡ 0 → refused ≡ take_words (w ∷ []) ws
  unfolding take_words
  word_short [] h = refl
  word_short (x ∷ ws) h = absurd (omega arith)

  -- b is whether the first word is that
  module _ (ws rest : List ℕ) (x : ℕ) (b : Bool) (l : ws ≡ x ∷ rest) (e : b ≡ eqb x w) where
    pub word_other : b ≡ false → refused ≡ take_words (w ∷ []) ws
    unfolding take_words
    word_other n = rw (l, sym e ∙ n, take_words) refl

    pub word_here : b ≡ true → left rest ≡ take_words (w ∷ []) ws
    unfolding take_words
    word_here n = rw (l, sym e ∙ n, take_words) refl

-- ---- the own call, where it is due
module _ (ws : List ℕ) (own : Option Call) (here : Bool) where
  pub own_elsewhere : here ≡ false → left ws ≡ take_words (own_words here own) ws
  unfolding take_words own_words
  own_elsewhere n = rw n refl

  pub no_own_call : own ≡ None → left ws ≡ take_words (own_words here own) ws
  unfolding take_words own_words list_of
  no_own_call e = rw e (decide here (λ h. rw h refl) (λ h. rw h refl))

  pub own_is : (c : Call) (r : Option (Bor (List ℕ))) → here ≡ true → own ≡ Some c → Leaves r (take_words (word_of c ∷ []) ws)
      → Leaves r (take_words (own_words here own) ws)
  unfolding own_words list_of
  own_is c r n e h = rw (n, e) h

pub ruleset own_call_lem = (word_short, word_other, word_here, own_elsewhere, no_own_call, own_is)

-- ---- the end of the list
module _ (r : Option (Bor (List ℕ))) (v : Rest) (h : Leaves r v) where
  pub at_the_end : (ws : Bor (List ℕ)) → r ≡ Some ws → length ws.now < 1 → true ≡ is_end v
  unfolding is_end
  at_the_end ws e n = let none : ws.now ≡ [] = nil_from_length ws.now (omega arith) in rw (← rw e at h, none)

  pub not_at_the_end : (ws : Bor (List ℕ)) → r ≡ Some ws → 1 ≤ length ws.now → false ≡ is_end v
  unfolding is_end
  not_at_the_end ws e n = rw (← rw e at h, drop-cons ws.now 0 0 n)

  pub no_end : r ≡ None → false ≡ is_end v
  unfolding is_end
  no_end e = rw (← rw e at h)

pub ruleset endings = (at_the_end, not_at_the_end, no_end)

-- ---- the walk over a switching is the test
then_then : (r : Rest) (f g : List ℕ → Rest) → and_then (and_then r f) g ≡ and_then r (λ a. and_then (f a) g)
unfolding and_then
then_then (left a) f g = refl
then_then refused f g = refl

joined : (r : Rest) (ons offs last : List ℕ → Rest)
    → and_then r (λ a. and_then (and_then (ons a) offs) last) ≡ and_then r (λ a. and_then (ons a) λ b. and_then (offs b) last)
unfolding and_then
joined (left a) ons offs last = then_then (ons a) offs last
joined refused ons offs last = refl

pub walked_is : (s : Station) (own : Option Call) (last : Bool) (on target : ℕ) (ws : List ℕ)
    → walked s (switching_of own last on target) ws ≡ conforming s (list_of own) last on target ws
unfolding walked take_switching take_phases conforming switch_word follows own_words first_calls last_calls
walked_is s own true on target ws = ap is_end (joined _ _ _ _)
walked_is s own false on target ws = ap is_end (joined _ _ _ _)

-- without own calls, the ONs and the OFFs are all
then_left : (r : Rest) → and_then r left ≡ r
unfolding and_then
then_left (left a) = refl
then_left refused = refl

pub phases_are : (s : Station) (on target : ℕ) (ws : List ℕ)
    → is_end (take_phases s (to_turn_on on target) (to_turn_off on target) ws) ≡ conforming s [] false on target ws
unfolding take_phases conforming switch_word follows first_calls last_calls take_words and_then
phases_are s on target ws =
    let off = take_set off_word (not_higher s) (to_turn_off on target) true 0 in
    ap (λ (f : List ℕ → Rest). is_end (and_then (take_set on_word (not_lower s) (to_turn_on on target) true 0 ws) f))
    (fun_ext (λ a. sym (then_left (off a))))
