-- Each answer of the request's checks from the tests that lead to it.
use mathlib.Core.Path.{◌≡◌, refl, sym, ap, ◌∙◌}
use mathlib.Core.Bool.{Bool, true, false, not, ◌&&◌}
use mathlib.Core.List.{List, [], ◌∷◌}
use Prim.Native.Nat.{ℕ, ◌*◌, ◌<◌, ◌≤◌}
use native.Mathlib.Omega.{arith}
use borrow.Author.Tests.{ne_eqb, le-leb, lt-leb, not-true, not-false}
use lib.Dec.{leb}
use mir.Syntax.{w8}
use mir.Val.{Fits}
use Rattle.rules.specs.declared.Entry.{Entry}
use Rattle.rules.specs.declared.Request.{Request}
use Rattle.rules.specs.Verdict.{Verdict}
use Rattle.std.specs.Prelude.{Option, Some, None, Ok}
use Rattle.rules.specs.Verdict.{refuse}
use Rattle.rules.specs.declared.Reason.{Reason}
use Rattle.rules.specs.declared.Reason.TheVariants.{BadRequest, ChildShallower, TooDeepToWake}
use Rattle.rules.specs.declared.Reason.TheVariants.{BadWakeState}
use Rattle.rules.specs.Index.{least_option}
use Rattle.rules.specs.Answers.{passes, first_of, unless, lowest}
use Rattle.rules.specs.Station.{Station, count_d, station_of, station}
use Rattle.rules.specs.Power.{supported, wake_from, wake_powered, wake_state}
use Rattle.rules.specs.Request.{form_good, not_shallower_or_d0, child_bars, wake_allows, move_verdict, arm_verdict}
use Rattle.rules.specs.Request.{kind_verdict, request_verdict}
use Rattle.rules.specs.Status.{entry_at, entries, parent_allows}
use Rattle.rules.proofs.Answers.{done_passes, lowest_some, lowest_no, first_pass, first_alone}
use Rattle.laws.proofs.States.{small, form_device}
use Rattle.status.specs.Ready.{Ready}
use Rattle.status.proofs.Keeps.{entry_ready}

-- what the checks of each kind ask, a law for each number, so that the search finds it; f is the answer of the form's test
module _ (t : List ℕ) (q : Request) (f : Bool) (form : f ≡ form_good (station t) q) (good : not f ≡ false) where
  in_form : form_good (station t) q ≡ true
  in_form = sym form ∙ not-false f good

  pub device_below : q.device < count_d t
  device_below = unfold station_of in form_device (station t) q in_form

  pub first_below : q.a < 5
  first_below = omega (arith, small (station t) q in_form)

  pub second_below : q.b < 5
  second_below = omega (arith, small (station t) q in_form)

-- a cast asks that the number fits a byte
pub byte_below : (n : ℕ) → n < 5 → Fits w8 n
byte_below n h = record { fits = omega arith }

pub ruleset in_range = (device_below, first_below, second_below, byte_below)

-- a last check
unless_alone : (good : Bool) (why : Reason) (at : ℕ) → first_of (unless good why at ∷ []) (Ok 0) ≡ unless good why at
unfolding first_of unless passes
unless_alone true why at = refl
unless_alone false why at = refl

-- ---- 14 and 15. The premises are as the contracts and the tests on the way give them, so that the search finds them: each test's result
-- stands apart from what it tests
module _ (t b : List ℕ) (r : Ready t b) (d x : ℕ) (h : d < count_d t) (u : Entry) (read : u ≡ entry_at b (4 * d)) (y e c : Bool)
    (known : y ≡ supported (station t) d x) (yes : not y ≡ false) (deep : e ≡ not_shallower_or_d0 u x) (yes2 : not e ≡ false)
    (up : c ≡ parent_allows (station t) (entries t b) d x) (yes3 : not c ≡ false) (k : Option ℕ)
    (low : k ≡ least_option (child_bars (station t) (entries t b) d x) (count_d t)) where
  own : u ≡ entries t b d
  own = entry_ready t b d u r h read

  to_14 : move_verdict (station t) (entries t b) d x
      ≡ first_of (lowest (child_bars (station t) (entries t b) d x) (count_d t) (refuse ChildShallower) ∷ unless (wake_allows u x)
      TooDeepToWake 0 ∷ []) (Ok 0)
  unfolding move_verdict first_of unless passes station_of
  to_14 = rw (← own, sym known ∙ not-false y yes, sym deep ∙ not-false e yes2, sym up ∙ not-false c yes3) refl

  pub move_14 : (i : ℕ) → k ≡ Some i → refuse ChildShallower i ≡ move_verdict (station t) (entries t b) d x
  unfolding first_of passes
  move_14 i some =
      rw (to_14, ← lowest_some (child_bars (station t) (entries t b) d x) (count_d t) i (refuse ChildShallower) (sym some ∙ low)) refl

  module _ (none : k ≡ None) (g : Bool) (w : g ≡ wake_allows u x) where
    to_15 : move_verdict (station t) (entries t b) d x ≡ unless g TooDeepToWake 0
    to_15 =
        to_14 ∙ first_pass _ _ (Ok 0) (ap passes (lowest_no _ _ (refuse ChildShallower) (sym none ∙ low)) ∙ done_passes 0)
        ∙ rw w (unless_alone (wake_allows u x) TooDeepToWake 0)

    pub move_15 : not g ≡ true → refuse TooDeepToWake 0 ≡ move_verdict (station t) (entries t b) d x
    unfolding unless
    move_15 z = rw (to_15, not-true g z) refl

    pub move_done : not g ≡ false → Ok 0 ≡ move_verdict (station t) (entries t b) d x
    unfolding unless
    move_done z = rw (to_15, not-false g z) refl

pub ruleset moving = (move_14, move_15, move_done)

-- ---- 18
module _ (s : Station) (entries : ℕ → Entry) (d x y : ℕ) (a b c : Bool) (from : a ≡ wake_from s d x) (yes : not a ≡ false)
    (level : b ≡ wake_powered s d x) (yes2 : not b ≡ false) (state : c ≡ wake_state s d x y) where
  to_18 : arm_verdict s entries d x y ≡ unless (c && leb (entries d).state y) BadWakeState 0
  unfolding arm_verdict first_of unless passes
  to_18 = rw (sym from ∙ not-false a yes, sym level ∙ not-false b yes2, sym state) (unless_alone (c && leb (entries d).state y) BadWakeState 0)

  pub arm_18 : not c ≡ true → refuse BadWakeState 0 ≡ arm_verdict s entries d x y
  unfolding unless
  arm_18 n = rw (to_18, not-true c n) refl

  pub arm_deeper : not c ≡ false → (u : Entry) → u ≡ entries d → y < u.state → refuse BadWakeState 0 ≡ arm_verdict s entries d x y
  unfolding unless
  arm_deeper n u e h = rw (to_18, not-false c n, ← e, lt-leb u.state y h) refl

  pub arm_done : not c ≡ false → (u : Entry) → u ≡ entries d → u.state ≤ y → Ok 0 ≡ arm_verdict s entries d x y
  unfolding unless
  arm_done n u e h = rw (to_18, not-false c n, ← e, le-leb u.state y h) refl

pub ruleset arming = (entry_ready, arm_18, arm_deeper, arm_done)

-- ---- 10 to 18
module _ (s : Station) (entries : ℕ → Entry) (q : Request) (f : Bool) (form : f ≡ form_good s q) where
  pub asked_10 : not f ≡ true → refuse BadRequest 0 ≡ request_verdict s entries q
  unfolding request_verdict first_of unless passes
  asked_10 n = rw (sym form ∙ not-true f n) refl

  pub asked_move : not f ≡ false → q.kind ≡ 1 → (v : Verdict) → v ≡ move_verdict s entries q.device q.a
      → v ≡ request_verdict s entries q
  unfolding request_verdict kind_verdict move_verdict
  asked_move n k v e = e ∙ sym (rw (sym form ∙ not-false f n, k) (first_pass (unless true BadRequest 0) _ (Ok 0) (unfold unless passes in
      refl) ∙ first_alone _))

  pub asked_arm : not f ≡ false → q.kind ≡ 2 → (v : Verdict) → v ≡ arm_verdict s entries q.device q.a q.b
      → v ≡ request_verdict s entries q
  unfolding request_verdict kind_verdict arm_verdict
  asked_arm n k v e = e ∙ sym (rw (sym form ∙ not-false f n, k) (first_pass (unless true BadRequest 0) _ (Ok 0) (unfold unless passes in
      refl) ∙ first_alone _))

  pub asked_disarm : not f ≡ false → (q.kind ≡ 1 → ⊥) → (q.kind ≡ 2 → ⊥) → Ok 0 ≡ request_verdict s entries q
  unfolding request_verdict kind_verdict first_of unless passes
  asked_disarm n k l = rw (sym form ∙ not-false f n, ne_eqb q.kind 1 k, ne_eqb q.kind 2 l) refl

pub ruleset asking = (asked_10, asked_move, asked_arm, asked_disarm)
