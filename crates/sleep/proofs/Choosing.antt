-- Which states a device may take, the least of them, and answers 10 and 20: a law for each way out of the code that tests them.
use mathlib.Core.Path.{◌≡◌, refl, sym, ◌∙◌}
use mathlib.Core.Bool.{Bool, true, false, ◌&&◌, and-false, and_comm}
use mathlib.Core.Logic.{⊎_elim}
use mathlib.Core.List.{List}
use Prim.Native.Nat.{ℕ, ◌+◌, ◌*◌, ◌≤◌, ◌<◌}
use native.Mathlib.Omega.{arith}
use borrow.Author.Tests.{eqb-true, ltb-true, le-leb, lt-leb}
use lib.Dec.{eqb, leb, ltb}
use lib.ListN.{length, set}
use Rattle.words.specs.Words.{put}
use Rattle.rules.specs.declared.Entry.{Entry}
use Rattle.rules.specs.Station.{count_d, station_of, station}
use Rattle.rules.specs.Table.{parent_good}
use Rattle.rules.specs.Power.{supported, needs, powered_in}
use Rattle.rules.specs.Status.{entry_at, entries, under_parent}
use Rattle.rules.specs.Request.{in_state}
use Rattle.rules.specs.Sleep.{armed_for_other, sxd_allows, wake_d_if_armed, may_take, may_take_under, least_state, least_choice}
use Rattle.rules.specs.Index.{each}
use Rattle.laws.proofs.Tests.{or_cases}
use Rattle.laws.proofs.Choice.{least_by}
use Rattle.status.specs.Ready.{Ready}
use Rattle.status.proofs.Keeps.{entry_ready}
use Rattle.status.proofs.Filled.{filled_none, filled_next, filled_at}
use Rattle.sleep.specs.Chosen.{states_in, deep_enough, other_rules, least_each}

-- ---- a parent, whose number is p
module _ (t : List ℕ) (d p : ℕ) (q : p ≡ ((station t).device d).parent) where
  -- it is lower than its child
  pub parent_inside : (n : ℕ) → parent_good d ((station t).device d) ≡ true → d < count_d t → count_d t ≤ n → (p ≡ 255 → ⊥) → p < n
  unfolding parent_good
  parent_inside n good h l some =
      let u = ((station t).device d).parent in
      ⊎_elim (λ a. omega (arith, ltb-true u d a)) (λ a. absurd (some (q ∙ eqb-true u 255 a))) (or_cases (ltb u d) (eqb u 255) good)

-- whether device d is armed for another sleep state
abbrev pub other : List ℕ → List ℕ → ℕ → ℕ → Bool
other t b x d = armed_for_other (entries t b d) x

-- ---- which states a device may take
-- the three tests that the shallowest state stands for, brought together before the other three
regroup : (s l x p w u : Bool) → s && l && x && p && w && u ≡ (l && x && u) && (s && p && w)
regroup true true true p w u = and_comm (p && w) u
regroup true true false p w u = refl
regroup true false x p w u = refl
regroup false l x p w u = sym (and-false (l && x && u))

-- e is the entry of the device, and v the shallowest state that is left
module _ (t b chosen : List ℕ) (x d : ℕ) (r : Ready t b) (k : d < count_d t) (e : Entry) (read : e ≡ entry_at b (4 * d)) (v : ℕ)
    (left : (y : ℕ) → leb v y ≡ deep_enough (station t) (states_in chosen) x d e.state y) where
  abbrev taken : ℕ → Bool
  taken = may_take_under (station t) (entries t b) x (states_in chosen) d

  taken_is : (y : ℕ) → taken y ≡ leb v y && other_rules (station t) x d e y
  unfolding may_take_under may_take
  taken_is y =
      rw (← entry_ready t b d e r k read, left y)
      (regroup (supported (station t) d y) (leb e.state y) (sxd_allows (station t) x d y)
      (powered_in (station t) x (needs (station t) d (in_state e y))) (wake_d_if_armed e y) (under_parent (station t) (states_in chosen) d y))

  pub none_shallower : (y : ℕ) → y < v → taken y ≡ false
  none_shallower y h = taken_is y ∙ rw (lt-leb v y h) refl

  -- c is whether it may take state y by the other rules
  pub taken_by : (y : ℕ) (c : Bool) → c ≡ other_rules (station t) x d e y → v ≤ y → c ≡ taken y
  taken_by y c test low = sym (taken_is y ∙ rw (le-leb v y low) (sym test))

-- ---- the loop that chooses; y is the least state of device i, and the devices below it have theirs
pub choose_next : (t b chosen₀ chosen : List ℕ) (x i n y : ℕ) → Ready t b → n ≡ count_d t → i < n → count_d t ≤ length chosen₀
    → chosen ≡ put chosen₀ 0 (each (least_choice (station t) (entries t b) x) i)
    → y ≡ least_state (station t) (entries t b) x (states_in chosen) i
    → set chosen i y ≡ put chosen₀ 0 (each (least_choice (station t) (entries t b) x) (i + 1))
choose_next t b chosen₀ chosen x i n y r k h l inv e =
    let f = least_choice (station t) (entries t b) x in
    let least : least_state (station t) (entries t b) x (states_in chosen) i ≡ f i =
    least_by (station t) (entries t b) x (states_in chosen) i (unfold station_of in omega arith) (r.parents i (omega arith))
    (λ d u. filled_at f chosen₀ chosen i d inv u) in
    filled_next f chosen₀ chosen i n y inv h (omega arith) (e ∙ least)

pub choose_done : (t b chosen₀ chosen : List ℕ) (x i n : ℕ) → chosen ≡ put chosen₀ 0 (each (least_choice (station t) (entries t b) x) i)
    → i ≤ n → n ≤ i → n ≡ count_d t → chosen ≡ least_each t b x chosen₀
choose_done t b chosen₀ chosen x i n inv h k e = let q : i ≡ count_d t = omega arith in rw q at inv

pub ruleset choosing = (filled_none, choose_next, choose_done)
