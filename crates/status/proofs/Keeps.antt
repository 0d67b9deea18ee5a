-- A device's consistency by its parts: one law for each way out of the code that tests them.
use mathlib.Core.Path.{◌≡◌, refl, ap, ◌∙◌}
use mathlib.Core.Bool.{Bool, true, false, not, ◌&&◌, ◌||◌}
use mathlib.Core.Logic.{⊎_elim}
use mathlib.Core.List.{List}
use Prim.Native.Nat.{ℕ, ◌+◌, ◌*◌, ◌≤◌, ◌<◌}
use native.Mathlib.Omega.{arith}
use borrow.Author.Tests.{eqb-true, eq-eqb, ne_eqb, leb-true, ltb-true, not-true, not-false}
use lib.Dec.{eqb, leb, ltb}
use lib.ListN.{length, get_or}
use Rattle.sets.specs.Sets.{subset}
use Rattle.rules.specs.declared.Entry.{Entry}
use Rattle.std.specs.Prelude.{Ok, Option, Some, None}
use Rattle.rules.specs.Verdict.{refuse}
use Rattle.rules.specs.declared.Reason.TheVariants.{Inconsistent}
use Rattle.rules.specs.Answers.{lowest}
use Rattle.rules.specs.Station.{Station, width, limit, count_d, station_of, station}
use Rattle.rules.specs.Table.{parent_good}
use Rattle.rules.specs.Power.{supported, needs, wake_pair}
use Rattle.rules.specs.Status.{entry_at, entries, entry_good, entries_good, parent_allows, wake_consistent, consistent_but_power}
use Rattle.rules.specs.Status.{powered, consistent, consistency_verdict}
use Rattle.rules.proofs.Index.{every_at}
use Rattle.laws.proofs.Tests.{both_true, or_cases}
use Rattle.rules.specs.BringUp.{but_power_verdict}
use Rattle.status.specs.Ready.{Ready, status_with, consistent_with, consistency_verdict_with}
use Rattle.status.proofs.Held.{entry_in, entry_is}
use Rattle.status.proofs.Loops.{Looking, lowest_found, lowest_all}

-- D by the table's byte, and as the station has it
pub devices_are : (t : List ℕ) (n : ℕ) → n ≡ count_d t → n ≡ (station t).devices
unfolding station_of
devices_are t n e = e

-- an entry that was read by its place is the device's
pub entry_ready : (t b : List ℕ) (d : ℕ) (e : Entry) → Ready t b → d < count_d t → e ≡ entry_at b (4 * d) → e ≡ entries t b d
entry_ready t b d e r h q = entry_is t b d e r.sized h q

-- ---- the parent, whose number is p
module _ (t b : List ℕ) (d x p : ℕ) (q : p ≡ ((station t).device d).parent) where
  pub parent_none : p ≡ 255 → eqb p 255 ≡ parent_allows (station t) (entries t b) d x
  unfolding parent_allows
  parent_none e = rw (← q, eq-eqb p 255 e) refl

  -- a parent is lower than its child
  parent_small : Ready t b → d < count_d t → (p ≡ 255 → ⊥) → p < count_d t
  unfolding parent_good
  parent_small r h n =
      let u = ((station t).device d).parent in
      ⊎_elim (λ a. omega (arith, ltb-true u d a)) (λ a. absurd (n (q ∙ eqb-true u 255 a))) (or_cases (ltb u d) (eqb u 255) (r.parents d h))

  pub parent_read : Ready t b → d < count_d t → (p ≡ 255 → ⊥) → 4 * p + 4 ≤ length b
  parent_read r h n = let l = parent_small r h n in omega (arith, r.sized.devices, r.long)

  pub parent_state : (up : Entry) → Ready t b → d < count_d t → (p ≡ 255 → ⊥) → up ≡ entry_at b (4 * p) → leb up.state x ≡ parent_allows
      (station t) (entries t b) d x
  unfolding parent_allows
  parent_state up r h n f =
      rw (← q, ne_eqb p 255 n, ← entry_ready t b p up r (parent_small r h n) f) refl

-- ---- the wake rules; legal is what the test of the pair returned
module _ (t b : List ℕ) (d : ℕ) (r : Ready t b) (h : d < count_d t) where
  armed_is : get_or b (4 * d + 1) 0 ≡ (entries t b d).armed
  unfolding entry_at
  armed_is = rw (entry_in (width t) b d (omega (arith, r.sized.devices))) refl

  pub wake_unarmed : (get_or b (4 * d + 1) 0 ≡ 1 → ⊥) → true ≡ wake_consistent (station t) d (entries t b d)
  unfolding wake_consistent
  wake_unarmed n = rw (← armed_is, ne_eqb (get_or b (4 * d + 1) 0) 1 n) refl

  module _ (e : Entry) (legal : Bool) (a : get_or b (4 * d + 1) 0 ≡ 1) (read : e ≡ entry_at b (4 * d))
      (q : legal ≡ wake_pair (station t) d e.sleep e.wake) where
    pub wake_illegal : legal ≡ false → legal ≡ wake_consistent (station t) d (entries t b d)
    unfolding wake_consistent
    wake_illegal n = rw (← armed_is, eq-eqb (get_or b (4 * d + 1) 0) 1 a, ← entry_ready t b d e r h read, ← q, n) refl

    pub wake_legal : legal ≡ true → leb e.state e.wake ≡ wake_consistent (station t) d (entries t b d)
    unfolding wake_consistent
    wake_legal n = rw (← armed_is, eq-eqb (get_or b (4 * d + 1) 0) 1 a, ← entry_ready t b d e r h read, ← q, n) refl

-- ---- the three rules apart from power; two is whether the first two hold, of which the second is asked only after the first
module _ (t b : List ℕ) (d : ℕ) (r : Ready t b) (h : d < count_d t) (e : Entry) (known two : Bool) (read : e ≡ entry_at b (4 * d))
    (a : known ≡ supported (station t) d e.state) where
  pub apart_known : known ≡ false → two ≡ known → two ≡ consistent_but_power (station t) (entries t b) d
  unfolding consistent_but_power
  apart_known n q = q ∙ n ∙ rw (← entry_ready t b d e r h read, ← a, n) refl

  module _ (under : Bool) (m : known ≡ true) (u : under ≡ parent_allows (station t) (entries t b) d e.state) (q : two ≡ under) where
    pub apart_under : two ≡ false → two ≡ consistent_but_power (station t) (entries t b) d
    unfolding consistent_but_power
    apart_under n = n ∙ rw (← entry_ready t b d e r h read, ← a, m, ← u, ← q, n) refl

    pub apart_wake : (wake : Bool) → two ≡ true → wake ≡ wake_consistent (station t) d (entries t b d) → wake ≡ consistent_but_power
        (station t) (entries t b) d
    unfolding consistent_but_power
    apart_wake wake n c = rw (← entry_ready t b d e r h read, ← a, m, ← u, ← q, n) (rw (← entry_ready t b d e r h read) at c)

-- ---- power
pub power_is : (t b : List ℕ) (on d : ℕ) (e : Entry) (n : ℕ) (v : Bool) → Ready t b → d < count_d t → e ≡ entry_at b (4 * d)
    → n ≡ needs (station t) d e → v ≡ subset n on
    → v ≡ powered (station t) (status_with t b on) d
unfolding powered
power_is t b on d e n v r h p q f = rw (← entry_ready t b d e r h p, ← q) f

-- ---- all rules, or those apart from power
module _ (s : Station) (f : ℕ → Entry) (d : ℕ) (apart : Bool) (a : apart ≡ consistent_but_power s f d) where
  pub breaks : (on : Option ℕ) → not apart ≡ true → false ≡ consistent_with on s f d
  unfolding consistent_with
  breaks (Some on) n = rw (← a, not-true apart n) refl
  breaks None n = rw (← a, not-true apart n) refl

  module _ (on : Option ℕ) (n : not apart ≡ false) where
    pub keeps_apart : on ≡ None → true ≡ consistent_with on s f d
    unfolding consistent_with
    keeps_apart p = rw (p, ← a, not-false apart n) refl

    pub keeps : (set : ℕ) (v : Bool) → on ≡ Some set → v ≡ powered s (record { entries = f; on = set }) d → v ≡ consistent_with on s f d
    unfolding consistent_with
    keeps set v p q = rw (p, ← a, not-false apart n) q

-- ---- what the stages before have shown
sleep_in : (e : Entry) → entry_good e ≡ true → e.sleep < 5
unfolding entry_good
sleep_in e g =
    let low = leb e.state 4 && leb e.armed 1 in
    let sleep = leb e.sleep 4 in
    let wake = leb e.wake 4 in
    let a = both_true (low && sleep && wake) (eqb e.armed 1 || eqb e.sleep 0 && eqb e.wake 0) g in
    omega (arith, leb-true e.sleep 4 (both_true low sleep (both_true (low && sleep) wake a.0).0).1)

-- the wake S of an entry is in range
pub ready_sleep : (t b : List ℕ) (d : ℕ) (e : Entry) → Ready t b → d < count_d t → e ≡ entry_at b (4 * d) → e.sleep < 5
unfolding entries_good
ready_sleep t b d e r h q =
    let l : d < limit (width t) = omega (arith, r.sized.devices) in
    rw (entry_ready t b d e r h q) (sleep_in (entries t b d) (both_true _ _ (every_at _ (limit (width t)) d r.good l)).0)

pub ruleset keep_laws = (
  parent_none,
  parent_read,
  parent_state,
  wake_unarmed,
  wake_illegal,
  wake_legal,
  apart_known,
  apart_under,
  apart_wake,
  power_is,
  breaks,
  keeps_apart,
  keeps,
  ready_sleep,
)

-- ---- all devices
module _ (on : Option ℕ) (s : Station) (f : ℕ → Entry) (n i : ℕ) (look : Looking (consistent_with on s f) n i) (all : n ≡ s.devices) where
  pub inconsistent : (b : Bool) → i < n → b ≡ consistent_with on s f i → not b ≡ true → refuse Inconsistent i ≡ consistency_verdict_with on s f
  unfolding consistency_verdict_with
  inconsistent b h e t = lowest_found (consistent_with on s f) n i b (refuse Inconsistent) look h e t
      ∙ ap (λ (k : ℕ). lowest (λ j. not (consistent_with on s f j)) k (refuse Inconsistent)) all

  pub consistent_all : n ≤ i → Ok 0 ≡ consistency_verdict_with on s f
  unfolding consistency_verdict_with
  consistent_all h = lowest_all (consistent_with on s f) n i (refuse Inconsistent) look h
      ∙ ap (λ (k : ℕ). lowest (λ j. not (consistent_with on s f j)) k (refuse Inconsistent)) all

-- with a set it is answer 8, and without one answer 8 of bring-up
pub with_power : (s : Station) (f : ℕ → Entry) (on : ℕ)
    → consistency_verdict_with (Some on) s f ≡ consistency_verdict s (record { entries = f; on = on })
unfolding consistency_verdict_with consistency_verdict consistent_with consistent
with_power s f on = refl

pub without_power : (s : Station) (f : ℕ → Entry) → consistency_verdict_with None s f ≡ but_power_verdict s f
unfolding consistency_verdict_with but_power_verdict consistent_with
without_power s f = refl

pub ruleset turn_laws = (devices_are, inconsistent, consistent_all)
