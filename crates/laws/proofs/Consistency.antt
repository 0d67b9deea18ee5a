-- Consistency is kept: from a status in which every device is consistent, an accepted request leads to one in which every device is, with
-- exactly the needed set on. Over a station whose parents have lower numbers and whose sets have no bit at or above R.
use mathlib.Core.Path.{◌≡◌, refl}
use mathlib.Core.Bool.{true, false}
use Prim.Native.Nat.{ℕ, ◌<◌}
use borrow.Author.Tests.{eq-eqb, ne_eqb}
use lib.Dec.{leb}
use Rattle.rules.specs.declared.Request.{Request}
use Rattle.rules.specs.Verdict.{refuse}
use Rattle.rules.specs.declared.Reason.TheVariants.{ChildShallower}
use Rattle.rules.specs.Answers.{passes}
use Rattle.rules.specs.Station.{Station}
use Rattle.rules.specs.declared.Entry.{Entry}
use Rattle.rules.specs.Power.{supported, wake_from, wake_powered, wake_state}
use Rattle.rules.specs.Status.{parent_allows, wake_consistent, consistent_but_power}
use Rattle.rules.specs.Request.{not_shallower_or_d0, child_bars, wake_allows, move_verdict, arm_verdict, new_entry, replace_entry, entries_after}
use Rattle.rules.proofs.Answers.{first_both, unless_at, refused_stops, lowest_at}
use Rattle.laws.proofs.Tests.{both_true}

-- ---- what an accepted request has passed

pub record Moves (s : Station) (entries : ℕ → Entry) (d x : ℕ) : Type 0 where
  pub known : supported s d x ≡ true
  pub deeper : not_shallower_or_d0 (entries d) x ≡ true
  pub parent : parent_allows s entries d x ≡ true
  pub children : (c : ℕ) → c < s.devices → child_bars s entries d x c ≡ false
  pub wake : wake_allows (entries d) x ≡ true

pub moves : (s : Station) (entries : ℕ → Entry) (d x : ℕ) → passes (move_verdict s entries d x) ≡ true → Moves s entries d x
unfolding move_verdict
moves s entries d x e =
    let a = first_both _ _ _ e in
    let b = first_both _ _ _ a.1 in
    let c = first_both _ _ _ b.1 in
    let f = first_both _ _ _ c.1 in
    let g = first_both _ _ _ f.1 in
    record {
      known = unless_at _ _ _ a.0;
      deeper = unless_at _ _ _ b.0;
      parent = unless_at _ _ _ c.0;
      children = lowest_at _ s.devices (refuse ChildShallower) (refused_stops ChildShallower) f.0;
      wake = unless_at _ _ _ g.0;
    }

pub record Arms (s : Station) (entries : ℕ → Entry) (d x y : ℕ) : Type 0 where
  pub from : wake_from s d x ≡ true
  pub powered : wake_powered s d x ≡ true
  pub state : wake_state s d x y ≡ true
  pub deeper : leb (entries d).state y ≡ true

pub arms : (s : Station) (entries : ℕ → Entry) (d x y : ℕ) → passes (arm_verdict s entries d x y) ≡ true → Arms s entries d x y
unfolding arm_verdict
arms s entries d x y e =
    let a = first_both _ _ _ e in
    let b = first_both _ _ _ a.1 in
    let c = first_both _ _ _ b.1 in
    let f = both_true _ _ (unless_at _ _ _ c.0) in
    record { from = unless_at _ _ _ a.0; powered = unless_at _ _ _ b.0; state = f.0; deeper = f.1 }

-- ---- consistency apart from power, by its parts

pub record Apart (s : Station) (entries : ℕ → Entry) (d : ℕ) : Type 0 where
  pub known : supported s d (entries d).state ≡ true
  pub under : parent_allows s entries d (entries d).state ≡ true
  pub wake : wake_consistent s d (entries d) ≡ true

pub apart_of : (s : Station) (entries : ℕ → Entry) (d : ℕ) → consistent_but_power s entries d ≡ true → Apart s entries d
unfolding consistent_but_power
apart_of s entries d e =
    let a = both_true _ _ e in
    let b = both_true _ _ a.0 in
    record { known = b.0; under = b.1; wake = a.1 }

pub apart_is : (s : Station) (entries : ℕ → Entry) (d : ℕ) → Apart s entries d → consistent_but_power s entries d ≡ true
unfolding consistent_but_power
apart_is s entries d a = rw (a.known, a.under, a.wake) refl

-- ---- the entries after

pub after_same : (entries : ℕ → Entry) (q : Request) → entries_after entries q q.device ≡ new_entry (entries q.device) q
unfolding replace_entry
after_same entries q = rw (eq-eqb q.device q.device refl) refl

pub after_other : (entries : ℕ → Entry) (q : Request) (k : ℕ) → (k ≡ q.device → ⊥) → entries_after entries q k ≡ entries k
unfolding replace_entry
after_other entries q k h = rw (ne_eqb k q.device h) refl
