-- An accepted request keeps every device consistent, and the entries' values good. Over a station whose parents have lower numbers and
-- whose sets have no bit at or above R, as an accepted table's station has.
use mathlib.Core.Path.{◌≡◌, refl}
use mathlib.Core.Bool.{Bool, true, false, not, ◌&&◌, ◌||◌}
use mathlib.Core.Logic.{◌⊎◌, inl, inr, ⊎_elim}
use Prim.Native.Nat.{ℕ, ◌^◌, ◌<◌}
use native.Mathlib.Omega.{arith}
use borrow.Author.Tests.{eqb-true, eqb-false, ltb-true, ltb-false, le-leb}
use lib.Dec.{eqb, ltb, leb}
use Rattle.sets.proofs.Laws.{decide}
use Rattle.rules.specs.declared.Request.{Request}
use Rattle.rules.specs.Answers.{passes}
use Rattle.rules.specs.Station.{Station, absent}
use Rattle.rules.specs.Table.{parent_good}
use Rattle.rules.specs.declared.Entry.{Entry}
use Rattle.rules.specs.Power.{is_armed, wake_pair}
use Rattle.rules.specs.Status.{parent_allows, wake_consistent}
use Rattle.rules.specs.Request.{is_move, is_arm, form_good, child_bars, wake_allows, kind_verdict, request_verdict, new_entry, entries_after}
use Rattle.rules.proofs.Answers.{first_both, unless_at}
use Rattle.laws.proofs.Tests.{both_true, and-true, or_cases, or_right}
use Rattle.laws.proofs.Consistency.{Moves, moves, Arms, arms, Apart, after_same, after_other}

pub record StationRules (s : Station) : Type 0 where
  pub parents : (d : ℕ) → d < s.devices → parent_good d (s.device d) ≡ true
  pub sets : (d : ℕ) → d < s.devices → (k : ℕ) → k < 5 → (s.device d).sets k < 2 ^ s.resources

-- a device's parent, where it has one, is another device
other_parent : (s : Station) (d : ℕ) → parent_good d (s.device d) ≡ true → (eqb (s.device d).parent absent ≡ true)
    ⊎ ((s.device d).parent < d)
unfolding parent_good
other_parent s d e = ⊎_elim (λ a. inr (ltb-true _ _ a)) (λ a. inl a) (or_cases _ _ e)

-- where no state changes, nor does what depends on the states alone
states_same : (s : Station) (old new : ℕ → Entry) (d : ℕ) → ((k : ℕ) → (new k).state ≡ (old k).state) → Apart s old d
    → wake_consistent s d (new d) ≡ true → Apart s new d
unfolding parent_allows
states_same s old new d h a w =
    record { known = rw (h d) a.known; under = rw (h (s.device d).parent, h d) a.under; wake = w }

-- armed before, with the new state
still : (a p l m : Bool) → a || p && l ≡ true → a || m ≡ true → a || p && m ≡ true
still true p l m e f = refl
still false p l m e f = and-true p m (both_true p l e).0 f

module _ (s : Station) (rules : StationRules s) (entries : ℕ → Entry) (q : Request) (all : (d : ℕ) → d < s.devices
    → Apart s entries d) where
  -- ---- a move
  moved : is_move q ≡ true → (new_entry (entries q.device) q).state ≡ q.a
  unfolding new_entry
  moved m = rw m refl

  moved_wake : is_move q ≡ true → Moves s entries q.device q.a → wake_consistent s q.device (entries q.device) ≡ true
      → wake_consistent s q.device (new_entry (entries q.device) q) ≡ true
  unfolding new_entry wake_consistent wake_allows
  moved_wake m v h =
      let e = entries q.device in
      rw m (still (not (is_armed e)) (wake_pair s q.device e.sleep e.wake) (leb e.state e.wake)
      (leb q.a e.wake) h v.wake)

  move_same : q.device < s.devices → is_move q ≡ true → Moves s entries q.device q.a → Apart s (entries_after entries q) q.device
  unfolding parent_allows
  move_same l m v =
      let d = q.device in
      let e : entries_after entries q d ≡ new_entry (entries d) q = after_same entries q in
      record {
        known = rw (e, moved m) v.known;
        under = ⊎_elim (λ a. rw a refl) (λ a. rw (after_other entries q (s.device d).parent (λ z. omega arith), e, moved m) v.parent)
            (other_parent s d (rules.parents d l));
        wake = rw e (moved_wake m v (all d l).wake);
      }

  move_other : (d : ℕ) → d < s.devices → (d ≡ q.device → ⊥) → is_move q ≡ true → Moves s entries q.device q.a
      → Apart s (entries_after entries q) d
  unfolding parent_allows child_bars
  move_other d l n m v =
      let e : entries_after entries q d ≡ entries d = after_other entries q d n in
      let p = (s.device d).parent in
      record {
        known = rw e (all d l).known;
        under = rw e
            (decide (eqb p q.device)
            (λ z.
            let free : ltb (entries d).state q.a ≡ false = rw z at (v.children d l) in
            let at : (entries_after entries q p).state ≡ q.a = rw (eqb-true p q.device z, after_same entries q) (moved m) in
            or_right (eqb p absent) (leb (entries_after entries q p).state (entries d).state)
            (rw at (le-leb q.a (entries d).state (ltb-false (entries d).state q.a free))))
            (λ z. rw (after_other entries q p (eqb-false _ _ z)) (all d l).under));
        wake = rw e (all d l).wake;
      }

  -- ---- arming and disarming
  unmoved : is_move q ≡ false → (k : ℕ) → (entries_after entries q k).state ≡ (entries k).state
  unfolding new_entry
  unmoved m k =
      decide (eqb k q.device) (λ z. rw (eqb-true k q.device z, after_same entries q, m)
      (decide (is_arm q) (λ y. rw y refl) (λ y. rw y refl)))
      (λ z. rw (after_other entries q k (eqb-false k q.device z)) refl)

  armed_wake : is_move q ≡ false → is_arm q ≡ true → Arms s entries q.device q.a q.b → wake_consistent s q.device
      (new_entry (entries q.device) q) ≡ true
  unfolding new_entry wake_consistent wake_pair
  armed_wake m y v = rw (m, y, v.from, v.powered, v.state, v.deeper) refl

  disarmed_wake : is_move q ≡ false → is_arm q ≡ false → wake_consistent s q.device (new_entry (entries q.device) q) ≡ true
  unfolding new_entry wake_consistent
  disarmed_wake m y = rw (m, y) refl

  wake_others : wake_consistent s q.device (new_entry (entries q.device) q) ≡ true → (d : ℕ) → d < s.devices
      → wake_consistent s d (entries_after entries q d) ≡ true
  wake_others h d l =
      decide (eqb d q.device) (λ z. rw (eqb-true d q.device z, after_same entries q) h)
      (λ z. rw (after_other entries q d (eqb-false d q.device z)) (all d l).wake)

  -- ---- any accepted request
  pub apart_after : passes (request_verdict s entries q) ≡ true → (d : ℕ) → d < s.devices → Apart s (entries_after entries q) d
  unfolding request_verdict kind_verdict form_good
  apart_after e d l =
      let a = first_both _ _ _ e in
      let b = first_both _ _ _ a.1 in
      let dev : q.device < s.devices = ltb-true _ _ (both_true _ _ (unless_at _ _ _ a.0)).0 in
      decide (is_move q)
      (λ m.
      let v = moves s entries q.device q.a (rw m at b.0) in
      decide (eqb d q.device) (λ z. rw (eqb-true d q.device z) (move_same dev m v))
      (λ z. move_other d l (eqb-false d q.device z) m v))
      (λ m. states_same s entries (entries_after entries q) d (unmoved m) (all d l)
      (wake_others (decide (is_arm q) (λ y. armed_wake m y (arms s entries q.device q.a q.b (rw (m, y) at b.0)))
      (λ y. disarmed_wake m y)) d l))
