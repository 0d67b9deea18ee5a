-- Moves of several devices by falling number, each to a state that is not shallower than its present one nor than its parent's: each is
-- permitted from the state that those before it leave, since a device's children have moved before it and its parent has not.
use mathlib.Core.Path.{◌≡◌, refl, ap, ◌∙◌}
use mathlib.Core.Bool.{Bool, true, false, ◌||◌}
use mathlib.Core.List.{List}
use mathlib.Core.Logic.{◌⊎◌, inl, inr, ⊎_elim}
use Prim.Native.Nat.{ℕ, suc, ◌≤◌, ◌<◌}
use native.Mathlib.Omega.{arith}
use borrow.Author.Tests.{eqb-true, eqb-false, eq-eqb, ltb-true, lt-ltb, le-ltb, le-leb}
use lib.Dec.{eqb, leb}
use Rattle.sets.proofs.Laws.{decide}
use Rattle.rules.specs.declared.Entry.{Entry}
use Rattle.rules.specs.declared.Reason.{Reason}
use Rattle.rules.specs.declared.Reason.TheVariants.{ChildShallower}
use Rattle.std.specs.Prelude.{Ok}
use Rattle.rules.specs.Verdict.{refuse}
use Rattle.rules.specs.Answers.{passes, unless}
use Rattle.rules.specs.Station.{Station, absent, width, limit, station_of, station}
use Rattle.rules.specs.Table.{parent_good, table_verdict}
use Rattle.rules.specs.Power.{supported}
use Rattle.rules.specs.Status.{Status, status, parent_allows, state_verdict}
use Rattle.rules.specs.Request.{in_state, numbers_good, form_good, not_shallower_or_d0, child_bars, wake_allows, move_verdict, kind_verdict}
use Rattle.rules.specs.Request.{request_verdict, new_entry}
use Rattle.rules.specs.Calls.{status_after}
use Rattle.rules.specs.Sleep.{move_to}
use Rattle.rules.specs.Outcomes.{state_after}
use Rattle.rules.proofs.Width.{width_wide}
use Rattle.rules.proofs.Answers.{first_pass, first_none, unless_of, lowest_of_lem, done_passes}
use Rattle.laws.proofs.Tests.{or_left, or_right, or_cases}
use Rattle.laws.proofs.Accepted.{accepted}
use Rattle.laws.proofs.Consistency.{Moves, after_same, after_other}
use Rattle.laws.proofs.States.{after_reads, after_consistent}
use Rattle.laws.proofs.Stages.{Stages}

-- ---- a move whose checks hold is done
pub unless_passes : (good : Bool) (why : Reason) (at : ℕ) → good ≡ true → passes (unless good why at) ≡ true
unless_passes good why at e = ap passes (unless_of good why at e) ∙ done_passes 0

module _ (s : Station) (entries : ℕ → Entry) (d y : ℕ) (m : Moves s entries d y) where
  move_done : move_verdict s entries d y ≡ Ok 0
  unfolding move_verdict
  move_done =
      first_pass _ _ _ (unless_passes _ _ _ m.known) ∙ first_pass _ _ _ (unless_passes _ _ _ m.deeper)
      ∙ first_pass _ _ _ (unless_passes _ _ _ m.parent)
      ∙ first_pass _ _ _ (ap passes (lowest_of_lem _ s.devices (refuse ChildShallower) m.children) ∙ done_passes 0)
      ∙ first_pass _ _ _ (unless_passes _ _ _ m.wake) ∙ first_none (Ok 0)

  move_passes : d < s.devices → y ≤ 4 → passes (request_verdict s entries (move_to d y)) ≡ true
  unfolding request_verdict kind_verdict form_good numbers_good
  move_passes h k =
      let form : passes (unless (form_good s (move_to d y)) _ 0) ≡ true =
      unless_passes _ _ _ (rw (lt-ltb d s.devices h, le-leb y 4 k) refl) in
      ap passes (first_pass _ _ _ form ∙ first_pass _ _ _ (ap passes move_done ∙ done_passes 0) ∙ first_none (Ok 0)) ∙ done_passes 0

-- ---- states to which the devices of a station can move
pub record Reachable (s : Station) (entries : ℕ → Entry) (states : ℕ → ℕ) : Type 0 where
  pub known : (d : ℕ) → d < s.devices → supported s d (states d) ≡ true
  pub small : (d : ℕ) → d < s.devices → states d ≤ 4
  pub deeper : (d : ℕ) → d < s.devices → (entries d).state ≤ states d
  pub parents : (d : ℕ) → d < s.devices → ((s.device d).parent ≡ absent) ⊎ (states (s.device d).parent ≤ states d)
  pub wake : (d : ℕ) → d < s.devices → wake_allows (entries d) (states d) ≡ true

-- the state b' that the moves of the devices from n on leave of b
pub record Moving (t b : List ℕ) (states : ℕ → ℕ) (n : ℕ) (b' : List ℕ) : Type 0 where
  pub state : passes (state_verdict t b') ≡ true
  pub before : (k : ℕ) → k < n → (status t b').entries k ≡ (status t b).entries k
  pub moved : (k : ℕ) → n ≤ k → k < (station t).devices → (status t b').entries k ≡ in_state ((status t b).entries k) (states k)
  pub others : (k : ℕ) → (station t).devices ≤ k → (status t b').entries k ≡ (status t b).entries k

module _ (t b : List ℕ) (states : ℕ → ℕ) where
  pub moving_start : passes (state_verdict t b) ≡ true → Moving t b states (station t).devices b
  moving_start f = record { state = f; before = λ k h. refl; moved = λ k h l. absurd (omega arith); others = λ k h. refl }

  -- a device that stays
  pub moving_stays : (n : ℕ) (b' : List ℕ) → states n ≡ ((status t b).entries n).state → Moving t b states (suc n) b' → Moving t b states n b'
  moving_stays n b' e m =
      record {
        state = m.state;
        before = λ k h. m.before k (omega arith);
        moved = λ k h l. decide (eqb k n)
            (λ z. let i = eqb-true k n z in rw (i, e) (m.before n (omega arith)))
            (λ z. let i = eqb-false k n z in m.moved k (omega (arith, i)) l);
        others = m.others;
      }

  module _ (e : passes (table_verdict t) ≡ true) (r : Reachable (station t) (status t b).entries states) (n : ℕ)
      (h : n < (station t).devices) (b' : List ℕ) (m : Moving t b states (suc n) b') where
    abbrev s : Station
    s = station t

    abbrev present : ℕ → Entry
    present = (status t b').entries

    own : present n ≡ (status t b).entries n
    own = m.before n (omega arith)

    -- no device has a number that stands for no parent
    named : n < absent
    named = let most : s.devices ≤ limit (width t) = unfold station_of in (accepted t e).devices in omega (arith, most, (width_wide t).high)

    lower : (d : ℕ) → d < s.devices → ((s.device d).parent < d) ⊎ ((s.device d).parent ≡ absent)
    unfolding parent_good station_of
    lower d l = ⊎_elim (λ a. inl (ltb-true _ _ a)) (λ a. inr (eqb-true _ _ a)) (or_cases _ _ ((accepted t e).device d l).parent)

    parent_allows_lem : parent_allows s present n (states n) ≡ true
    unfolding parent_allows
    parent_allows_lem =
        let up = (s.device n).parent in
        let none : up ≡ absent → eqb up absent || leb (present up).state (states n) ≡ true = λ a. or_left _ _ (eq-eqb up absent a) in
        ⊎_elim
        (λ a. ⊎_elim none
        (λ p.
        let l : ((status t b).entries up).state ≤ states n = omega (arith, p, r.deeper up (omega (arith, h))) in
        or_right (eqb up absent) (leb (present up).state (states n)) (rw (m.before up (omega arith)) (le-leb _ _ l)))
        (r.parents n h))
        none
        (lower n h)

    no_child_bars : (c : ℕ) → c < s.devices → child_bars s present n (states n) c ≡ false
    unfolding child_bars
    no_child_bars c l =
        decide (eqb (s.device c).parent n)
        (λ z.
        let is = eqb-true (s.device c).parent n z in
        let after : n < c = ⊎_elim (λ a. omega (arith, a, is)) (λ a. absurd (omega (arith, a, is, named))) (lower c l) in
        let under : states n ≤ states c = ⊎_elim (λ a. absurd (omega (arith, a, is, named))) (λ a. rw is at a) (r.parents c l) in
        rw (z, m.moved c (omega arith) l) (le-ltb (states c) (states n) under))
        (λ z. rw z refl)

    movable : Moves s present n (states n)
    unfolding not_shallower_or_d0
    movable = record {
      known = r.known n h;
      deeper = or_right (eqb (states n) 0) _ (rw own (le-leb _ _ (r.deeper n h)));
      parent = parent_allows_lem;
      children = no_child_bars;
      wake = rw own (r.wake n h);
    }

    pub move_permitted : Stages t b' (move_to n (states n))
    move_permitted = record { table = e; state = m.state; request = move_passes s present n (states n) movable h (r.small n h) }

    -- a device that moves
    pub moving_moves : Moving t b states n (state_after t b' (move_to n (states n)))
    unfolding status_after new_entry
    moving_moves =
        let q = move_to n (states n) in
        let g = move_permitted in
        let reads = ap (λ (st : Status). st.entries) (after_reads t b' q g.table g.state g.request) in
        record {
          state = ap passes (after_consistent t b' q g.table g.state g.request) ∙ done_passes 0;
          before = λ k l. rw reads (after_other present q k (omega arith) ∙ m.before k (omega arith));
          moved = λ k l u. decide (eqb k n)
              (λ z. let i = eqb-true k n z in rw (reads, i) (after_same present q ∙ rw own refl))
              (λ z. let i = eqb-false k n z in rw reads (after_other present q k i ∙ m.moved k (omega (arith, i)) u));
          others = λ k l. rw reads (after_other present q k (omega (arith, h)) ∙ m.others k l);
        }
