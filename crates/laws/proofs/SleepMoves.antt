-- RULES.md 13.4: the moves of sleep entry, one after the other. Each is permitted in its turn and its list passes the checker; in the end
-- every device is in the state chosen for it, and after at least one move exactly what is needed is on.
use mathlib.Core.Path.{◌≡◌, refl, sym, ap, ◌∙◌}
use mathlib.Core.Bool.{true, false, not, true≢false}
use mathlib.Core.List.{List, [], ◌∷◌}
use mathlib.Core.Logic.{◌⊎◌, inl, inr, ⊎_elim}
use Prim.Native.Nat.{ℕ, zero, suc, ◌≤◌, ◌<◌}
use native.Mathlib.Nat.{eq-or-lt_of_le}
use native.Mathlib.Omega.{arith}
use borrow.Author.Tests.{eqb-true, le-leb}
use lib.Dec.{eqb}
use lib.ListN.{length}
use Rattle.sets.proofs.Laws.{decide}
use Rattle.rules.specs.declared.Entry.{Entry}
use Rattle.rules.specs.declared.Request.{Request}
use Rattle.rules.specs.Answers.{number_of, passes}
use Rattle.rules.specs.Station.{Station, width, station}
use Rattle.rules.specs.Table.{table_verdict}
use Rattle.rules.specs.Power.{is_armed}
use Rattle.rules.specs.Status.{status, image_of}
use Rattle.rules.specs.Request.{wake_allows}
use Rattle.rules.specs.Calls.{end_set, status_after}
use Rattle.rules.specs.Sleep.{wake_d_if_armed, Choice, least_choice, move_to, stays, moves, sleep_moves, none_moving}
use Rattle.rules.specs.Outcomes.{planned, state_after, planned_each, state_after_each}
use Rattle.rules.proofs.Index.{every_of_lem}
use Rattle.laws.specs.Demand3.{Passed}
use Rattle.laws.specs.Sleep.{InTurn}
use Rattle.laws.proofs.Tests.{or_cases, or_left, or_right}
use Rattle.laws.proofs.States.{after_reads}
use Rattle.laws.proofs.Stages.{Stages, stages_pass}
use Rattle.laws.proofs.Demand3.{passed_of, test_iff, planner_conforms, demand3}
use Rattle.laws.proofs.Moves.{Reachable, Moving, moving_stays, move_permitted, moving_moves}
use Rattle.laws.proofs.Choice.{Taken, taken_of, supported_low}
use Rattle.laws.proofs.BringUp.{Settled}

-- ---- the devices can move to the states of a choice

-- wake D itself is not deeper than wake D
wake_allows_lem : (e : Entry) (y : ℕ) → wake_d_if_armed e y ≡ true → wake_allows e y ≡ true
unfolding wake_d_if_armed wake_allows
wake_allows_lem e y w =
    ⊎_elim (λ a. or_left (not (is_armed e)) _ a)
    (λ a. or_right (not (is_armed e)) _ (le-leb y e.wake (omega (arith, eqb-true y e.wake a))))
    (or_cases (not (is_armed e)) (eqb y e.wake) w)

-- a choice can be reached
pub reachable : (s : Station) (entries : ℕ → Entry) (x : ℕ) (states : ℕ → ℕ) → Choice s entries x states → Reachable s entries states
reachable s entries x states c =
    let t : (d : ℕ) → d < s.devices → Taken s entries x d (states d) = λ d h. taken_of s entries x d (states d) (c.taken d h) in
    record {
      known = λ d h. (t d h).known;
      small = λ d h. supported_low s d (states d) (t d h).known;
      deeper = λ d h. (t d h).deeper;
      parents = c.parents;
      wake = λ d h. wake_allows_lem (entries d) (states d) (t d h).wake;
    }

-- ---- one request
module _ (t b : List ℕ) (q : Request) (g : Stages t b q) where
  -- the planner's own list passes the checker
  pub own_passed : Passed t b q (planned t b q)
  own_passed = ap number_of (passed_of t b q (planned t b q) g ((test_iff t b q g (planned t b q)).1 (planner_conforms t b q g)))

  -- and leaves on exactly what is needed
  pub after_settled : Settled t (state_after t b q)
  unfolding status_after end_set state_after
  after_settled =
      let reads = after_reads t b q g.table g.state g.request in
      record { on = rw reads refl; image = ap (image_of (width t)) reads }

-- ---- all moves, from the state b' that those of the devices from n on have left
module _ (t b : List ℕ) (states : ℕ → ℕ) where
  -- the moves that are left
  abbrev queue : ℕ → List Request
  queue n = moves (status t b).entries states n

  -- what the moves qs do from b' on: each is permitted in its turn, in the end all devices have moved, and if there is a move at all,
  -- exactly what is needed is on
  pub record Moved (b' : List ℕ) (qs : List Request) : Type 0 where
    pub in_turn : InTurn t b' qs (planned_each t b' qs) (state_after_each t b' qs)
    pub moved_all : Moving t b states 0 (state_after_each t b' qs)
    pub settled : (qs ≡ []) ⊎ Settled t (state_after_each t b' qs)

  module _ (e : passes (table_verdict t) ≡ true) (r : Reachable (station t) (status t b).entries states) where
    -- a move, and those after it
    move_first : (n : ℕ) (h : n < (station t).devices) (b' : List ℕ) → Moving t b states (suc n) b'
        → Moved (state_after t b' (move_to n (states n))) (queue n) → Moved b' (move_to n (states n) ∷ queue n)
    unfolding InTurn planned_each state_after_each
    move_first n h b' m rest =
        let q = move_to n (states n) in
        let g = move_permitted t b states e r n h b' m in
        record {
          in_turn = (
            planned_each t (state_after t b' q) (queue n),
            (
              record {
                permitted = ap number_of (stages_pass true t b' q g refl);
                whole = refl;
                passed = own_passed t b' q g;
                demand = demand3 t b' q _;
              },
              rest.in_turn,
            ),
          );
          moved_all = rest.moved_all;
          settled = inr (⊎_elim (λ z. rw z (after_settled t b' q g)) (λ z. z) rest.settled);
        }

    -- all that are left
    pub moved : (n : ℕ) (b' : List ℕ) → n ≤ (station t).devices → Moving t b states n b' → Moved b' (queue n)
    unfolding moves InTurn planned_each state_after_each
    moved zero b' h m = record { in_turn = (refl, refl); moved_all = m; settled = inl refl }
    moved (suc n) b' h m =
        let rest = moved n in
        let next = state_after t b' (move_to n (states n)) in
        decide (stays (status t b).entries states n)
        (λ z. rw z (rest b' (omega arith) (moving_stays t b states n b' (eqb-true _ _ z) m)))
        (λ z. rw z (move_first n h b' m (rest next (omega arith) (moving_moves t b states e r n h b' m))))

-- without moves every device stays
no_moves : (entries : ℕ → Entry) (states : ℕ → ℕ) (n d : ℕ) → moves entries states n ≡ [] → d < n → stays entries states d ≡ true
unfolding moves
no_moves entries states zero d e h = absurd (omega arith)
no_moves entries states (suc n) d e h =
    let rest = no_moves entries states n d in
    decide (stays entries states n)
    (λ z. ⊎_elim (λ i. rw i z) (rest (rw z at e)) (eq-or-lt_of_le {n = d} {m = n} (omega arith)))
    (λ z. let some : suc (length (moves entries states n)) ≡ 0 = ap length (rw z at e) in absurd (omega arith))

-- where a device moves, there is a move
pub some_moves : (s : Station) (entries : ℕ → Entry) (x : ℕ) → none_moving s entries x ≡ false → sleep_moves s entries x ≡ [] → ⊥
unfolding none_moving
some_moves s entries x z e =
    true≢false (sym (every_of_lem _ s.devices (λ d h. no_moves entries (least_choice s entries x) s.devices d e h)) ∙ z)
