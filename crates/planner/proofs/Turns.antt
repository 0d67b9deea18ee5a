-- The moves of sleep entry one after the other, as a loop writes them: what is left to be written and done gives what all of them give.
use mathlib.Core.Path.{◌≡◌, refl, sym, ap, ◌∙◌}
use mathlib.Core.Bool.{true}
use mathlib.Core.List.{List, [], ◌∷◌, ◌++◌}
use Prim.Native.Nat.{ℕ, zero, suc, ◌+◌, ◌*◌, ◌-◌, ◌≤◌, ◌<◌}
use native.Mathlib.Nat.{zero-add, mul-suc, mul-zero, mul_comm, mul-le-mul_left, mul-add}
use native.Mathlib.Omega.{arith}
use mir.Syntax.{w64}
use mir.Val.{Fits}
use borrow.Author.Tests.{eqb-true}
use lib.ListN.{length, get_or, length-append}
use Rattle.sets.specs.Sets.{union}
use Rattle.sets.proofs.Laws.{decide}
use Rattle.words.proofs.Put.{Going, going_start, going_run, going_done}
use Rattle.rules.specs.declared.Entry.{Entry}
use Rattle.rules.specs.declared.Request.{Request}
use Rattle.rules.specs.Answers.{passes}
use Rattle.rules.specs.Station.{Station, width, limit, count_d, station_of, station}
use Rattle.rules.specs.Table.{table_verdict}
use Rattle.rules.specs.Power.{needs, needed_below}
use Rattle.rules.specs.Status.{entries, status_of, status, state_verdict}
use Rattle.rules.specs.Request.{in_state, new_entry}
use Rattle.rules.specs.Calls.{end_set}
use Rattle.rules.specs.Sleep.{move_to, stays, moves}
use Rattle.rules.specs.Outcomes.{list_room, planned, state_after, planned_each, state_after_each}
use Rattle.laws.specs.Sleep.{InTurn}
use Rattle.laws.proofs.Accepted.{accepted}
use Rattle.laws.proofs.States.{consistent_of}
use Rattle.laws.proofs.Stages.{stages_of}
use Rattle.laws.proofs.Lists.{number_passes, written_none}
use Rattle.laws.proofs.Moves.{Reachable, Moving, moving_start, moving_stays, moving_moves, move_permitted}
use Rattle.laws.proofs.SleepMoves.{reachable, moved}
use Rattle.switching.proofs.Short.{planned_short}
use Rattle.status.specs.Needs.{needed_from, below_each}
use Rattle.status.proofs.Filled.{filled_at}
use Rattle.status.proofs.NeededLaws.{from_same, from_one, with_parts}
use Rattle.request.proofs.Chain.{ready_of}
use Rattle.request.proofs.Changes.{permitted_of}
use Rattle.sleep.specs.Chosen.{states_in}
use Rattle.planner.specs.Moves.{move_list, state_moved, all_moves, Turn, Given, WrittenFrom}
use Rattle.planner.proofs.Room.{product_4160}

-- ---- how long the lists of requests in their turn are
turns_short : (t b : List ℕ) (qs : List Request) (words b' : List ℕ) → InTurn t b qs words b'
    → length words ≤ list_room (width t) * length qs
unfolding InTurn
turns_short t b [] words b' g = rw g.0 (omega arith)
turns_short t b (q ∷ qs) words b' g =
    let rest = turns_short t (state_after t b q) qs g.0 b' g.1.1 in
    let first = planned_short t b q (stages_of true t b q (number_passes _ g.1.0.permitted)) in
    let whole = ap length g.1.0.whole ∙ length-append (planned t b q) g.0 in
    let one = mul-suc (list_room (width t)) (length qs) in
    omega (arith, first, rest, whole, one)

moves_few : (entries : ℕ → Entry) (states : ℕ → ℕ) (n : ℕ) → length (moves entries states n) ≤ n
unfolding moves
moves_few entries states zero = omega arith
moves_few entries states (suc n) =
    let rest = moves_few entries states n in
    decide (stays entries states n) (λ z. rw z (omega arith)) (λ z. rw z (omega arith))

-- all of them have room
module _ (t b : List ℕ) (states : ℕ → ℕ) (e : passes (table_verdict t) ≡ true) (f : passes (state_verdict t b) ≡ true)
    (r : Reachable (station t) (status t b).entries states) where
  pub moves_short : length (planned_each t b (all_moves t b states)) ≤ limit (width t) * list_room (width t)
  unfolding station_of
  moves_short =
      let all = moved t b states e r (station t).devices b (omega arith) (moving_start t b states f) in
      let short = turns_short t b _ _ _ all.in_turn in
      let few : length (all_moves t b states) ≤ limit (width t) =
      omega (arith, moves_few (status t b).entries states (station t).devices, (accepted t e).devices) in
      let most = mul-le-mul_left (list_room (width t)) few in
      omega (arith, short, most, mul_comm (list_room (width t)) (limit (width t)))

module _ (t b chosen : List ℕ) (g : Given t b chosen) where
  can_reach : Reachable (station t) (status t b).entries (states_in chosen)
  can_reach = reachable (station t) (status t b).entries g.sleep (states_in chosen) g.choice

  all_short : length (planned_each t b (all_moves t b (states_in chosen))) ≤ limit (width t) * list_room (width t)
  all_short = moves_short t b (states_in chosen) g.table g.state can_reach

-- ---- one step from the state b' that the moves of the devices above j have left
module _ (t b b' : List ℕ) (states : ℕ → ℕ) (j : ℕ) (same : (status t b').entries j ≡ (status t b).entries j) where
  step_list : planned_each t b' (moves (status t b).entries states (suc j))
      ≡ move_list t b' states j ++ planned_each t (state_moved t b' states j) (moves (status t b).entries states j)
  unfolding moves planned_each move_list state_moved
  step_list = decide (stays (status t b).entries states j) (λ z. rw (z, same, z) refl) (λ z. rw (z, same, z) refl)

  step_state : state_after_each t b' (moves (status t b).entries states (suc j))
      ≡ state_after_each t (state_moved t b' states j) (moves (status t b).entries states j)
  unfolding moves state_after_each state_moved
  step_state = decide (stays (status t b).entries states j) (λ z. rw (z, same, z) refl) (λ z. rw (z, same, z) refl)

  step_moving : Moving t b states j (state_after t b' (move_to j (states j))) → Moving t b states (suc j) b'
      → Moving t b states j (state_moved t b' states j)
  unfolding state_moved
  step_moving next m =
      decide (stays (status t b).entries states j)
      (λ z. rw (same, z) (moving_stays t b states j b' (eqb-true _ _ z) m)) (λ z. rw (same, z) next)

-- ---- the set needed after a move; `above` is what the devices above j need, `own` what j needs in its state among these
below_same : (s : Station) (f g : ℕ → Entry) (n : ℕ) → ((k : ℕ) → k < n → f k ≡ g k) → needed_below s f n ≡ needed_below s g n
unfolding needed_below
below_same s f g zero h = refl
below_same s f g (suc n) h = rw (h n (omega arith), below_same s f g n (λ k l. h k (omega arith))) refl

module _ (t b b' chosen : List ℕ) (j : ℕ) (h : j < count_d t) (m : Moving t b (states_in chosen) (suc j) b') (own above : ℕ)
    (o : own ≡ needs (station t) j (in_state (entries t b' j) (states_in chosen j)))
    (a : above ≡ needed_from (station t) (entries t b') 0 (j + 1) (count_d t - (j + 1))) where
  set_after : (none below : List ℕ) → below ≡ below_each t b none
      → union (get_or below j 0) (union own above) ≡ end_set (station t) (entries t b') (move_to j (states_in chosen j))
  unfolding end_set new_entry status_of
  set_after none below s =
      with_parts t b' j (get_or below j 0) own above (in_state (entries t b' j) (states_in chosen j)) h
      (filled_at _ none below (count_d t) j s h
      ∙ below_same (station t) (entries t b) (entries t b') j (λ k l. sym (m.before k (omega arith)))) o a

  above_after : (b'' : List ℕ) → Moving t b (states_in chosen) j b''
      → union own above ≡ needed_from (station t) (entries t b'') 0 j (count_d t - j)
  unfolding status_of station_of
  above_after b'' m'' =
      let k = count_d t - (j + 1) in
      let same : (i : ℕ) → j + 1 ≤ i → i < j + 1 + k → entries t b' i ≡ entries t b'' i =
      λ i l u. m.moved i (omega arith) (omega arith) ∙ sym (m''.moved i (omega arith) (omega arith)) in
      let mine : in_state (entries t b' j) (states_in chosen j) ≡ entries t b'' j =
      rw (m.before j (omega arith)) (sym (m''.moved j (omega arith) h)) in
      let one : count_d t - j ≡ suc k = omega arith in
      rw one (rw (o, a, mine, from_same (station t) (entries t b') (entries t b'') 0 (j + 1) k same)
      (sym (from_one (station t) (entries t b'') j k)))

-- ---- the turn of device j, whatever is written
module _ (t b chosen : List ℕ) (g : Given t b chosen) (j : ℕ) (b' : List ℕ) (h : j < count_d t)
    (m : Moving t b (states_in chosen) (suc j) b') where
  inside : j < (station t).devices
  unfolding station_of
  inside = h

  same : (status t b').entries j ≡ (status t b).entries j
  same = m.before j (omega arith)

  turn : Turn t b' chosen j
  turn =
      record {
        ready = ready_of t b' g.table m.state;
        long = (consistent_of t b' m.state).0;
        states = g.states;
        device = h;
        deeper = rw same ((can_reach t b chosen g).deeper j inside);
        permitted = λ e. permitted_of t b' (move_to j (states_in chosen j))
            (move_permitted t b (states_in chosen) g.table (can_reach t b chosen g) j inside b' m);
      }

  moved_one : Moving t b (states_in chosen) j (state_moved t b' (states_in chosen) j)
  moved_one =
      step_moving t b b' (states_in chosen) j same
      (moving_moves t b (states_in chosen) g.table (can_reach t b chosen g) j inside b' m) m

-- the same at device i - 1, as a loop from the last device down has it
module _ (t b chosen : List ℕ) (g : Given t b chosen) (i : ℕ) (b' : List ℕ) (h : 0 < i) (k : i ≤ count_d t)
    (m : Moving t b (states_in chosen) i b') where
  last_one : Moving t b (states_in chosen) (suc (i - 1)) b'
  last_one = let e : i ≡ suc (i - 1) = omega arith in rw e at m

  pub turn_now : Turn t b' chosen (i - 1)
  turn_now = turn t b chosen g (i - 1) b' (omega arith) last_one

  -- the set needed after the move, and what is carried on
  module _ (own above above' : ℕ) (o : own ≡ needs (station t) (i - 1) (in_state (entries t b' (i - 1)) (states_in chosen (i - 1))))
      (a : above ≡ needed_from (station t) (entries t b') 0 i (count_d t - i)) (all : above' ≡ union own above) where
    carried : above ≡ needed_from (station t) (entries t b') 0 (i - 1 + 1) (count_d t - (i - 1 + 1))
    carried = let e : i - 1 + 1 ≡ i = omega arith in rw e a

    pub needed_now : (none below : List ℕ) (set : ℕ) → below ≡ below_each t b none → set ≡ union (get_or below (i - 1) 0) above'
        → set ≡ end_set (station t) (entries t b') (move_to (i - 1) (states_in chosen (i - 1)))
    needed_now none below set s e =
        e ∙ rw all (set_after t b b' chosen (i - 1) (omega arith) last_one own above o carried none below s)

    pub above_now : (b'' : List ℕ) → b'' ≡ state_moved t b' (states_in chosen) (i - 1)
        → above' ≡ needed_from (station t) (entries t b'') 0 (i - 1) (count_d t - (i - 1))
    above_now b'' e =
        all ∙ above_after t b b' chosen (i - 1) (omega arith) last_one own above o carried b''
        (rw e (moved_one t b chosen g (i - 1) b' (omega arith) last_one))

-- ---- the devices from i on have moved; n words are written
pub record Underway (size : ℕ) (written : List ℕ → List ℕ) (t b chosen plan : List ℕ) (i n : ℕ) (b' plan' : List ℕ) : Type 0 where
  pub moving : Moving t b (states_in chosen) i b'
  pub ends : state_after_each t b' (moves (status t b).entries (states_in chosen) i) ≡ state_after_each t b (all_moves t b (states_in chosen))
  pub count : n + length (planned_each t b' (moves (status t b).entries (states_in chosen) i))
      ≡ length (planned_each t b (all_moves t b (states_in chosen)))
  pub going : Going (written (planned_each t b (all_moves t b (states_in chosen)))) plan 0 plan'
      (written (planned_each t b' (moves (status t b).entries (states_in chosen) i))) (size * n)

module _ (size : ℕ) (written : List ℕ → List ℕ) (long : (ws : List ℕ) → length (written ws) ≡ size * length ws)
    (joins : (xs ys : List ℕ) → written (xs ++ ys) ≡ written xs ++ written ys) (t b chosen plan : List ℕ) (g : Given t b chosen) where
  pub starts : (n : ℕ) → n ≡ count_d t → Underway size written t b chosen plan n 0 b plan
  starts n e =
      let all : n ≡ (station t).devices = unfold station_of in e in
      rw all (record {
        moving = moving_start t b (states_in chosen) g.state;
        ends = refl;
        count = zero-add _;
        going = rw (mul-zero size) (going_start _ plan 0);
      })

  -- what a turn of the loop finds, at device j
  module _ (j n : ℕ) (b' plan' : List ℕ) (h : j < count_d t) (u : Underway size written t b chosen plan (suc j) n b' plan') where
    whole : planned_each t b' (moves (status t b).entries (states_in chosen) (suc j)) ≡ move_list t b' (states_in chosen) j
        ++ planned_each t (state_moved t b' (states_in chosen) j) (moves (status t b).entries (states_in chosen) j)
    whole = step_list t b b' (states_in chosen) j (u.moving.before j (omega arith))

    counted : n + length (move_list t b' (states_in chosen) j) ≤ length (planned_each t b (all_moves t b (states_in chosen)))
    counted = omega (arith, u.count, ap length whole ∙ length-append (move_list t b' (states_in chosen) j) _)

    -- the next list has room
    has_room : size * (limit (width t) * list_room (width t)) ≤ length plan
        → size * (n + length (move_list t b' (states_in chosen) j)) ≤ length plan'
    has_room r =
        let most : n + length (move_list t b' (states_in chosen) j) ≤ limit (width t) * list_room (width t) =
        omega (arith, counted, all_short t b chosen g) in
        omega (arith, mul-le-mul_left size most, u.going.long)

    next : size * (limit (width t) * list_room (width t)) ≤ length plan → (k : ℕ) (b'' plan'' : List ℕ)
        → WrittenFrom size written (move_list t b' (states_in chosen) j) (state_moved t b' (states_in chosen) j) plan' n k b'' plan''
        → Underway size written t b chosen plan j (n + k) b'' plan''
    next r k b'' plan'' w =
        let list = move_list t b' (states_in chosen) j in
        let lists : written (planned_each t b' (moves (status t b).entries (states_in chosen) (suc j)))
        ≡ written list ++ written (planned_each t (state_moved t b' (states_in chosen) j) (moves (status t b).entries (states_in chosen) j))
        = ap written whole ∙ joins list _ in
        let end : size * (n + k) ≡ size * n + length (written list) =
        rw w.count (mul-add size n (length list) ∙ ap (λ (m : ℕ). size * n + m) (sym (long list))) in
        let all : 0 + length (written (planned_each t b (all_moves t b (states_in chosen)))) ≤ length plan =
        omega (arith, long (planned_each t b (all_moves t b (states_in chosen))), mul-le-mul_left size (all_short t b chosen g)) in
        rw w.state (record {
          moving = moved_one t b chosen g j b' h u.moving;
          ends = sym (step_state t b b' (states_in chosen) j (u.moving.before j (omega arith))) ∙ u.ends;
          count = omega (arith, u.count, w.count, ap length whole ∙ length-append list _);
          going = going_run (written list) _ u.going lists (end, w.elements) all;
        })

  pub ended : (i n : ℕ) (b' plan' : List ℕ) → Underway size written t b chosen plan i n b' plan' → i ≤ 0
      → WrittenFrom size written (planned_each t b (all_moves t b (states_in chosen)))
      (state_after_each t b (all_moves t b (states_in chosen))) plan 0 n
      b' plan'
  unfolding moves planned_each state_after_each
  ended i n b' plan' u z =
      let e : i ≡ 0 = omega arith in
      let v = rw e at u in
      record {
        count = omega (arith, v.count);
        state = v.ends;
        elements = rw (mul-zero size) (going_done v.going (written_none size written long)).1;
      }

  -- the same at device i - 1, as a loop from the last device down has it
  module _ (i n : ℕ) (b' plan' : List ℕ) (h : 0 < i) (k : i ≤ count_d t) (u : Underway size written t b chosen plan i n b' plan') where
    before_last : Underway size written t b chosen plan (suc (i - 1)) n b' plan'
    before_last = let e : i ≡ suc (i - 1) = omega arith in rw e at u

    pub room_below : size * (limit (width t) * list_room (width t)) ≤ length plan
        → size * (n + length (move_list t b' (states_in chosen) (i - 1))) ≤ length plan'
    room_below = has_room (i - 1) n b' plan' (omega arith) before_last

    pub sum_below : (m : ℕ) → m ≡ length (move_list t b' (states_in chosen) (i - 1)) → Fits w64 (n + m)
    sum_below m e =
        let wide = g.ready.sized.wide in
        let most = product_4160 (limit (width t)) (list_room (width t)) (omega (arith, wide.high)) (omega (arith, wide.high)) in
        record { fits = omega (arith, counted (i - 1) n b' plan' (omega arith) before_last, all_short t b chosen g, most, e) }

    pub next_below : size * (limit (width t) * list_room (width t)) ≤ length plan → (m : ℕ) (b'' plan'' : List ℕ)
        → WrittenFrom size written (move_list t b' (states_in chosen) (i - 1)) (state_moved t b' (states_in chosen) (i - 1)) plan' n m b'' plan''
        → Underway size written t b chosen plan (i - 1) (n + m) b'' plan''
    next_below = next (i - 1) n b' plan' (omega arith) before_last

-- no device is above the last
pub none_above : (s : Station) (f : ℕ → Entry) (n m : ℕ) → n ≡ m → 0 ≡ needed_from s f 0 n (m - n)
unfolding needed_from
none_above s f n m e = let z : m - n ≡ 0 = omega arith in rw z refl
