-- Sleep entry whole: what its checks have shown, and the outcome from the calls that bring the devices to the states chosen for them.
use mathlib.Core.Path.{◌≡◌, refl, sym, ap, ◌∙◌}
use mathlib.Core.Bool.{Bool, true, false}
use mathlib.Core.List.{List}
use mathlib.Core.Logic.{inl, inr, ⊎_elim}
use Prim.Native.Nat.{ℕ, zero, suc, ◌*◌, ◌≤◌, ◌<◌}
use native.Mathlib.Nat.{mul-zero, mul-one, mul_comm, mul-le-mul_left}
use native.Mathlib.Omega.{arith}
use borrow.Author.Tests.{leb-true, eqb-true, ltb-true}
use lib.Dec.{eqb, leb, ltb}
use lib.ListN.{length}
use Rattle.words.specs.Words.{put}
use Rattle.rules.specs.declared.Entry.{Entry}
use Rattle.rules.specs.declared.Request.{Request}
use Rattle.rules.specs.Verdict.{Verdict}
use Rattle.std.specs.Prelude.{Ok}
use Rattle.rules.specs.Index.{every}
use Rattle.rules.specs.Answers.{passes}
use Rattle.rules.specs.Station.{absent, width, limit, count_d, station_of, station}
use Rattle.rules.specs.Table.{parent_good, table_verdict}
use Rattle.rules.specs.Status.{entries_size, entries, status_of, status}
use Rattle.rules.specs.Sleep.{is_sleep, Choice, least_choice, stays, moves, none_moving}
use Rattle.rules.specs.BringUp.{bring_up_list, state_brought_up}
use Rattle.rules.specs.Outcomes.{list_room, planned_each, state_after_each, sleep_stages, sleep_list, state_for_sleep, plan_outcome, plan_room, plan_stages, plan_state, plan_list}
use Rattle.sets.proofs.Laws.{decide}
use Rattle.rules.proofs.Width.{width_wide}
use Rattle.rules.proofs.Answers.{done_passes}
use Rattle.laws.proofs.Tests.{or_cases}
use Rattle.laws.proofs.Every.{every_ext}
use Rattle.laws.proofs.Accepted.{accepted}
use Rattle.laws.proofs.Kept.{StationRules}
use Rattle.laws.proofs.States.{station_rules, consistent_of}
use Rattle.laws.proofs.Stages.{bring_up_pass, bring_up_of}
use Rattle.laws.proofs.BringUp.{consistent_passes}
use Rattle.laws.proofs.Choice.{least_is_choice}
use Rattle.laws.proofs.SleepMoves.{reachable}
use Rattle.laws.proofs.SleepStages.{SleepPassed, sleep_of}
use Rattle.laws.proofs.Sleep.{offs_list, sleep_offs, sleep_lists}
use Rattle.table.specs.Layout.{WellSized}
use Rattle.status.specs.Ready.{Ready}
use Rattle.request.proofs.Chain.{ready_of, stop_table}
use Rattle.switching.proofs.Answered.{Answered}
use Rattle.switching.proofs.Short.{up_short}
use Rattle.status.proofs.Filled.{filled_long, filled_at}
use Rattle.sleep.specs.Chosen.{states_in, least_each, stages_left}
use Rattle.sleep.proofs.Verdicts.{sleep_table, passed_least}
use Rattle.bringup.specs.Passed.{BringUpState}
use Rattle.planner.specs.Plan.{plan_elements}
use Rattle.planner.specs.Moves.{all_moves, choice_list, choice_state, Given, WrittenFrom}
use Rattle.planner.proofs.Whole.{outcome_stops, outcome_done, request_refused}
use Rattle.planner.proofs.Turns.{moves_short}

-- ---- the states that stand in the lent bytes are the least choice
moves_same : (entries : ℕ → Entry) (f g : ℕ → ℕ) (n : ℕ) → ((d : ℕ) → d < n → f d ≡ g d) → moves entries f n ≡ moves entries g n
unfolding moves
moves_same entries f g zero h = refl
moves_same entries f g (suc n) h = rw (h n (omega arith), moves_same entries f g n (λ d l. h d (omega arith))) refl

module _ (t b chosen₀ chosen : List ℕ) (x : ℕ) (c : chosen ≡ least_each t b x chosen₀) where
  chosen_at : (d : ℕ) → d < (station t).devices → states_in chosen d ≡ least_choice (station t) (status t b).entries x d
  unfolding station_of status_of
  chosen_at d h = filled_at _ chosen₀ chosen (count_d t) d c h

  all_same : every (stays (status t b).entries (states_in chosen)) (station t).devices ≡ none_moving (station t) (status t b).entries x
  unfolding none_moving
  all_same = every_ext _ _ (station t).devices (λ d h. ap (λ (y : ℕ). eqb y ((status t b).entries d).state) (chosen_at d h))

  queue_same : all_moves t b (states_in chosen)
      ≡ moves (status t b).entries (least_choice (station t) (status t b).entries x) (station t).devices
  queue_same = moves_same (status t b).entries _ _ (station t).devices chosen_at

  least_list : choice_list t b (states_in chosen) ≡ sleep_list t b x
  unfolding choice_list sleep_list
  least_list = rw (all_same, queue_same) refl

  least_state_lem : choice_state t b (states_in chosen) ≡ state_for_sleep t b x
  unfolding choice_state state_for_sleep
  least_state_lem = rw (all_same, queue_same) refl

  -- so they are a choice
  module _ (q : Request) (g : SleepPassed t b q) (is : x ≡ q.a) where
    rules : StationRules (station t)
    rules = station_rules t (accepted t g.table)

    least : Choice (station t) (status t b).entries x (least_choice (station t) (status t b).entries x)
    least = least_is_choice (station t) rules (status t b).entries x (rw is g.choice)

    given : count_d t ≤ length chosen → Given t b chosen
    unfolding parent_good
    given room =
        record {
          ready = ready_of t b g.table g.state;
          table = g.table;
          state = g.state;
          states = room;
          sleep = x;
          choice = record {
            taken = λ d h. rw (chosen_at d h) (least.taken d h);
            parents = λ d h.
                let up = ((station t).device d).parent in
                ⊎_elim
                (λ a. ⊎_elim inl (λ l. inr (rw (chosen_at up (omega (arith, ltb-true up d a, h)), chosen_at d h) l)) (least.parents d h))
                (λ a. inl (eqb-true up absent a))
                (or_cases (ltb up d) (eqb up absent) (rules.parents d h));
          };
        }

-- ---- v is the answer of the checks; n is the room that a plan must have, in words, as the code has it
module _ (t b : List ℕ) (q : Request) (chosen chosen' : List ℕ) (n : ℕ) (i : n ≡ limit (width t) * list_room (width t)) (v : Verdict) (room : Bool) (e : v ≡ sleep_stages room t b q) (c : chosen' ≡ stages_left room t b q chosen)
    (k : passes v ≡ true) where
  passes_all : passes (sleep_stages room t b q) ≡ true
  passes_all = sym (ap passes e) ∙ k

  passed : SleepPassed t b q × (room ≡ true)
  passed = sleep_of room t b q passes_all

  pub choice_given : count_d t ≤ length chosen → Given t b chosen'
  choice_given h =
      let least = passed_least t b q room chosen chosen' passes_all c in
      given t b chosen chosen' q.a least q passed.0 refl (omega (arith, filled_long _ chosen chosen' (count_d t) least h))

  -- of a plan of m elements, of which a word takes `size`
  pub sleep_room : (size s m : ℕ) → s ≡ size → room ≡ leb (s * n) m → size * (limit (width t) * list_room (width t)) ≤ m
  sleep_room size s m j r = rw (i, j) at (leb-true (s * n) m (sym r ∙ passed.1))

-- 64 states are room for every device
pub states_64 : (t states : List ℕ) → table_verdict t ≡ Ok 0 → length states ≡ 64 → count_d t ≤ length states
states_64 t states e l = omega (arith, (accepted t (ap passes e ∙ done_passes 0)).devices, (width_wide t).high)

-- a plan of which a word takes `size` elements; n and s: the room of sleep entry and the size, as the code has them; m: the elements of the
-- plan
module _ (size : ℕ) (written : List ℕ → List ℕ) (t b : List ℕ) (q : Request) (plan : List ℕ) (kind : is_sleep q ≡ true) where
  elements_sleep : plan_elements size written t b q plan
      ≡ plan_outcome written (sleep_stages (leb (size * (limit (width t) * list_room (width t))) (length plan)) t b q) b plan
      (state_for_sleep t b q.a) (sleep_list t b q.a)
  unfolding plan_elements plan_room plan_stages plan_state plan_list
  elements_sleep = rw kind refl

  module _ (n : ℕ) (i : n ≡ limit (width t) * list_room (width t)) (s : ℕ) (j : s ≡ size) (m : ℕ) (l : length plan ≡ m) (v : Verdict)
      (e : v ≡ sleep_stages (leb (s * n) m) t b q) where
    pub sleep_refused : passes v ≡ false → Answered v b plan (plan_elements size written t b q plan)
    sleep_refused k =
        outcome_stops _ (λ r. sleep_stages r t b q) _ b plan _ _ _ elements_sleep (s * n) (rw (i, j) refl) v (rw (← l) at e) k

    pub sleep_planned : passes v ≡ true → (chosen chosen' : List ℕ) → chosen' ≡ stages_left (leb (s * n) m) t b q chosen
        → (k : ℕ) (b' plan' : List ℕ)
        → WrittenFrom size written (choice_list t b (states_in chosen')) (choice_state t b (states_in chosen')) plan 0 k b' plan'
        → Answered (Ok k) b' plan' (plan_elements size written t b q plan)
    sleep_planned h chosen chosen' c k b' plan' w =
        let least = passed_least t b q _ chosen chosen' (sym (ap passes e) ∙ h) c in
        let list = least_list t b chosen chosen' q.a least in
        let elements : plan' ≡ put plan 0 (written (choice_list t b (states_in chosen'))) = rw (mul-zero size) at w.elements in
        outcome_done _ (λ r. sleep_stages r t b q) _ b plan _ _ _ elements_sleep (s * n) (rw (i, j) refl) v (rw (← l) at e) h
        k b' plan' (w.count ∙ ap length list) (w.state ∙ least_state_lem t b chosen chosen' q.a least)
        (elements ∙ ap (λ (ws : List ℕ). put plan 0 (written ws)) list)

-- ---- the list, by whether a device moves; s is what the test returned
-- the room of one list is in that of all
one_of_all : (t : List ℕ) → list_room (width t) ≤ limit (width t) * list_room (width t)
one_of_all t =
    let least : 1 ≤ limit (width t) = omega (arith, (width_wide t).low) in
    omega (arith, mul-le-mul_left (list_room (width t)) least, mul-one (list_room (width t)), mul_comm (list_room (width t)) (limit (width t)))

-- the list of sleep entry has room
pub sleep_short : (t b : List ℕ) (q : Request) → SleepPassed t b q → length (sleep_list t b q.a) ≤ limit (width t) * list_room (width t)
sleep_short t b q g =
    let rules = station_rules t (accepted t g.table) in
    let least = least_is_choice (station t) rules (status t b).entries q.a g.choice in
    decide (none_moving (station t) (status t b).entries q.a)
    (λ z. rw (sleep_offs t b q.a z g.table g.state)
    (omega (arith, one_of_all t, up_short t b (consistent_passes t b g.table g.state))))
    (λ z. rw (sleep_lists t b q.a z)
    (moves_short t b _ g.table g.state (reachable (station t) (status t b).entries q.a _ least)))

pub offs_room : (t b : List ℕ) → BringUpState t b → length (bring_up_list t b) ≤ list_room (width t)
offs_room t b g = up_short t b (bring_up_of true t b g.passed).0

module _ (t b chosen : List ℕ) (g : Given t b chosen) where
  pub given_ready : Ready t b
  given_ready = g.ready

  pub given_sized : WellSized t
  given_sized = g.ready.sized

  pub given_long : entries_size (width t) ≤ length b
  given_long = g.ready.long

  pub given_64 : (sets : List ℕ) → length sets ≡ 64 → count_d t ≤ length sets
  given_64 sets l = omega (arith, g.ready.sized.devices, (width_wide t).high)

  pub given_up : BringUpState t b
  given_up =
      record {
        sized = g.ready.sized;
        long = (consistent_of t b g.state).0;
        passed = ap passes (bring_up_pass true t b (consistent_passes t b g.table g.state) refl) ∙ done_passes 0;
      }

  pub one_list : (size m : ℕ) → size * (limit (width t) * list_room (width t)) ≤ m → size * list_room (width t) ≤ m
  one_list size m h = omega (arith, mul-le-mul_left size (one_of_all t))

  module _ (s : Bool) (test : s ≡ every (stays (entries t b) (states_in chosen)) (count_d t)) where
    still_is : every (stays (status t b).entries (states_in chosen)) (station t).devices ≡ s
    unfolding station_of status_of
    still_is = sym test

    pub choice_still : s ≡ true → (size : ℕ) (written : List ℕ → List ℕ) (n : ℕ) (b' plan plan' : List ℕ)
        → WrittenFrom size written (bring_up_list t b) (state_brought_up t b) plan 0 n b' plan'
        → WrittenFrom size written (choice_list t b (states_in chosen)) (choice_state t b (states_in chosen)) plan 0 n b' plan'
    unfolding choice_list choice_state state_brought_up
    choice_still e size written n b' plan plan' w =
        rw (still_is ∙ e, offs_list t b g.table g.state) (record { count = w.count; state = w.state; elements = w.elements })

    pub choice_moves : s ≡ false → (size : ℕ) (written : List ℕ → List ℕ) (n : ℕ) (b' plan plan' : List ℕ)
        → WrittenFrom size written (planned_each t b (all_moves t b (states_in chosen)))
        (state_after_each t b (all_moves t b (states_in chosen))) plan 0
        n b' plan' → WrittenFrom size written (choice_list t b (states_in chosen)) (choice_state t b (states_in chosen)) plan 0 n b' plan'
    unfolding choice_list choice_state
    choice_moves e size written n b' plan plan' w = rw (still_is ∙ e) w

pub ruleset looking = (given_sized, given_long, given_64)

pub ruleset entering = (given_ready, given_up, one_list)

pub ruleset by_choice = (choice_still, choice_moves)

-- ---- of any kind, what is no table: v is the table's answer
pub no_table : (size : ℕ) (written : List ℕ → List ℕ) (t b : List ℕ) (q : Request) (plan : List ℕ) (v : Verdict) → v ≡ table_verdict t
    → passes v ≡ false → Answered v b plan (plan_elements size written t b q plan)
no_table size written t b q plan v e n =
    decide (is_sleep q) (λ k. sleep_refused size written t b q plan k _ refl _ refl _ refl v (sleep_table t b q _ v e n) n)
    (λ k. request_refused size written t b q plan k _ refl _ refl _ refl v (stop_table t v e b q _ n) n)
