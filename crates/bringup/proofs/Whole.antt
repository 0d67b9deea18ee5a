-- Bring-up whole: the checks in turn, the words and the state afterwards, and the answers of bring-up and of its checker.
use mathlib.Core.Path.{◌≡◌, refl, sym, ap, ◌∙◌}
use mathlib.Core.Bool.{Bool, true, false, not}
use mathlib.Core.List.{List}
use Prim.Native.Nat.{ℕ, ◌+◌, ◌*◌, ◌^◌, ◌≤◌, ◌<◌}
use native.Mathlib.Omega.{arith}
use borrow.Author.Tests.{leb-true, not-true, not-false}
use lib.Dec.{leb}
use lib.ListN.{length}
use Rattle.sets.proofs.Laws.{minus_lt}
use Rattle.words.specs.Words.{put, word_bytes}
use Rattle.rules.specs.Verdict.{Verdict}
use Rattle.std.specs.Prelude.{Ok, None}
use Rattle.rules.specs.Verdict.{refuse}
use Rattle.rules.specs.declared.Reason.TheVariants.{NoRoom, NotConforming}
use Rattle.rules.specs.Answers.{number_of, count_of, passes}
use Rattle.rules.specs.Station.{width, count_r, station_of, station}
use Rattle.rules.specs.Table.{table_verdict}
use Rattle.rules.specs.Power.{needed}
use Rattle.rules.specs.Status.{entries_size, entries, status_of, status, image_of}
use Rattle.rules.specs.declared.Switching.{Switching}
use Rattle.rules.specs.Calls.{to_turn_on, to_turn_off, switching_of, status_needed}
use Rattle.rules.specs.Check.{is_end}
use Rattle.rules.specs.Outcomes.{list_room, of_bytes}
use Rattle.rules.specs.BringUp.{state_but_power_verdict, bring_up_stages, bring_up_calls, bring_up_list, state_brought_up}
use Rattle.rules.specs.BringUp.{bring_up_words, bring_up_bytes}
use Rattle.rules.specs.BringUp.{conforming_to_bring_up, check_bring_up_words, check_bring_up_bytes}
use Rattle.rules.proofs.Answers.{done_passes, refused_stops, first_pass, first_stop, first_none, unless_of, unless_stop, answer_passed}
use Rattle.rules.proofs.Answers.{answer_stopped}
use Rattle.laws.specs.BringUp.{BringsUpWords}
use Rattle.laws.proofs.States.{needed_small, values_of}
use Rattle.laws.proofs.Stages.{BringUpPassed, bring_up_of, bring_up_pass}
use Rattle.laws.proofs.BringUp.{brings_up_words}
use Rattle.table.specs.Layout.{WellSized}
use Rattle.table.proofs.Verdicts.{sized_of, no_table, table_passed}
use Rattle.calls.specs.Phases.{phase_words}
use Rattle.status.specs.Ready.{status_with}
use Rattle.switching.specs.Written.{WrittenPlan}
use Rattle.switching.specs.Phases.{take_phases}
use Rattle.switching.proofs.Made.{minus_disjoint, phases_words}
use Rattle.switching.proofs.Run.{phase_fits}
use Rattle.switching.proofs.Walks.{phases_are}
use Rattle.switching.proofs.Answered.{Answered, outcome_refused, outcome_written, list_refused, list_19, list_done}
use Rattle.bringup.specs.Passed.{BringUpState}

-- ---- the checks in turn; v is a stage's answer
pub stop_table : (t b : List ℕ) (room : Bool) (v : Verdict) → v ≡ table_verdict t → passes v ≡ false
    → v ≡ bring_up_stages room t b
unfolding bring_up_stages
stop_table t b room v e n = e ∙ sym (first_stop (table_verdict t) _ (Ok 0) (answer_stopped v _ e n))

module _ (t b : List ℕ) (done : table_verdict t ≡ Ok 0) (v : Verdict) (e : v ≡ state_but_power_verdict t b)
    (room : Bool) where
  on_table : passes (table_verdict t) ≡ true
  on_table = ap passes done ∙ done_passes 0

  pub stop_state : passes v ≡ false → v ≡ bring_up_stages room t b
  unfolding bring_up_stages
  stop_state n =
      e ∙ sym (first_pass (table_verdict t) _ (Ok 0) on_table
      ∙ first_stop (state_but_power_verdict t b) _ (Ok 0) (answer_stopped v _ e n))

  module _ (n : passes v ≡ true) where
    on_state : passes (state_but_power_verdict t b) ≡ true
    on_state = answer_passed v _ e n

    pub stop_room : not room ≡ true → refuse NoRoom 0 ≡ bring_up_stages room t b
    unfolding bring_up_stages
    stop_room m =
        sym (first_pass (table_verdict t) _ (Ok 0) on_table ∙ first_pass (state_but_power_verdict t b) _ (Ok 0) on_state
        ∙ rw (unless_stop room NoRoom 0 (not-true room m)) (first_stop (refuse NoRoom 0) _ (Ok 0) (refused_stops NoRoom 0)))

    pub all_passed : not room ≡ false → Ok 0 ≡ bring_up_stages room t b
    unfolding bring_up_stages
    all_passed m =
        sym (first_pass (table_verdict t) _ (Ok 0) on_table ∙ first_pass (state_but_power_verdict t b) _ (Ok 0) on_state
        ∙ rw (unless_of room NoRoom 0 (not-false room m)) (first_pass (Ok 0) _ (Ok 0) (done_passes 0) ∙ first_none (Ok 0)))

pub ruleset in_turn = (stop_table, table_passed, stop_state, stop_room, all_passed)

-- ---- what they have shown
pub passed_by : (t b : List ℕ) (room : Bool) (v : Verdict) → v ≡ bring_up_stages room t b → passes v ≡ true
    → BringUpState t b
passed_by t b room v e n =
    let g = (bring_up_of room t b (answer_passed v _ e n)).0 in
    record {
      sized = sized_of t g.table;
      long = (values_of t b g.values).long;
      passed = ap passes (bring_up_pass true t b g refl) ∙ done_passes 0;
    }

module _ (t b : List ℕ) (g : BringUpState t b) where
  pub bring_up_passed : BringUpPassed t b
  bring_up_passed = (bring_up_of true t b g.passed).0

  pub state_sized : WellSized t
  state_sized = g.sized

  pub state_long : entries_size (width t) ≤ length b
  state_long = omega (arith, g.long)

  -- both sets have resources of the table alone
  pub on_small : (on : ℕ) → on ≡ (status t b).on → on < 2 ^ count_r t
  unfolding station_of
  on_small on h = rw h (values_of t b bring_up_passed.values).on

  pub target_small : (target : ℕ) → target ≡ needed (station t) (entries t b) → target < 2 ^ count_r t
  unfolding station_of
  target_small target n = rw n (needed_small t bring_up_passed.table (entries t b))

-- ---- the switching, from the values as the code has them
module _ (t b : List ℕ) (on target : ℕ) (h : on ≡ (status t b).on) (n : target ≡ needed (station t) (entries t b)) (c : Switching)
    (e : c ≡ switching_of None false on target) where
  module _ (g : BringUpState t b) where
    pub added_small : c.added < 2 ^ count_r t
    unfolding to_turn_on
    added_small = rw e (minus_lt _ target on (target_small t b g target n))

    pub removed_small : c.removed < 2 ^ count_r t
    unfolding to_turn_off
    removed_small = rw e (minus_lt _ on target (on_small t b g on h))

    pub switches_room : (m : ℕ) → list_room (width t) ≤ m → 0 + length (phase_words (station t) c.added c.removed) ≤ m
    unfolding to_turn_on to_turn_off
    switches_room m h =
        let fits = phase_fits t c.added c.removed (rw e (minus_disjoint target on)) in
        omega (arith, fits, g.sized.resources)

  list_is : phase_words (station t) c.added c.removed ≡ bring_up_list t b
  unfolding bring_up_list bring_up_calls status_of to_turn_on to_turn_off
  list_is = rw (e, h, n) (phases_words (station t) _ _)

  pub test_is : (ws : List ℕ) (r : Bool) → r ≡ is_end (take_phases (station t) c.added c.removed ws) → r ≡ conforming_to_bring_up (station t) (status t b) ws
  unfolding status_of
  test_is ws r f = f ∙ rw (e, h, n) (phases_are (station t) _ _ ws)

  pub up_written : (m : ℕ) (b' plan plan' : List ℕ) → m ≡ 0 + length (phase_words (station t) c.added c.removed)
      → plan' ≡ put plan 0 (phase_words (station t) c.added c.removed) → b' ≡ image_of (width t) (status_with t b target)
      → WrittenPlan (bring_up_list t b) (state_brought_up t b) plan m b' plan'
  unfolding state_brought_up status_needed status_of
  up_written m b' plan plan' count put' image =
      record {
        count = omega (arith, ap length list_is);
        state = image ∙ rw n refl;
        words = put' ∙ ap (put plan 0) list_is;
      }

pub ruleset switch_laws = (state_sized, state_long, on_small, target_small, added_small, removed_small, test_is)

-- ---- the outcome; n: the room that a plan must have, in words; m: the words or bytes that it has
module _ (t b : List ℕ) (n m : ℕ) (i : n ≡ list_room (width t)) (v : Verdict) where
  pub room_there : v ≡ bring_up_stages (leb n m) t b → passes v ≡ true → list_room (width t) ≤ m
  room_there e k = rw i at (leb-true n m (bring_up_of (leb n m) t b (answer_passed v _ e k)).1)

  pub room_bytes : v ≡ bring_up_stages (leb (4 * n) m) t b → passes v ≡ true → 4 * list_room (width t) ≤ m
  room_bytes e k = rw i at (leb-true (4 * n) m (bring_up_of (leb (4 * n) m) t b (answer_passed v _ e k)).1)

module _ (t b plan : List ℕ) (n : ℕ) (i : n ≡ list_room (width t)) (v : Verdict) where
  -- a plan of words
  module _ (e : v ≡ bring_up_stages (leb n (length plan)) t b) where
    pub words_refused : passes v ≡ false → Answered v b plan (bring_up_words t b plan)
    unfolding bring_up_words
    words_refused k = outcome_refused _ v (rw i at e) (λ ws. ws) b plan (state_brought_up t b) (bring_up_list t b) k

    pub words_brought : passes v ≡ true → (k : ℕ) (b' plan' : List ℕ) → WrittenPlan (bring_up_list t b) (state_brought_up t b) plan k b' plan'
        → Answered (Ok k) b' plan' (bring_up_words t b plan)
    unfolding bring_up_words
    words_brought h k b' plan' w =
        outcome_written _ v (rw i at e) (λ ws. ws) b plan (state_brought_up t b) (bring_up_list t b) h k b' plan' w.count w.state
        w.words

  -- a plan of bytes
  module _ (e : v ≡ bring_up_stages (leb (4 * n) (length plan)) t b) where
    pub bytes_refused : passes v ≡ false → Answered v b plan (bring_up_bytes t b plan)
    unfolding bring_up_bytes
    bytes_refused k = outcome_refused _ v (rw i at e) word_bytes b plan (state_brought_up t b) (bring_up_list t b) k

    pub bytes_brought : passes v ≡ true → (k : ℕ) (b' plan' : List ℕ) → k ≡ length (bring_up_list t b) → b' ≡ state_brought_up t b
        → plan' ≡ put plan 0 (word_bytes (bring_up_list t b)) → Answered (Ok k) b' plan' (bring_up_bytes t b plan)
    unfolding bring_up_bytes
    bytes_brought h k b' plan' count state elements =
        outcome_written _ v (rw i at e) word_bytes b plan (state_brought_up t b) (bring_up_list t b) h k b' plan' count state elements

-- what bring-up promises, of the parts of an outcome of words
pub words_brings : {v : Verdict} {b' plan' : List ℕ} (t b plan : List ℕ) → Answered v b' plan' (bring_up_words t b plan)
    → BringsUpWords t b plan (number_of v) (count_of v) b' plan'
words_brings t b plan a = rw (a.verdict, a.state, a.plan) (brings_up_words t b plan)

-- ---- the checker's answer; c is what the test said
module _ (t b list : List ℕ) (v : Verdict) (e : v ≡ bring_up_stages true t b) where
  -- of a list of words
  pub check_refused : passes v ≡ false → v ≡ check_bring_up_words t b list
  unfolding check_bring_up_words
  check_refused n = list_refused _ v e _ n

  module _ (c : Bool) (n : passes v ≡ true) (g : c ≡ conforming_to_bring_up (station t) (status t b) list) where
    pub check_19 : not c ≡ true → refuse NotConforming 0 ≡ check_bring_up_words t b list
    unfolding check_bring_up_words
    check_19 z = list_19 _ v e c _ n g z

    pub check_done : not c ≡ false → Ok 0 ≡ check_bring_up_words t b list
    unfolding check_bring_up_words
    check_done z = list_done _ v e c _ n g z

  -- of a list of bytes
  pub check_bytes_refused : passes v ≡ false → v ≡ check_bring_up_bytes t b list
  unfolding check_bring_up_bytes
  check_bytes_refused n = list_refused _ v e _ n

  module _ (c : Bool) (n : passes v ≡ true) (g : c ≡ of_bytes (conforming_to_bring_up (station t) (status t b)) list) where
    pub check_bytes_19 : not c ≡ true → refuse NotConforming 0 ≡ check_bring_up_bytes t b list
    unfolding check_bring_up_bytes
    check_bytes_19 z = list_19 _ v e c _ n g z

    pub check_bytes_done : not c ≡ false → Ok 0 ≡ check_bring_up_bytes t b list
    unfolding check_bring_up_bytes
    check_bytes_done z = list_done _ v e c _ n g z

pub ruleset of_words = (check_refused, check_19, check_done)

pub ruleset of_bytes_lem = (check_bytes_refused, check_bytes_19, check_bytes_done)
