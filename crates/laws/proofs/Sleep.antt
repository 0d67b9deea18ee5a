-- What sleep entry promises holds of every table, state, request of kind 4 and plan: the states afterwards are the least choice, the plan
-- is the lists of its moves or the turn-off calls alone, and a second time there are no calls.
use mathlib.Core.Path.{◌≡◌, refl, sym, ap, ◌∙◌}
use mathlib.Core.Bool.{Bool, true, false}
use mathlib.Core.List.{List, [], map, map-map}
use mathlib.Core.Logic.{⊎_elim}
use Prim.Native.Nat.{ℕ, ◌*◌, ◌≤◌, ◌<◌}
use native.Mathlib.Nat.{one-mul}
use native.Mathlib.Omega.{arith}
use borrow.Author.Tests.{eqb-true, leb-true, le-leb, ltb-true, ltb-false, not-false}
use lib.Dec.{leb, ltb}
use lib.ListN.{length}
use Rattle.sets.specs.Sets.{member}
use Rattle.sets.proofs.Laws.{decide, member_below}
use Rattle.words.specs.Words.{put, word_bytes}
use Rattle.words.proofs.Laws.{word_bytes_length}
use Rattle.rules.specs.declared.Entry.{Entry}
use Rattle.rules.specs.declared.Request.{Request}
use Rattle.rules.specs.Verdict.{Verdict}
use Rattle.std.specs.Prelude.{Ok}
use Rattle.rules.specs.Answers.{number_of, count_of, passes}
use Rattle.rules.specs.Station.{Station, width, station}
use Rattle.rules.specs.Table.{table_verdict}
use Rattle.rules.specs.Power.{is_armed, needed, powered_in}
use Rattle.rules.specs.Status.{status, state_verdict}
use Rattle.rules.specs.Request.{in_state}
use Rattle.rules.specs.Calls.{word_of}
use Rattle.rules.specs.Sleep.{is_sleep, armed_for_other, wake_d_if_armed, Choice, least_choice, has_choice, sleep_moves, none_moving, offs_alone}
use Rattle.rules.specs.Outcomes.{Outcome, sleep_stages, planned_each, state_after_each, sleep_list, state_for_sleep, plan_room, plan_outcome}
use Rattle.rules.specs.Outcomes.{plan_words, plan_bytes}
use Rattle.rules.specs.BringUp.{bring_up_list, state_brought_up}
use Rattle.rules.proofs.Index.{every_at}
use Rattle.rules.proofs.Answers.{first_through, done_passes}
use Rattle.laws.specs.Demand2.{ExactlyNeeded}
use Rattle.laws.specs.Sleep.{SleepEntry, SleepEntryWords, SleepEntryBytes}
use Rattle.laws.proofs.Accepted.{accepted}
use Rattle.laws.proofs.Needed.{needed_by}
use Rattle.laws.proofs.Kept.{StationRules}
use Rattle.laws.proofs.States.{station_rules, consistent_of}
use Rattle.laws.proofs.Stages.{BringUpPassed}
use Rattle.laws.proofs.Lists.{number_passes, plan_outcome_lem, outcome_number, plan_passes, plan_state_lem, left_plan, one_each}
use Rattle.laws.proofs.Lists.{written_none}
use Rattle.laws.proofs.Plans.{room_sleep, words_sleep, bytes_sleep}
use Rattle.laws.proofs.Moves.{Moving, moving_start}
use Rattle.laws.proofs.Choice.{Taken, taken_of, none_moves, least_is_choice, least_of_all, no_choice_lem, again_choice}
use Rattle.laws.proofs.Choice.{again_none_moves}
use Rattle.laws.proofs.Demand2.{exactly_needed}
use Rattle.laws.proofs.BringUp.{Settled, settled_state, settled_list, up_consistent, up_settled, up_entries, consistent_passes}
use Rattle.laws.proofs.BringUp.{offs_alone_lem}
use Rattle.laws.proofs.SleepMoves.{reachable, Moved, moved, some_moves}
use Rattle.laws.proofs.SleepStages.{SleepPassed, sleep_of, sleep_pass, none_of, none_is, choice_table}

-- ---- list and state, by whether a device moves

-- of a consistent state bring-up gives the turn-off calls alone
pub offs_list : (t b : List ℕ) → passes (table_verdict t) ≡ true → passes (state_verdict t b) ≡ true
    → map word_of (offs_alone (station t) (status t b)) ≡ bring_up_list t b
unfolding offs_alone
offs_list t b e f = rw (offs_alone_lem t b e f) (simp map-map)

module _ (t b : List ℕ) (x : ℕ) where
  -- no device moves
  abbrev still : Bool
  still = none_moving (station t) (status t b).entries x

  -- where none moves, they are those of bring-up
  pub sleep_offs : still ≡ true → passes (table_verdict t) ≡ true → passes (state_verdict t b) ≡ true → sleep_list t b x ≡ bring_up_list t b
  unfolding sleep_list
  sleep_offs z e f = rw z (offs_list t b e f)

  pub sleep_up : still ≡ true → state_for_sleep t b x ≡ state_brought_up t b
  unfolding state_for_sleep state_brought_up
  sleep_up z = rw z refl

  -- else those of the moves
  pub sleep_lists : still ≡ false → sleep_list t b x ≡ planned_each t b (sleep_moves (station t) (status t b).entries x)
  unfolding sleep_list
  sleep_lists z = rw z refl

  pub sleep_after : still ≡ false → state_for_sleep t b x ≡ state_after_each t b (sleep_moves (station t) (status t b).entries x)
  unfolding state_for_sleep
  sleep_after z = rw z refl

-- ---- the state afterwards
module _ (t b : List ℕ) (q : Request) (g : SleepPassed t b q) where
  abbrev s : Station
  s = station t

  abbrev present : ℕ → Entry
  present = (status t b).entries

  abbrev states : ℕ → ℕ
  states = least_choice s present q.a

  abbrev b' : List ℕ
  b' = state_for_sleep t b q.a

  -- the rules of an accepted table
  rules : StationRules s
  rules = station_rules t (accepted t g.table)

  -- the least choice is a choice
  chosen : Choice s present q.a states
  chosen = least_is_choice s rules present q.a g.choice

  -- the moves, one after the other
  pub sleep_moved : Moved t b states b (sleep_moves s present q.a)
  sleep_moved =
      moved t b states g.table (reachable s present q.a states chosen) s.devices b (omega arith)
      (moving_start t b states g.state)

  -- where none moves, bring-up can be done
  up : BringUpPassed t b
  up = consistent_passes t b g.table g.state

  -- it moves every device to its state of the least choice, the present one
  up_moving : none_moving s present q.a ≡ true → Moving t b states 0 (state_brought_up t b)
  up_moving z =
      record {
        state = ap passes (up_consistent t b up) ∙ done_passes 0;
        before = λ k h. absurd (omega arith);
        moved = λ k h l. up_entries t b up k ∙ rw (none_moves s present q.a k l z) refl;
        others = λ k h. up_entries t b up k;
      }

  -- every device is in its state of the least choice
  pub sleep_states : Moving t b states 0 b'
  sleep_states =
      decide (none_moving s present q.a) (λ z. rw (sleep_up t b q.a z) (up_moving z))
      (λ z. rw (sleep_after t b q.a z) sleep_moved.moved_all)

  -- and on is exactly what is needed
  pub sleep_settled : Settled t b'
  sleep_settled =
      decide (none_moving s present q.a) (λ z. rw (sleep_up t b q.a z) (up_settled t b up))
      (λ z. rw (sleep_after t b q.a z) (⊎_elim (λ e. absurd (some_moves s present q.a z e)) (λ k. k) sleep_moved.settled))

  -- the state is consistent, with exactly the needed set on
  sleep_exactly : ExactlyNeeded t b'
  unfolding state_verdict
  sleep_exactly = exactly_needed t b' (first_through _ (Ok 0) sleep_states.state) sleep_settled.on

  -- the entry of a device
  entry_is : (d : ℕ) → d < s.devices → (status t b').entries d ≡ in_state (present d) (states d)
  entry_is d h = sleep_states.moved d (omega arith) h

  -- any entry is as before but for the state
  entries_kept : (d : ℕ) → (status t b').entries d ≡ in_state (present d) ((status t b').entries d).state
  entries_kept d =
      decide (ltb d s.devices) (λ l. rw (entry_is d (ltb-true _ _ l)) refl) (λ l. rw (sleep_states.others d (ltb-false _ _ l)) refl)

  -- what its state has passed
  taken : (d : ℕ) → d < s.devices → Taken s present q.a d (states d)
  taken d h = taken_of s present q.a d (states d) (chosen.taken d h)

  -- the states are a choice
  left_choice : Choice s present q.a (λ d. ((status t b').entries d).state)
  left_choice = record { taken = λ d h. rw (entry_is d h) (chosen.taken d h); parents = sleep_exactly.parents }

  -- and none has a shallower one
  left_least : (f : ℕ → ℕ) → Choice s present q.a f → (d : ℕ) → d < s.devices → ((status t b').entries d).state ≤ f d
  left_least f c d h = rw (entry_is d h) (least_of_all s rules present q.a f c d h)

  -- an armed device
  armed_wakes : (d : ℕ) → d < s.devices → is_armed (present d) ≡ true
      → ((present d).sleep ≡ q.a) × (((status t b').entries d).state ≡ (present d).wake)
  unfolding armed_for_other wake_d_if_armed
  armed_wakes d h a = (
    eqb-true _ _ (not-false _ (rw a at (g.armed d h))),
    rw (entry_is d h) (eqb-true (states d) (present d).wake (rw a at (taken d h).wake)),
  )

  -- a resource that is on
  on_powered : (r : ℕ) → member (status t b').on r ≡ true → q.a ≤ (s.resource r).level
  unfolding needed powered_in
  on_powered r m =
      let small = member_below s.resources _ r (consistent_of t b' sleep_states.state).1.on m in
      let n = needed_by s (status t b').entries s.devices r (rw sleep_settled.on at m) in
      let level = every_at _ s.resources r (taken n.0 n.1).level small in
      let need = rw (entry_is n.0 n.1) at n.2 in
      leb-true _ _ (rw need at level)

  -- ---- a second time
  -- the checks pass again
  again_passes : SleepPassed t b' q
  unfolding armed_for_other
  again_passes =
      record {
        table = g.table;
        state = sleep_states.state;
        form = g.form;
        armed = λ d h. rw (entry_is d h) (g.armed d h);
        choice = again_choice s rules present q.a (status t b').entries entry_is g.choice;
      }

  -- no device moves
  again_still : none_moving s (status t b').entries q.a ≡ true
  again_still = again_none_moves s rules present q.a (status t b').entries entry_is g.choice

  -- there are no calls
  again_list : sleep_list t b' q.a ≡ []
  again_list = sleep_offs t b' q.a again_still g.table sleep_states.state ∙ settled_list t b' sleep_settled g.table

  -- the state stays
  again_state : state_for_sleep t b' q.a ≡ b'
  again_state = sleep_up t b' q.a again_still ∙ settled_state t b' sleep_settled

-- ---- sleep entry, on words and on bytes
module _ (size : ℕ) (written : List ℕ → List ℕ) (long : (ws : List ℕ) → length (written ws) ≡ size * length ws)
    (planOn : List ℕ → List ℕ → Request → List ℕ → Outcome) (q : Request) (is : (t b plan : List ℕ) → planOn t b q plan
    ≡ plan_outcome written (sleep_stages (leb (size * plan_room (width t) q) (length plan)) t b q) b plan (state_for_sleep t b q.a)
    (sleep_list t b q.a)) where
  module _ (t b plan : List ℕ) where
    abbrev room : Bool
    room = leb (size * plan_room (width t) q) (length plan)

    abbrev checks : Verdict
    checks = sleep_stages room t b q

    abbrev o : Outcome
    o = plan_outcome written checks b plan (state_for_sleep t b q.a) (sleep_list t b q.a)

    -- it is done where the checks pass and there is room
    done : SleepPassed t b q → room ≡ true → o ≡ record {
      verdict = Ok (length (sleep_list t b q.a));
      state = state_for_sleep t b q.a;
      plan = put plan 0 (written (sleep_list t b q.a));
    }
    done g r =
        plan_outcome_lem written checks b plan (state_for_sleep t b q.a) (sleep_list t b q.a)
        (ap passes (sleep_pass room t b q g r) ∙ done_passes 0)

    -- its number is that of the checks
    number_is : number_of o.verdict ≡ number_of checks
    number_is = outcome_number written checks b plan (state_for_sleep t b q.a) (sleep_list t b q.a)

    module _ (e : number_of o.verdict ≡ 0) where
      -- done, the checks have passed
      stages : SleepPassed t b q × (room ≡ true)
      stages = sleep_of room t b q (plan_passes written checks b plan (state_for_sleep t b q.a) (sleep_list t b q.a) e)

      -- and this is the state
      left_state : o.state ≡ state_for_sleep t b q.a
      left_state = plan_state_lem written checks b plan (state_for_sleep t b q.a) (sleep_list t b q.a) e

  -- a second time
  again : (t b p : List ℕ) (g : SleepPassed t b q) → leb (size * plan_room (width t) q) (length p) ≡ true
      → planOn t (state_for_sleep t b q.a) q p ≡ record { verdict = Ok 0; state = state_for_sleep t b q.a; plan = p }
  again t b p g r =
      is t (state_for_sleep t b q.a) p ∙ done t (state_for_sleep t b q.a) p (again_passes t b q g) r
      ∙ rw (again_list t b q g, again_state t b q g, written_none size written long) (unfold put in refl)

  -- all that it promises
  holds : (t b plan : List ℕ) → let o = planOn t b q plan in
      SleepEntry size written planOn t b q plan (number_of o.verdict) (count_of o.verdict) o.state o.plan
  holds t b plan = rw (is t b plan) (record {
    accepts = (
      λ e. let k = stages t b plan e in (ap number_of (sleep_pass true t b q k.0 refl), leb-true _ _ k.1),
      λ x. ap (λ (r : Outcome). number_of r.verdict)
          (done t b plan (sleep_of true t b q (number_passes _ x.0)).0 (le-leb _ _ x.1)),
    );
    no_choice = (
      λ e. let k = none_of (room t b plan) t b q (sym (number_is t b plan) ∙ e) in
          (k.0, no_choice_lem (station t) (station_rules t (accepted t (choice_table _ t b q k.0))) (status t b).entries q.a k.1),
      λ x. let given = station_rules t (accepted t (choice_table _ t b q x.0)) in
          number_is t b plan ∙ none_is (room t b plan) t b q x.0
          (decide (has_choice (station t) (status t b).entries q.a)
          (λ c. absurd (x.1 _ (least_is_choice (station t) given (status t b).entries q.a c))) (λ c. c)),
    );
    choice = λ e. rw (left_state t b plan e) (left_choice t b q (stages t b plan e).0);
    least = λ e f c d h. rw (left_state t b plan e) (left_least t b q (stages t b plan e).0 f c d h);
    entries = λ e d. rw (left_state t b plan e) (entries_kept t b q (stages t b plan e).0 d);
    state = λ e. rw (left_state t b plan e) (sleep_exactly t b q (stages t b plan e).0);
    calls = λ e. left_plan written (checks t b plan) b plan (state_for_sleep t b q.a) (sleep_list t b q.a) e size long;
    moves = λ e z. rw (left_state t b plan e, sleep_lists t b q.a z, sleep_after t b q.a z)
        (sleep_moved t b q (stages t b plan e).0).in_turn;
    offs = λ e z. let g = (stages t b plan e).0 in
        sleep_offs t b q.a z g.table g.state ∙ offs_alone_lem t b g.table g.state;
    wakes = λ e d h a. rw (left_state t b plan e) (armed_wakes t b q (stages t b plan e).0 d h a);
    powered = λ e r m. on_powered t b q (stages t b plan e).0 r (rw (left_state t b plan e) at m);
    again = λ e p r. rw (left_state t b plan e) (again t b p (stages t b plan e).0 (le-leb _ _ r));
  })

-- of a plan of words
pub sleeps_words : (t b : List ℕ) (q : Request) (plan : List ℕ) → is_sleep q ≡ true → let o = plan_words t b q plan in
    SleepEntryWords t b q plan (number_of o.verdict) (count_of o.verdict) o.state o.plan
sleeps_words t b q plan e =
    holds 1 (λ ws. ws) one_each plan_words q
    (λ t b plan. words_sleep t b q plan e ∙ rw (one-mul (plan_room (width t) q), room_sleep (width t) q e) refl) t b plan

-- and of one of bytes
pub sleeps_bytes : (t b : List ℕ) (q : Request) (plan : List ℕ) → is_sleep q ≡ true → let o = plan_bytes t b q plan in
    SleepEntryBytes t b q plan (number_of o.verdict) (count_of o.verdict) o.state o.plan
sleeps_bytes t b q plan e =
    holds 4 word_bytes word_bytes_length plan_bytes q
    (λ t b plan. bytes_sleep t b q plan e ∙ rw (room_sleep (width t) q e) refl) t b plan
