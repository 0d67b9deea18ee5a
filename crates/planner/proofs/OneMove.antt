-- One move of sleep entry: what it asks, and what it leaves in the buffer of one plan, in a plan of words and in one of bytes.
use mathlib.Core.Path.{◌≡◌, refl, sym, ap, ◌∙◌}
use mathlib.Core.Bool.{Bool, true, false}
use mathlib.Core.List.{List}
use Prim.Native.Nat.{ℕ, ◌+◌, ◌*◌, ◌^◌, ◌≤◌, ◌<◌}
use native.Mathlib.Omega.{arith}
use mir.Syntax.{w32}
use mir.Val.{Fits}
use borrow.Author.Tests.{eqb-false, ne_eqb}
use lib.ListN.{length, take}
use Rattle.sets.proofs.Laws.{decide}
use Rattle.words.specs.Words.{put}
use Rattle.words.proofs.Put.{put_none, take_put}
use Rattle.rules.specs.Station.{width, limit, count_r, station}
use Rattle.rules.specs.Status.{entry_at, entries, status_of, status, image_size, image_of}
use Rattle.rules.specs.Power.{needs}
use Rattle.rules.specs.Request.{in_state, new_entry}
use Rattle.rules.specs.Calls.{own_call, own_last, end_set, status_after, switching_of, switching_words}
use Rattle.rules.specs.Sleep.{move_to, stays}
use Rattle.rules.specs.Outcomes.{list_room, state_after}
use Rattle.rules.specs.declared.Call.{Call}
use Rattle.std.specs.Prelude.{Option}
use Rattle.rules.specs.declared.Switching.{Switching}
use Rattle.rules.specs.declared.Entry.{Entry}
use Rattle.table.specs.Layout.{WellSized}
use Rattle.status.specs.Ready.{Ready, entry_with}
use Rattle.status.proofs.Keeps.{entry_ready}
use Rattle.request.specs.Permitted.{PermittedRequest}
use Rattle.request.proofs.Changes.{on_small, needed_lt, change_is, change_good}
use Rattle.switching.specs.Switching.{GoodSwitching}
use Rattle.switching.specs.Written.{WrittenPlan}
use Rattle.sleep.specs.Chosen.{states_in}
use Rattle.planner.specs.Moves.{move_list, state_moved, Turn, WrittenFrom}
use Rattle.planner.proofs.Whole.{list_is}
use Rattle.planner.proofs.Room.{words_inside, request_room}

-- ---- what a turn has shown
module _ (t b chosen : List ℕ) (d : ℕ) (g : Turn t b chosen d) where
  pub turn_ready : Ready t b
  turn_ready = g.ready

  pub turn_sized : WellSized t
  turn_sized = g.ready.sized

  pub turn_long : length b ≡ image_size (width t)
  turn_long = g.long

  pub turn_limit : d < limit (width t)
  turn_limit = omega (arith, g.device, g.ready.sized.devices)

  pub device_fits : Fits w32 d
  device_fits = record { fits = omega (arith, g.device, g.ready.sized.devices, g.ready.sized.wide.high) }

  -- the list fits the buffer of one plan
  pub move_short : length (move_list t b (states_in chosen) d) ≤ list_room (width t)
  unfolding move_list
  move_short =
      decide (stays (status t b).entries (states_in chosen) d) (λ e. rw e (omega arith))
      (λ e. rw e (request_room t b (move_to d (states_in chosen d)) (g.permitted e)))

-- a switching whose own call comes first
pub switched_first : (w : Switching) (o : Option Call) (on set : ℕ) → w ≡ switching_of o false on set → w.last ≡ false
switched_first w o on set e = ap (λ (c : Switching). c.last) e

-- ---- s is whether the device stays, as the code has tested it
module _ (t b chosen : List ℕ) (d : ℕ) (s : Bool) (test : s ≡ stays (entries t b) (states_in chosen) d) where
  stays_is : stays (status t b).entries (states_in chosen) d ≡ s
  unfolding status_of
  stays_is = sym test

  pub move_none : (calls : List ℕ) → s ≡ true
      → WrittenPlan (move_list t b (states_in chosen) d) (state_moved t b (states_in chosen) d) calls 0 b calls
  unfolding move_list state_moved
  move_none calls e = rw (stays_is ∙ e) (record { count = refl; state = refl; words = sym (put_none calls 0) })

  -- a is the state that was chosen, as a number of the request
  module _ (e : s ≡ false) (a : ℕ) (is : a ≡ states_in chosen d) where
    pub move_asked : Turn t b chosen d → PermittedRequest t b (move_to d a)
    move_asked g = rw is (g.permitted (stays_is ∙ e))

    -- the own call of a deeper move comes first
    own_first : Turn t b chosen d → false ≡ own_last (move_to d a)
    unfolding own_last
    own_first g =
        let other = eqb-false (states_in chosen d) ((status t b).entries d).state (stays_is ∙ e) in
        rw (ne_eqb a 0 (λ z. other (omega (arith, z, is, g.deeper)))) refl

    -- both sets have resources of the table alone
    pub move_sets : (on set : ℕ) → Turn t b chosen d → on ≡ (status t b).on
        → set ≡ end_set (station t) (entries t b) (move_to d (states_in chosen d))
        → WellSized t × (on < 2 ^ count_r t) × (set < 2 ^ count_r t)
    move_sets on set g h n-is =
        let asked = move_asked g in
        (asked.ready.sized, on_small t b (move_to d a) on asked h, needed_lt t b (move_to d a) asked set (rw is n-is))

    -- the switching of the move, from the values as the code has them
    module _ (g : Turn t b chosen d) (on set : ℕ) (u : Entry) (o : Option Call) (w : Switching) (h : on ≡ (status t b).on)
        (read : u ≡ entry_at b (4 * d)) (own : o ≡ own_call (station t) u (move_to d a)) (w-is : w ≡ switching_of o false on set)
        (n-is : set ≡ end_set (station t) (entries t b) (move_to d (states_in chosen d))) where
      needed_is : set ≡ end_set (station t) (entries t b) (move_to d a)
      needed_is = rw is n-is

      pub move_switches : GoodSwitching t w
      move_switches =
          let asked = move_asked g in
          change_good t b (move_to d a) asked on set u _ o false w w-is read refl needed_is own (on_small t b (move_to d a) on asked h)

      -- the words and the state
      pub move_some : (n : ℕ) (b' calls calls' : List ℕ) → n ≡ length (switching_words (station t) w)
          → calls' ≡ put calls 0 (switching_words (station t) w) → b' ≡ image_of (width t) (entry_with t b d (in_state (entries t b d) (states_in chosen d)) set)
          → WrittenPlan (move_list t b (states_in chosen) d) (state_moved t b (states_in chosen) d) calls n b' calls'
      unfolding move_list state_moved state_after status_after new_entry status_of
      move_some n b' calls calls' count written image =
          let made = change_is t b (move_to d a) (move_asked g) on set u _ o false w w-is read refl needed_is own (own_first g) in
          let list = list_is t b (move_to d a) on _ h made in
          rw (stays_is ∙ e, ← is) (record {
            count = count ∙ ap length list;
            state = image ∙ rw (n-is, ← is) refl;
            words = written ∙ ap (put calls 0) list;
          })

-- what it needs in the state that was chosen; e is its entry
pub chosen_needed : (t b chosen : List ℕ) (d : ℕ) (e : Entry) (r : ℕ) → Turn t b chosen d → e ≡ entry_at b (4 * d)
    → r ≡ needs (station t) d (in_state e (states_in chosen d)) → r ≡ needs (station t) d (in_state (entries t b d) (states_in chosen d))
chosen_needed t b chosen d e r g read k = k ∙ rw (entry_ready t b d e g.ready g.device read) refl

pub ruleset one_move = (turn_ready, turn_sized, turn_long, turn_limit, device_fits, move_none)

-- ---- from the buffer of one plan into the plan, from word `at` on
module _ (list after : List ℕ) (n : ℕ) (b' calls calls' : List ℕ) (w : WrittenPlan list after calls n b' calls') where
  front_is : take n calls' ≡ list
  front_is = ap (take n) w.words ∙ take_put calls list n (sym w.count)

  pub put_length : n ≡ length (take n calls')
  put_length = w.count ∙ sym (ap length front_is)

  -- as much as the plan has room for
  pub put_room : (size at m : ℕ) → size * (at + length list) ≤ m → size * (at + length (take n calls')) ≤ m
  put_room size at m h = rw front_is h

  pub put_from : (size : ℕ) (written : List ℕ → List ℕ) (plan plan' : List ℕ) (at : ℕ)
      → plan' ≡ put plan (size * at) (written (take n calls')) → WrittenFrom size written list after plan at n b' plan'
  put_from size written plan plan' at e =
      record { count = w.count; state = w.state; elements = e ∙ ap (λ ws. put plan (size * at) (written ws)) front_is }

-- what is put is in the buffer
pub put_inside : (t b chosen : List ℕ) (d n : ℕ) (after b' calls calls' : List ℕ) → Turn t b chosen d
    → WrittenPlan (move_list t b (states_in chosen) d) after calls n b' calls' → list_room (width t) ≤ length calls → n ≤ length calls'
put_inside t b chosen d n after b' calls calls' g w l = words_inside t _ _ (move_short t b chosen d g) n b' calls calls' w l
