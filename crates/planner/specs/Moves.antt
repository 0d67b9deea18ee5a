-- Devices that move to the states of a choice: the calls and the state of one move and of all, and what lets them be written.
use Rattle.std.specs.Prelude.{ℕ, ◌*◌, ◌≤◌, ◌<◌, ◌≡◌, true, false, cond, List, [], map, length}
use Rattle.words.specs.Words.{put}
use Rattle.rules.specs.declared.Request.{Request}
use Rattle.rules.specs.Index.{every}
use Rattle.rules.specs.Answers.{passes}
use Rattle.rules.specs.Station.{width, count_d, station}
use Rattle.rules.specs.Table.{table_verdict}
use Rattle.rules.specs.Status.{status, image_size, image_of, state_verdict}
use Rattle.rules.specs.Calls.{word_of, status_needed}
use Rattle.rules.specs.Sleep.{Choice, move_to, stays, moves, offs_alone}
use Rattle.rules.specs.Outcomes.{planned, state_after, planned_each, state_after_each}
use Rattle.status.specs.Ready.{Ready}
use Rattle.request.specs.Permitted.{PermittedRequest}
use Rattle.sleep.specs.Chosen.{states_in}

-- the words of device d's move, none if it stays, and the state image after it
unfoldable pub move_list : List ℕ → List ℕ → (ℕ → ℕ) → ℕ → List ℕ
move_list t b states d = cond (stays (status t b).entries states d) [] (planned t b (move_to d (states d)))

unfoldable pub state_moved : List ℕ → List ℕ → (ℕ → ℕ) → ℕ → List ℕ
state_moved t b states d = cond (stays (status t b).entries states d) b (state_after t b (move_to d (states d)))

-- the moves of all devices
abbrev pub all_moves : List ℕ → List ℕ → (ℕ → ℕ) → List Request
all_moves t b states = moves (status t b).entries states (station t).devices

-- the words that bring all devices to these states, and the state image afterwards: those of the moves; where none moves, the turn-off
-- calls alone
unfoldable pub choice_list : List ℕ → List ℕ → (ℕ → ℕ) → List ℕ
choice_list t b states =
    cond (every (stays (status t b).entries states) (station t).devices) (map word_of (offs_alone (station t) (status t b)))
    (planned_each t b (all_moves t b states))

unfoldable pub choice_state : List ℕ → List ℕ → (ℕ → ℕ) → List ℕ
choice_state t b states =
    cond (every (stays (status t b).entries states) (station t).devices) (image_of (width t) (status_needed (station t) (status t b)))
    (state_after_each t b (all_moves t b states))

-- device d's turn has come: unless it stays, its move is permitted
pub record Turn (t b chosen : List ℕ) (d : ℕ) : Type 0 where
  pub ready : Ready t b
  pub long : length b ≡ image_size (width t)
  pub states : count_d t ≤ length chosen
  pub device : d < count_d t
  pub deeper : ((status t b).entries d).state ≤ states_in chosen d
  pub permitted : stays (status t b).entries (states_in chosen) d ≡ false → PermittedRequest t b (move_to d (states_in chosen d))

-- a table and a consistent state are given, and a choice for some sleep state
pub record Given (t b chosen : List ℕ) : Type 0 where
  pub ready : Ready t b
  pub table : passes (table_verdict t) ≡ true
  pub state : passes (state_verdict t b) ≡ true
  pub states : count_d t ≤ length chosen
  pub sleep : ℕ
  pub choice : Choice (station t) (status t b).entries sleep (states_in chosen)

-- words at the front of what is left of a plan from its word n on, and the state after them; a word has `size` elements of the plan, and
-- `written` turns words into these
pub record WrittenFrom (size : ℕ) (written : List ℕ → List ℕ) (list after plan : List ℕ) (n k : ℕ) (b' plan' : List ℕ) : Type 0 where
  pub count : k ≡ length list
  pub state : b' ≡ after
  pub elements : plan' ≡ put plan (size * n) (written list)
