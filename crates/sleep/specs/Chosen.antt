-- The states that stand in lent bytes, a byte for each device, and what the checks of sleep entry leave there.
use Rattle.std.specs.Prelude.{ℕ, Bool, ◌&&◌, cond, List, leb, get_or}
use Rattle.words.specs.Words.{put}
use Rattle.rules.specs.declared.Entry.{Entry}
use Rattle.rules.specs.declared.Request.{Request}
use Rattle.rules.specs.Answers.{passes}
use Rattle.rules.specs.Index.{each}
use Rattle.rules.specs.Station.{Station, count_d, station}
use Rattle.rules.specs.Power.{supported, needs, powered_in}
use Rattle.rules.specs.Status.{entries, under_parent}
use Rattle.rules.specs.Request.{in_state}
use Rattle.rules.specs.Sleep.{sxd_allows, wake_d_if_armed, least_choice, armed_verdict}
use Rattle.rules.specs.Outcomes.{ready_verdict}

-- the state of each device
abbrev pub states_in : List ℕ → ℕ → ℕ
states_in chosen d = get_or chosen d 0

-- y is not shallower than a device's present state, nor than `_SxD` where that is present, nor than its parent's among these states
abbrev pub deep_enough : Station → (ℕ → ℕ) → ℕ → ℕ → ℕ → ℕ → Bool
deep_enough s states x d state y = leb state y && sxd_allows s x d y && under_parent s states d y

-- the rules for a state that do not ask how deep it is: support, power in Sx, and wake D if armed
abbrev pub other_rules : Station → ℕ → ℕ → Entry → ℕ → Bool
other_rules s x d e y = supported s d y && powered_in s x (needs s d (in_state e y)) && wake_d_if_armed e y

-- the least choice for Sx at the front of the bytes
abbrev pub least_each : List ℕ → List ℕ → ℕ → List ℕ → List ℕ
least_each t b x chosen = put chosen 0 (each (least_choice (station t) (entries t b) x) (count_d t))

-- 10, 20 and 21: it stands there where 10 and 20 pass
unfoldable pub states_left : List ℕ → List ℕ → Request → List ℕ → List ℕ
states_left t b q chosen = cond (passes (armed_verdict (station t) (entries t b) q)) (least_each t b q.a chosen) chosen

-- with 1 to 9 before them
unfoldable pub stages_left : Bool → List ℕ → List ℕ → Request → List ℕ → List ℕ
stages_left room t b q chosen = cond (passes (ready_verdict room t b)) (states_left t b q chosen) chosen
