-- RULES.md 9: fresh, plan and check, which the board calls, and a device's record, each as a total function of all that it is lent.
use Rattle.std.specs.Prelude.{ℕ, ◌+◌, ◌*◌, ◌/◌, ◌%◌, Bool, true, cond, ◌&&◌, List, [], ◌∷◌, ◌++◌, map, length, take, drop, eqb, leb, ltb}
use Rattle.words.specs.Words.{put, word_bytes, byte_words}
use Rattle.rules.specs.declared.Request.{Request}
use Rattle.rules.specs.Verdict.{Verdict}
use Rattle.std.specs.Prelude.{Ok}
use Rattle.rules.specs.declared.Reason.TheVariants.{BadState, NoRoom, NotConforming}
use Rattle.rules.specs.Answers.{passes, first_of, unless}
use Rattle.rules.specs.Station.{width, limit, record_size, count_d, device_start, station}
use Rattle.rules.specs.Table.{table_verdict}
use Rattle.rules.specs.Status.{status, image_of, image_size, fresh_status, state_verdict}
use Rattle.rules.specs.Request.{request_verdict}
use Rattle.rules.specs.Calls.{word_of, calls, status_after, status_needed}
use Rattle.rules.specs.Check.{conforming_to}
use Rattle.rules.specs.Sleep.{is_sleep, sleep_verdict, sleep_moves, none_moving, offs_alone}

-- what such a function answers, and what it leaves in the lent state and plan
pub record Outcome : Type 0 where
  pub verdict : Verdict
  pub state : List ℕ
  pub plan : List ℕ

-- RULES.md 9.4: done, what is written; refused, state and plan as they were lent
unfoldable pub outcome : Verdict → List ℕ → List ℕ → List ℕ → List ℕ → Outcome
outcome v state plan state' plan' = record { verdict = v; state = cond (passes v) state' state; plan = cond (passes v) plan' plan }

-- a fresh state: 1 to 6, then 7 if the buffer has not an image's size
unfoldable pub fresh_verdict : List ℕ → List ℕ → Verdict
fresh_verdict t b = first_of (table_verdict t ∷ unless (eqb (length b) (image_size (width t))) BadState 0 ∷ []) (Ok 0)

unfoldable pub fresh : List ℕ → List ℕ → Outcome
fresh t b = outcome (fresh_verdict t b) b [] (image_of (width t) (fresh_status (station t))) []

-- 1 to 8 of any bytes: whether they are a table and a consistent state of it
unfoldable pub table_and_state_verdict : List ℕ → List ℕ → Verdict
table_and_state_verdict t b = first_of (table_verdict t ∷ state_verdict t b ∷ []) (Ok 0)

-- 10 to 18 of the request, on the bytes
unfoldable pub request_stage : List ℕ → List ℕ → Request → Verdict
request_stage t b q = request_verdict (station t) (status t b).entries q

-- RULES.md 9.2: 1 to 8; 9 without room, which only the planner needs
unfoldable pub ready_verdict : Bool → List ℕ → List ℕ → Verdict
ready_verdict room t b = first_of (table_verdict t ∷ state_verdict t b ∷ unless room NoRoom 0 ∷ []) (Ok 0)

-- the checks of kinds 1 to 3, and the checker's of any kind, in their order: 1 to 9, then 10 to 18
unfoldable pub stages_verdict : Bool → List ℕ → List ℕ → Request → Verdict
stages_verdict room t b q = first_of (ready_verdict room t b ∷ request_stage t b q ∷ []) (Ok 0)

-- the words that one list has at most: one for each resource that there can be, and the own call
abbrev pub list_room : ℕ → ℕ
list_room w = limit w + 1

-- the answer of the stages, else done with the count of the words
unfoldable pub plan_verdict : Verdict → List ℕ → Verdict
plan_verdict stages words = first_of (stages ∷ []) (Ok (length words))

-- where it is done: the state b', and the words at the front of the plan, as `written` turns them into its elements
unfoldable pub plan_outcome : (List ℕ → List ℕ) → Verdict → List ℕ → List ℕ → List ℕ → List ℕ → Outcome
plan_outcome written stages b plan b' words = outcome (plan_verdict stages words) b plan b' (put plan 0 (written words))

-- the words of the list of a request of kinds 1 to 3
unfoldable pub planned : List ℕ → List ℕ → Request → List ℕ
planned t b q = map word_of (calls (station t) (status t b) q)

-- the state image after it
unfoldable pub state_after : List ℕ → List ℕ → Request → List ℕ
state_after t b q = image_of (width t) (status_after (station t) (status t b) q)

-- 10, 20 and 21 of sleep entry, on the bytes
unfoldable pub sleep_stage : List ℕ → List ℕ → Request → Verdict
sleep_stage t b q = sleep_verdict (station t) (status t b).entries q

-- the checks of sleep entry in their order: 1 to 9, then 10, 20 and 21
unfoldable pub sleep_stages : Bool → List ℕ → List ℕ → Request → Verdict
sleep_stages room t b q = first_of (ready_verdict room t b ∷ sleep_stage t b q ∷ []) (Ok 0)

-- the lists of requests, one after the other, each from the state that those before it leave; and the state that all of them leave
unfoldable pub planned_each : List ℕ → List ℕ → List Request → List ℕ
planned_each t b [] = []
planned_each t b (q ∷ qs) = planned t b q ++ planned_each t (state_after t b q) qs

unfoldable pub state_after_each : List ℕ → List ℕ → List Request → List ℕ
state_after_each t b [] = b
state_after_each t b (q ∷ qs) = state_after_each t (state_after t b q) qs

-- RULES.md 13.4: the words of sleep entry for Sx: those of its moves; where none moves, the turn-off calls alone
unfoldable pub sleep_list : List ℕ → List ℕ → ℕ → List ℕ
sleep_list t b x =
    cond (none_moving (station t) (status t b).entries x) (map word_of (offs_alone (station t) (status t b)))
    (planned_each t b (sleep_moves (station t) (status t b).entries x))

-- and the state image afterwards
unfoldable pub state_for_sleep : List ℕ → List ℕ → ℕ → List ℕ
state_for_sleep t b x =
    cond (none_moving (station t) (status t b).entries x) (image_of (width t) (status_needed (station t) (status t b)))
    (state_after_each t b (sleep_moves (station t) (status t b).entries x))

-- the words that a plan must have room for, by the kind: one list, and for sleep entry one for each device that there can be
unfoldable pub plan_room : ℕ → Request → ℕ
plan_room w q = cond (is_sleep q) (limit w * list_room w) (list_room w)

-- the planner's checks, words and state by the kind
unfoldable pub plan_stages : Bool → List ℕ → List ℕ → Request → Verdict
plan_stages room t b q = cond (is_sleep q) (sleep_stages room t b q) (stages_verdict room t b q)

unfoldable pub plan_list : List ℕ → List ℕ → Request → List ℕ
plan_list t b q = cond (is_sleep q) (sleep_list t b q.a) (planned t b q)

unfoldable pub plan_state : List ℕ → List ℕ → Request → List ℕ
plan_state t b q = cond (is_sleep q) (state_for_sleep t b q.a) (state_after t b q)

-- the planner on a plan of words, and on one of bytes, four a word
unfoldable pub plan_words : List ℕ → List ℕ → Request → List ℕ → Outcome
plan_words t b q plan =
    plan_outcome (λ ws. ws) (plan_stages (leb (plan_room (width t) q) (length plan)) t b q) b plan (plan_state t b q) (plan_list t b q)

unfoldable pub plan_bytes : List ℕ → List ℕ → Request → List ℕ → Outcome
plan_bytes t b q plan =
    plan_outcome word_bytes (plan_stages (leb (4 * plan_room (width t) q) (length plan)) t b q) b plan (plan_state t b q) (plan_list t b q)

-- the answer of the stages, then 19 for a list that does not conform
unfoldable pub list_verdict : Verdict → Bool → Verdict
list_verdict stages conforms = first_of (stages ∷ unless conforms NotConforming 0 ∷ []) (Ok 0)

-- a test of words on a list of bytes, four a word; it fails where the length is no multiple of four
unfoldable pub of_bytes : (List ℕ → Bool) → List ℕ → Bool
of_bytes test list = eqb (length list % 4) 0 && test (byte_words (length list / 4) list)

-- passes exactly if the request is permitted: the checker owes it no answer but 0 or 19
abbrev pub permitted_verdict : List ℕ → List ℕ → Request → Verdict
permitted_verdict t b q = stages_verdict true t b q

-- the checker on a list of words, and on one of bytes: 1 to 8, 10 to 18, then 19
unfoldable pub check_words : List ℕ → List ℕ → Request → List ℕ → Verdict
check_words t b q list = list_verdict (permitted_verdict t b q) (conforming_to (station t) (status t b) q list)

unfoldable pub check_bytes : List ℕ → List ℕ → Request → List ℕ → Verdict
check_bytes t b q list = list_verdict (permitted_verdict t b q) (of_bytes (conforming_to (station t) (status t b) q) list)

-- RULES.md 9.7: a device's own bytes of the table; empty if the table is refused or the number is not below D
unfoldable pub record_part : List ℕ → ℕ → List ℕ
record_part t d = cond (passes (table_verdict t) && ltb d (count_d t)) (take (record_size (width t)) (drop (device_start (width t) t d) t)) []
