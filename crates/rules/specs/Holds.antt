-- What a row of requests must meet: the planner, the checker, a fresh state and a device's record, on bytes and on words, and the list
-- carried out; and what a row of bring-up and one of sleep entry must meet.
use Rattle.std.specs.Prelude.{ℕ, suc, ◌*◌, ◌/◌, ◌%◌, Bool, true, false, ◌&&◌, not, cond, List, [], ◌∷◌, ◌++◌, length, take, drop, eqb, leb}
use Rattle.sets.specs.Sets.{member}
use Rattle.words.specs.Words.{byte_words}
use Rattle.rules.specs.declared.Request.{Request}
use Rattle.rules.specs.Verdict.{Verdict}
use Rattle.rules.specs.declared.Call.{Call}
use Rattle.std.specs.Prelude.{Option, Some, None}
use Rattle.rules.specs.Index.{every}
use Rattle.rules.specs.Answers.{number_of, place_of, count_of}
use Rattle.rules.specs.declared.Change.{Change}
use Rattle.rules.specs.Station.{Station, count_r, station}
use Rattle.rules.specs.Status.{status, entry_bytes}
use Rattle.rules.specs.Calls.{word_of, call_of, switching_words, change_of}
use Rattle.rules.specs.Execution.{execution}
use Rattle.rules.specs.Outcomes.{Outcome, fresh, plan_words, plan_bytes, check_words, check_bytes, record_part}
use Rattle.rules.specs.BringUp.{bring_up_words, bring_up_bytes, check_bring_up_words, check_bring_up_bytes}
use Rattle.rules.specs.Rows.{image_from, blank, Start, fresh_in, given, Answer, Listed, Row}
use Rattle.rules.specs.BringUpRows.{BringUpRow}
use Rattle.rules.specs.SleepRows.{SleepRow}

-- two lists are equal
unfoldable pub same : List ℕ → List ℕ → Bool
same [] [] = true
same [] (y ∷ r) = false
same (x ∷ l) [] = false
same (x ∷ l) (y ∷ r) = eqb x y && same l r

-- four bytes a word
abbrev pub words_in : List ℕ → List ℕ
words_in list = byte_words (length list / 4) list

-- an answer has this number, place and count
unfoldable pub answers : Verdict → ℕ → ℕ → ℕ → Bool
answers v number place count = eqb (number_of v) number && eqb (place_of v) place && eqb (count_of v) count

-- making a fresh state gives the row's answer if that is 1 to 7, else 0
unfoldable pub fresh_answers : List ℕ → Start → Answer → Bool
fresh_answers t (given b) a = true
fresh_answers t (fresh_in n) a =
    cond (leb a.number 7) (answers (fresh t (blank n)).verdict a.number a.place 0) (answers (fresh t (blank n)).verdict 0 0 0)

-- the state to start from
unfoldable pub start_of : List ℕ → Start → List ℕ
start_of t (given b) = b
start_of t (fresh_in n) = (fresh t (blank n)).state

-- the state after requests that are all accepted, each with a plan that is long enough in either version; an empty list if one is not
unfoldable pub state_of : List ℕ → List ℕ → List Request → List ℕ
state_of t b [] = b
state_of t b (q ∷ qs) = let o = plan_bytes t b q (blank 260) in state_of t (cond (eqb (number_of o.verdict) 0) o.state []) qs

-- the state afterwards: zeros between the entries and the on-set, whose width is that of the lent state's 132 or 264 bytes; as it was lent
-- if the request is refused
unfoldable pub end_state : List ℕ → Answer → List ℕ
end_state b a = cond (eqb a.number 0) (image_from (length b / 33) a.entries a.on) b

-- an outcome is what the row says: number, place, count, every byte of the state and, of the lent plan, the calls at its front and the rest
-- as it was
unfoldable pub leaves : Outcome → Answer → List ℕ → List ℕ → List ℕ → Bool
leaves o a calls state plan =
    answers o.verdict a.number a.place (length a.calls / 4) && same o.state state
    && same o.plan (calls ++ drop (length calls) plan)

-- a word is read as the call with this word; one that is no call, as nothing
unfoldable pub word_read : Option Call → List ℕ
word_read (Some c) = word_of c ∷ []
word_read None = []

unfoldable pub words_read : List ℕ → List ℕ
words_read [] = []
words_read (w ∷ ws) = word_read (call_of w) ++ words_read ws

-- two tests agree
unfoldable pub agree : Bool → Bool → Bool
agree a b = cond a b (not b)

-- what the request does, as one value, is the device's new entry, the on-set afterwards and the row's words
unfoldable pub changes : Station → Change → ℕ → Answer → Bool
changes s c d a =
    same (entry_bytes c.entry) (take 4 (drop (4 * d) a.entries))
    && eqb c.needed a.on
    && same (switching_words s c.switching) (words_in a.calls)

-- the row's words, each a call, carried out from the on-set before: every resource ends as the row's on-set has it
unfoldable pub carried : List ℕ → List ℕ → Answer → Bool
carried t b a =
    let ws = words_in a.calls in
    same (words_read ws) ws && every (λ r. agree (execution (member (status t b).on) ws r) (member a.on r)) (count_r t)

-- a checker of bytes, and of words if they are whole: number, place and count of its answer to a list
unfoldable pub checks : (List ℕ → Verdict) → (List ℕ → Verdict) → List ℕ → ℕ → ℕ → Bool
checks onBytes onWords list number place =
    answers (onBytes list) number place 0 && cond (eqb (length list % 4) 0) (answers (onWords (words_in list)) number place 0) true

unfoldable pub checks_all : (List ℕ → Verdict) → (List ℕ → Verdict) → List Listed → Bool
checks_all onBytes onWords [] = true
checks_all onBytes onWords (l ∷ ls) = checks onBytes onWords l.list l.number 0 && checks_all onBytes onWords ls

-- a planner of bytes and one of words, with a plan of n bytes from state b: each leaves what the row says
unfoldable pub plans : (List ℕ → Outcome) → (List ℕ → Outcome) → List ℕ → ℕ → Answer → Bool
plans onBytes onWords b n a =
    leaves (onBytes (blank n)) a a.calls (end_state b a) (blank n)
    && leaves (onWords (blank (n / 4))) a (words_in a.calls) (end_state b a) (blank (n / 4))

-- the last request, from state b and with a plan of n bytes: the planner of bytes and of words, the checker of the row's calls and of the
-- other lists, the record that is handed out; where it is done, the list carried out, and the request as one value
unfoldable pub holds_from : List ℕ → List ℕ → Request → ℕ → Answer → Row → Bool
holds_from t b q n a r =
    plans (plan_bytes t b q) (plan_words t b q) b n a
    && checks (check_bytes t b q) (check_words t b q) a.calls a.checked a.place
    && checks_all (check_bytes t b q) (check_words t b q) r.lists
    && same (record_part t q.device) r.part
    && cond (eqb a.number 0) (carried t b a && changes (station t) (change_of (station t) (status t b) q) q.device a) true

unfoldable pub holds_in : List ℕ → Row → Bool
holds_in t r =
    fresh_answers t r.lent.start r.answer
    && holds_from t (state_of t (start_of t r.lent.start) r.lent.before) r.asked r.lent.room r.answer r

abbrev pub holds : Row → Bool
holds r = holds_in r.lent.table r

-- bring-up from a row's state and with its room: of bytes and of words, its checker of the row's calls and of the other lists; where it is
-- done, the list carried out
unfoldable pub holds_bring_up_in : List ℕ → List ℕ → ℕ → Answer → List Listed → Bool
holds_bring_up_in t b n a ls =
    plans (bring_up_bytes t b) (bring_up_words t b) b n a
    && checks (check_bring_up_bytes t b) (check_bring_up_words t b) a.calls a.checked a.place
    && checks_all (check_bring_up_bytes t b) (check_bring_up_words t b) ls
    && cond (eqb a.number 0) (carried t b a) true

abbrev pub holds_bring_up : BringUpRow → Bool
holds_bring_up r = holds_bring_up_in r.table r.state r.room r.answer r.lists

-- sleep entry from a row's state and with its room, of bytes and of words; the checker's answer to the row's calls; where
-- it is done, the list carried out
unfoldable pub holds_sleep_in : List ℕ → List ℕ → Request → ℕ → Answer → Bool
holds_sleep_in t b q n a =
    plans (plan_bytes t b q) (plan_words t b q) b n a
    && checks (check_bytes t b q) (check_words t b q) a.calls a.checked (cond (eqb a.checked a.number) a.place 0)
    && cond (eqb a.number 0) (carried t b a) true

abbrev pub holds_sleep : SleepRow → Bool
holds_sleep r = holds_sleep_in r.table r.state r.asked r.room r.answer

-- the places, counted from i, of the rows that fail a test
unfoldable pub wrong : {A : Type 0} → (A → Bool) → ℕ → List A → List ℕ
wrong test i [] = []
wrong test i (r ∷ rs) = cond (test r) (wrong test (suc i) rs) (i ∷ wrong test (suc i) rs)
