-- What a line l does to the table and the state, and what it answers.
use Rattle.std.specs.Prelude.{ℕ, ◌+◌, ◌*◌, ◌/◌, ◌-◌, min, cond, List, [], ◌++◌, eqb, length, take, drop, replicate, get_or, set}
use Rattle.words.specs.Words.{byte_words}
use Rattle.rules.specs.Verdict.{Verdict}
use Rattle.rules.specs.Answers.{number_of}
use Rattle.rules.specs.Rows.{blank}
use Rattle.rules.specs.Outcomes.{Outcome, fresh, plan_bytes, check_words, check_bytes, table_and_state_verdict, record_part}
use Rattle.rules.specs.BringUp.{bring_up_bytes, check_bring_up_bytes}
use Rattle.rules.specs.Write.{write, describe}
use Rattle.sailgarnet.specs.Packed.{packed}
use Rattle.bench.specs.declared.tasks.Task.{Task}
use Rattle.bench.specs.declared.tasks.Task.TheVariants.{Plan, BringUp}
use Rattle.bench.specs.Script.{byte_at, count_at, number_at, request_at, filled}

-- ---- T and +: a table, or the two lists of records that one is written from, the first bytes of 4428

-- the bytes of the line past its first, 64 at most; as many of them as there is room for
abbrev pub period : List ℕ → ℕ
period l = min (length l / 3 - 1) 64

abbrev pub more : ℕ → List ℕ → ℕ
more size l = min (byte_at l 0 * period l) (4428 - size)

abbrev pub added : ℕ → List ℕ → List ℕ → List ℕ
added size l b = filled b size l 1 (period l) (more size l)

unfoldable pub size_by : ℕ → ℕ → List ℕ → ℕ
size_by letter size l = cond (eqb letter 0x54) 0 (cond (eqb letter 0x2b) (size + more size l) size)

unfoldable pub table_by : ℕ → ℕ → List ℕ → List ℕ → List ℕ
table_by letter size l b = cond (eqb letter 0x2b) (added size l b) b

abbrev pub size_after : ℕ → List ℕ → ℕ
size_after size l = size_by (get_or l 0 0) size l

abbrev pub table_after : ℕ → List ℕ → List ℕ → List ℕ
table_after size l b = table_by (get_or l 0 0) size l b

-- ---- F, K, Q, P and B: a state, of the table t

-- the bytes of a set, 8 in version 2, else 4; and of a state, which is the first bytes of 265
unfoldable pub set_size : List ℕ → ℕ
set_size t = cond (eqb (get_or t 4 0) 2) 8 4

abbrev pub state_size : List ℕ → ℕ
state_size t = 33 * set_size t

-- the state among them
abbrev pub lent : List ℕ → List ℕ → List ℕ
lent t b = take (state_size t) b

-- with a new state in its place
abbrev pub changed_to : List ℕ → List ℕ → List ℕ → List ℕ
changed_to t b b' = b' ++ drop (state_size t) b

-- the fresh state, or A5 in every byte
abbrev pub started : List ℕ → List ℕ
started t = changed_to t (blank 265) (fresh t (lent t (blank 265))).state

-- the line has the on-set, w bytes, then the entries
abbrev pub kept : ℕ → List ℕ → List ℕ
kept w l = filled (filled (replicate 265 0) 0 l w 0 (32 * w)) (32 * w) l 0 0 w

-- a task on a plan of bytes, and its checker on a list of bytes
unfoldable pub task_outcome : List ℕ → List ℕ → Task → List ℕ → Outcome
task_outcome t b (Plan q) plan = plan_bytes t b q plan
task_outcome t b BringUp plan = bring_up_bytes t b plan

unfoldable pub task_checked : List ℕ → List ℕ → Task → List ℕ → Verdict
task_checked t b (Plan q) list = check_bytes t b q list
task_checked t b BringUp list = check_bring_up_bytes t b list

-- the state after a task with a plan of n bytes
abbrev pub moved : List ℕ → List ℕ → Task → ℕ → List ℕ
moved t b task n = changed_to t b (task_outcome t (lent t b) task (take n (blank 16_644))).state

unfoldable pub state_by : ℕ → List ℕ → List ℕ → List ℕ → List ℕ
state_by letter t b l =
    cond (eqb letter 0x46) (started t)
    (cond (eqb letter 0x4b) (kept (set_size t) l)
    (cond (eqb letter 0x51) (moved t b (Plan (request_at l 4)) (32 * set_size t + 4))
    (cond (eqb letter 0x50) (moved t b (Plan (request_at l 4)) (count_at l 8 9 16_644))
    (cond (eqb letter 0x42) (moved t b BringUp (count_at l 0 1 16_644)) b))))

abbrev pub state_then : List ℕ → List ℕ → List ℕ → List ℕ
state_then t b l = state_by (get_or l 0 0) t b l

-- ---- D, S, V, L, C, W, R, M and E: answers

-- the table with one byte changed: the line has a place, with its higher byte at `high`, and what is then there
abbrev pub damaged_table : List ℕ → List ℕ → ℕ → List ℕ
damaged_table b l high = set b (count_at l 1 high 4427) (byte_at l 2)

abbrev pub table_answer : List ℕ → List ℕ → ℕ
table_answer whole l =
    packed (fresh (take (count_at l 0 4 4428) (damaged_table whole l 5)) (take (count_at l 3 6 265) (blank 265))).verdict

-- the state with one byte changed, and its first bytes: the line has from byte `from` on how many, a place, what is then there,
-- and the higher bytes of the first two
abbrev pub damaged_state : List ℕ → List ℕ → ℕ → List ℕ
damaged_state b l from = set b (count_at l (from + 1) (from + 4) 264) (byte_at l (from + 2))

abbrev pub state_given : List ℕ → List ℕ → ℕ → List ℕ
state_given b l from = take (count_at l from (from + 3) 265) (damaged_state b l from)

abbrev pub state_answer : List ℕ → List ℕ → List ℕ → ℕ
state_answer t b l = packed (task_checked t (state_given b l 4) (Plan (request_at l 4096)) [])

abbrev pub status_given : List ℕ → List ℕ → List ℕ → Verdict
status_given t b l = table_and_state_verdict t (state_given b l 0)

-- the bytes of a line from byte `from` on, 4428 at most
abbrev pub list_length : List ℕ → ℕ → ℕ
list_length l from = min (length l / 3 - from) 4428

abbrev pub list_bytes : List ℕ → List ℕ → ℕ → List ℕ
list_bytes b l from = filled b 0 l from 0 (list_length l from)

abbrev pub list_given : List ℕ → ℕ → List ℕ
list_given l from = take (list_length l from) (list_bytes (replicate 4428 0) l from)

abbrev pub list_answer : List ℕ → List ℕ → Task → List ℕ → ℕ → ℕ
list_answer t b task l from = packed (task_checked t b task (list_given l from))

-- a request's list as words; bytes past a multiple of four are in none
abbrev pub words_given : List ℕ → List ℕ → List ℕ → Verdict
words_given t b l = check_words t b (request_at l 4096) (byte_words (list_length l 4 / 4) (list_given l 4))

abbrev pub record_length : List ℕ → List ℕ → ℕ
record_length t l = length (record_part t (byte_at l 0))

-- a table from resources, and devices past them, which end at `size`
abbrev pub write_answer : List ℕ → ℕ → List ℕ → ℕ
write_answer whole size l =
    let end = count_at l 0 6 size in
    let lists = take size (damaged_table whole l 7) in
    packed (write (number_at l 4 5) (take end lists) (drop end lists) (take (count_at l 3 8 4428) (blank 4428))).verdict

abbrev pub describe_answer : List ℕ → List ℕ → ℕ
describe_answer t l = packed (describe t (take (count_at l 0 2 4428) (blank 4428)) (take (count_at l 1 3 4428) (blank 4428))).verdict

unfoldable pub seen_by : ℕ → List ℕ → List ℕ → List ℕ → List ℕ → ℕ
seen_by letter t whole b l =
    cond (eqb letter 0x44) (table_answer whole l)
    (cond (eqb letter 0x53) (state_answer t b l)
    (cond (eqb letter 0x56) (number_of (status_given t b l))
    (cond (eqb letter 0x4c) (list_answer t (lent t b) (Plan (request_at l 4096)) l 4)
    (cond (eqb letter 0x43) (list_answer t (lent t b) BringUp l 0)
    (cond (eqb letter 0x57) (number_of (words_given t (lent t b) l))
    (cond (eqb letter 0x52) (record_length t l)
    (cond (eqb letter 0x4d) (write_answer whole (length t) l) (cond (eqb letter 0x45) (describe_answer t l) 0))))))))

abbrev pub seen : List ℕ → List ℕ → List ℕ → List ℕ → ℕ
seen t whole b l = seen_by (get_or l 0 0) t whole b l
