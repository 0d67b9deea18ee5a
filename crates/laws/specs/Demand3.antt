-- RULES.md 8.3, demand 3 as one statement, over table bytes, state bytes, a request and any list of words.
use Rattle.std.specs.Prelude.{ℕ, ◌*◌, ◌/◌, ◌%◌, ◌<◌, ◌≡◌, Bool, true, false, cond, List, ◌↔◌, eqb, length, get_or, take}
use Rattle.sets.specs.Sets.{member}
use Rattle.words.specs.Words.{byte_words}
use Rattle.rules.specs.declared.Entry.{Entry}
use Rattle.rules.specs.declared.Request.{Request}
use Rattle.rules.specs.declared.Call.{Call}
use Rattle.std.specs.Prelude.{Some}
use Rattle.rules.specs.Answers.{number_of, count_of}
use Rattle.rules.specs.Station.{station}
use Rattle.rules.specs.Power.{needs, needed}
use Rattle.rules.specs.Status.{status}
use Rattle.rules.specs.Request.{entries_after}
use Rattle.rules.specs.Calls.{word_of, own_call, end_set}
use Rattle.rules.specs.Conforms.{ConformsTo}
use Rattle.rules.specs.Execution.{execution}
use Rattle.rules.specs.Sleep.{is_sleep}
use Rattle.rules.specs.Outcomes.{permitted_verdict, plan_words, plan_bytes, check_words, check_bytes}

-- by the rules, the checker owes the request no answer but 0 or 19
abbrev pub Permitted : List ℕ → List ℕ → Request → Type 0
Permitted t b q = number_of (permitted_verdict t b q) ≡ 0

-- the checker passes the list
abbrev pub Passed : List ℕ → List ℕ → Request → List ℕ → Type 0
Passed t b q ws = number_of (check_words t b q ws) ≡ 0

-- the needed set of the lent state, and of the lent state with the request's new entry
abbrev pub needed_before : List ℕ → List ℕ → ℕ
needed_before t b = needed (station t) (status t b).entries

abbrev pub needed_after : List ℕ → List ℕ → Request → ℕ
needed_after t b q = end_set (station t) (status t b).entries q

-- what the device's own method must find on, by the kind of the request: its needs after for a move to D0 and for arming, its needs before
-- for a deeper move and for disarming
abbrev pub own_entry : Request → Entry → Entry → Entry
own_entry q before after = cond (eqb q.kind 1) (cond (eqb q.a 0) after before) (cond (eqb q.kind 2) after before)

abbrev pub own_needs : List ℕ → List ℕ → Request → ℕ
own_needs t b q =
    needs (station t) q.device (own_entry q ((status t b).entries q.device) (entries_after (status t b).entries q q.device))

-- the set after the first n words: at the start the lent state's on-set
abbrev pub on_after : List ℕ → List ℕ → List ℕ → ℕ → ℕ → Bool
on_after t b ws n = execution (member (status t b).on) (take n ws)

pub record Demand3 (t b : List ℕ) (q : Request) (ws : List ℕ) : Type 0 where
  -- for a permitted request the checker passes the list exactly if it conforms
  pub exactly : Permitted t b q → Passed t b q ws ↔ ConformsTo (station t) (status t b) q ws
  -- at the start and after every word, what is needed before and after is on
  pub keeps : Passed t b q ws → (n r : ℕ) → member (needed_before t b) r ≡ true → member (needed_after t b q) r ≡ true
      → on_after t b ws n r ≡ true
  -- wherever the device's own method stands, it finds its needs on
  pub own : Passed t b q ws → (c : Call) → own_call (station t) ((status t b).entries q.device) q ≡ Some c
      → (n : ℕ) → n < length ws → get_or ws n 0 ≡ word_of c
      → (r : ℕ) → member (own_needs t b q) r ≡ true → on_after t b ws n r ≡ true
  -- the list ends with exactly the needed set
  pub ends : Passed t b q ws → (r : ℕ) → execution (member (status t b).on) ws r ≡ member (needed_after t b q) r
  -- the planner's own list, the first words of its plan, as many as its count, passes; the plan of sleep entry is cut into its moves
  -- (Sleep.antt)
  pub planner : is_sleep q ≡ false → (plan : List ℕ) → number_of (plan_words t b q plan).verdict ≡ 0
      → Passed t b q (take (count_of (plan_words t b q plan).verdict) (plan_words t b q plan).plan)

-- the same of a list of bytes, four fed as one word
pub record Demand3Bytes (t b : List ℕ) (q : Request) (list : List ℕ) : Type 0 where
  -- a list whose length is no multiple of four never passes
  pub multiple : number_of (check_bytes t b q list) ≡ 0 → length list % 4 ≡ 0
  -- any other gets the answer of its words, and demand 3 holds of these
  pub words : length list % 4 ≡ 0 → check_bytes t b q list ≡ check_words t b q (byte_words (length list / 4) list)
  pub demand : Demand3 t b q (byte_words (length list / 4) list)
  -- the planner's own list passes
  pub planner : is_sleep q ≡ false → (plan : List ℕ) → number_of (plan_bytes t b q plan).verdict ≡ 0
      → number_of (check_bytes t b q (take (4 * count_of (plan_bytes t b q plan).verdict) (plan_bytes t b q plan).plan)) ≡ 0
