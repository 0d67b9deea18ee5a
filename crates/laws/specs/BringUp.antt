-- RULES.md 12.4 and 12.5: what bring-up promises, over table bytes, state bytes and any plan; and what its checker promises of any list.
use Rattle.std.specs.Prelude.{ℕ, ◌*◌, ◌/◌, ◌%◌, ◌≤◌, ◌≡◌, true, List, map, ◌↔◌, length, take}
use Rattle.sets.specs.Sets.{member}
use Rattle.words.specs.Words.{word_bytes, byte_words}
use Rattle.std.specs.Prelude.{Ok}
use Rattle.rules.specs.Answers.{number_of, count_of}
use Rattle.rules.specs.Station.{width, station}
use Rattle.rules.specs.Table.{table_verdict}
use Rattle.rules.specs.Status.{status, consistency_verdict, state_verdict}
use Rattle.rules.specs.Calls.{turn_off, status_needed}
use Rattle.rules.specs.Check.{off_word}
use Rattle.rules.specs.Execution.{execution}
use Rattle.rules.specs.Outcomes.{Outcome, list_room}
use Rattle.rules.specs.BringUp.{but_power_verdict, bring_up_stages, bring_up_list, bring_up_words, bring_up_bytes, ConformsToBringUp}
use Rattle.rules.specs.BringUp.{check_bring_up_words, check_bring_up_bytes}
use Rattle.laws.specs.Demand2.{ExactlyNeeded, LeftPlan}
use Rattle.laws.specs.Demand3.{needed_before}

-- by the rules, bring-up owes the state no answer but 0 or 9
abbrev pub CanBringUp : List ℕ → List ℕ → Type 0
CanBringUp t b = number_of (bring_up_stages true t b) ≡ 0

-- what bring-up does, of a plan in which a word has `size` elements, `written` turning words into these; `bringUp` is bring-up on such a
-- plan. Number and count are the answer's; b and plan are state and plan as they are lent, b' and plan' as they are afterwards
pub record BringsUp (size : ℕ) (written : List ℕ → List ℕ) (bringUp : List ℕ → List ℕ → List ℕ → Outcome) (t b plan : List ℕ)
    (number count : ℕ) (b' plan' : List ℕ) : Type 0 where
  -- the answer is 0 exactly if the checks pass and the plan has room
  pub accepts : (number ≡ 0) ↔ (CanBringUp t b × (size * list_room (width t) ≤ length plan))
  -- and then the state is consistent, with exactly the needed set on, and its entries are as before
  pub state : number ≡ 0 → ExactlyNeeded t b'
  pub entries : number ≡ 0 → (d : ℕ) → (status t b').entries d ≡ (status t b).entries d
  pub calls : number ≡ 0 → LeftPlan size written (bring_up_list t b) plan count plan'
  -- of the definitions, whatever is answered: 8 is for what would be inconsistent even with exactly the needed set on
  pub eight : number_of (table_verdict t) ≡ 0
      → but_power_verdict (station t) (status t b).entries ≡ consistency_verdict (station t) (status_needed (station t) (status t b))
  -- a state that was consistent gets no ONs
  pub offs : number ≡ 0 → number_of (state_verdict t b) ≡ 0
      → take (size * count) plan' ≡ written (map off_word (turn_off (station t) (status t b).on (needed_before t b)))
  -- a second time, with room, there are no calls, and nothing changes
  pub again : number ≡ 0 → (p : List ℕ) → size * list_room (width t) ≤ length p
      → bringUp t b' p ≡ record { verdict = Ok 0; state = b'; plan = p }

-- of a plan of words, and of one of bytes, four a word
abbrev pub BringsUpWords : List ℕ → List ℕ → List ℕ → ℕ → ℕ → List ℕ → List ℕ → Type 0
BringsUpWords = BringsUp 1 (λ ws. ws) bring_up_words

abbrev pub BringsUpBytes : List ℕ → List ℕ → List ℕ → ℕ → ℕ → List ℕ → List ℕ → Type 0
BringsUpBytes = BringsUp 4 word_bytes bring_up_bytes

-- the checker of bring-up passes the list
abbrev pub PassedBringUp : List ℕ → List ℕ → List ℕ → Type 0
PassedBringUp t b ws = number_of (check_bring_up_words t b ws) ≡ 0

-- what is asked of demand 3 here, of any list of words: needed resources may be off at the start
pub record BringUpChecked (t b ws : List ℕ) : Type 0 where
  -- where the checks pass, the checker passes the list exactly if it conforms
  pub exactly : CanBringUp t b → PassedBringUp t b ws ↔ ConformsToBringUp (station t) (status t b) ws
  -- the list ends with exactly the needed set
  pub ends : PassedBringUp t b ws → (r : ℕ) → execution (member (status t b).on) ws r ≡ member (needed_before t b) r
  -- the list that bring-up itself gives, the front of its plan, count words long, passes
  pub own : (plan : List ℕ) → number_of (bring_up_words t b plan).verdict ≡ 0
      → PassedBringUp t b (take (count_of (bring_up_words t b plan).verdict) (bring_up_words t b plan).plan)

-- the same of a list of bytes, four fed as one word
pub record BringUpCheckedBytes (t b list : List ℕ) : Type 0 where
  -- a list whose length is no multiple of four never passes
  pub multiple : number_of (check_bring_up_bytes t b list) ≡ 0 → length list % 4 ≡ 0
  -- any other gets the answer of its words
  pub words : length list % 4 ≡ 0 → check_bring_up_bytes t b list ≡ check_bring_up_words t b (byte_words (length list / 4) list)
  pub checked : BringUpChecked t b (byte_words (length list / 4) list)
  -- the bytes that bring-up itself gives pass
  pub own : (plan : List ℕ) → number_of (bring_up_bytes t b plan).verdict ≡ 0
      → number_of (check_bring_up_bytes t b (take (4 * count_of (bring_up_bytes t b plan).verdict) (bring_up_bytes t b plan).plan)) ≡ 0
