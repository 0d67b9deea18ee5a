-- RULES.md 13.5 and 13.6: what sleep entry promises, over table bytes, state bytes, a request of kind 4 and any plan. Answer 20 and the
-- places are left to the equations with `plan_words` and `plan_bytes`.
use Rattle.std.specs.Prelude.{ℕ, ◌*◌, ◌≤◌, ◌<◌, ◌≡◌, Bool, true, false, List, [], ◌∷◌, ◌++◌, map, ◌↔◌, leb, length}
use Rattle.sets.specs.Sets.{member}
use Rattle.words.specs.Words.{word_bytes}
use Rattle.rules.specs.declared.Request.{Request}
use Rattle.std.specs.Prelude.{Ok}
use Rattle.rules.specs.Answers.{number_of, first_of}
use Rattle.rules.specs.Station.{width, station}
use Rattle.rules.specs.Power.{is_armed}
use Rattle.rules.specs.Status.{status}
use Rattle.rules.specs.Request.{in_state}
use Rattle.rules.specs.Calls.{turn_off}
use Rattle.rules.specs.Check.{off_word}
use Rattle.rules.specs.Sleep.{Choice, armed_verdict, sleep_moves, none_moving}
use Rattle.rules.specs.Outcomes.{Outcome, ready_verdict, sleep_stages, planned, state_after, sleep_list, plan_room, plan_words, plan_bytes}
use Rattle.laws.specs.Demand2.{ExactlyNeeded, LeftPlan}
use Rattle.laws.specs.Demand3.{Permitted, Passed, needed_before, Demand3}

-- by the rules, a request of kind 4 is owed no answer but 0 or 9
abbrev pub CanSleep : List ℕ → List ℕ → Request → Type 0
CanSleep t b q = number_of (sleep_stages true t b q) ≡ 0

-- what comes before 21 passes: 1 to 10, and 20
abbrev pub MayChoose : Bool → List ℕ → List ℕ → Request → Type 0
MayChoose room t b q = number_of (first_of (ready_verdict room t b ∷ armed_verdict (station t) (status t b).entries q ∷ []) (Ok 0)) ≡ 0

-- no choice of states for all devices
abbrev pub NoneToChoose : List ℕ → List ℕ → ℕ → Type 0
NoneToChoose t b x = (states : ℕ → ℕ) → Choice (station t) (status t b).entries x states → ⊥

-- words begin with the list of a request: it is permitted in the state b, and its list passes the checker and keeps demand 3
pub record Begins (t b : List ℕ) (q : Request) (words rest : List ℕ) : Type 0 where
  pub permitted : Permitted t b q
  pub whole : words ≡ planned t b q ++ rest
  pub passed : Passed t b q (planned t b q)
  pub demand : Demand3 t b q (planned t b q)

-- words cut into the lists of requests, each from the state that those before it leave; b' is the state that all of them leave
unfoldable pub InTurn : List ℕ → List ℕ → List Request → List ℕ → List ℕ → Type 0
InTurn t b [] words b' = (words ≡ []) × (b ≡ b')
InTurn t b (q ∷ qs) words b' = (rest : List ℕ) × (Begins t b q words rest × InTurn t (state_after t b q) qs rest b')

-- what sleep entry does, of a plan in which a word has `size` elements, `written` turning words into these; `planOn` is the planner on such
-- a plan. Number and count are the answer's; b and plan are state and plan as they are lent, b' and plan' as they are afterwards
pub record SleepEntry (size : ℕ) (written : List ℕ → List ℕ) (planOn : List ℕ → List ℕ → Request → List ℕ → Outcome) (t b : List ℕ)
    (q : Request) (plan : List ℕ) (number count : ℕ) (b' plan' : List ℕ) : Type 0 where
  -- the answer is 0 exactly if the checks pass and the plan has room
  pub accepts : (number ≡ 0) ↔ (CanSleep t b q × (size * plan_room (width t) q ≤ length plan))
  -- 21 exactly if what comes before it passes and there is no choice
  pub no_choice : (number ≡ 21) ↔ (MayChoose (leb (size * plan_room (width t) q) (length plan)) t b q × NoneToChoose t b q.a)
  -- the states afterwards are a choice, and no device in it is deeper than in any other
  pub choice : number ≡ 0 → Choice (station t) (status t b).entries q.a (λ d. ((status t b').entries d).state)
  pub least : number ≡ 0 → (states : ℕ → ℕ) → Choice (station t) (status t b).entries q.a states
      → (d : ℕ) → d < (station t).devices → ((status t b').entries d).state ≤ states d
  -- the entries are otherwise as before
  pub entries : number ≡ 0 → (d : ℕ) → (status t b').entries d ≡ in_state ((status t b).entries d) ((status t b').entries d).state
  -- the state is consistent, with exactly the needed set on
  pub state : number ≡ 0 → ExactlyNeeded t b'
  pub calls : number ≡ 0 → LeftPlan size written (sleep_list t b q.a) plan count plan'
  -- where a device moves, the plan is the lists of the moves, each permitted and passed by the checker in its turn, and demand 3 holds of
  -- each
  pub moves : number ≡ 0 → none_moving (station t) (status t b).entries q.a ≡ false
      → InTurn t b (sleep_moves (station t) (status t b).entries q.a) (sleep_list t b q.a) b'
  -- where none moves, it is the turn-off calls alone
  pub offs : number ≡ 0 → none_moving (station t) (status t b).entries q.a ≡ true
      → sleep_list t b q.a ≡ map off_word (turn_off (station t) (status t b).on (needed_before t b))
  -- every armed device is armed for this sleep state and in its wake state
  pub wakes : number ≡ 0 → (d : ℕ) → d < (station t).devices → is_armed ((status t b).entries d) ≡ true
      → (((status t b).entries d).sleep ≡ q.a) × (((status t b').entries d).state ≡ ((status t b).entries d).wake)
  -- every resource that is on has systemlevel at least x
  pub powered : number ≡ 0 → (r : ℕ) → member (status t b').on r ≡ true → q.a ≤ ((station t).resource r).level
  -- a second time, with room, there are no calls, and nothing changes
  pub again : number ≡ 0 → (p : List ℕ) → size * plan_room (width t) q ≤ length p
      → planOn t b' q p ≡ record { verdict = Ok 0; state = b'; plan = p }

-- of a plan of words, and of one of bytes, four a word
abbrev pub SleepEntryWords : List ℕ → List ℕ → Request → List ℕ → ℕ → ℕ → List ℕ → List ℕ → Type 0
SleepEntryWords = SleepEntry 1 (λ ws. ws) plan_words

abbrev pub SleepEntryBytes : List ℕ → List ℕ → Request → List ℕ → ℕ → ℕ → List ℕ → List ℕ → Type 0
SleepEntryBytes = SleepEntry 4 word_bytes plan_bytes
