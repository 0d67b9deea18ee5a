-- RULES.md 8.5, demand 2 as one statement, over table bytes, state bytes, a request of any kind but 4 and any plan: which requests are
-- accepted, and what an accepted one leaves. Of kind 4 it is Sleep.antt. The place of such an answer, 0, is left to the equations with
-- `plan_words` and `plan_bytes`.
use Rattle.std.specs.Prelude.{ℕ, ◌*◌, ◌<◌, ◌≤◌, ◌≡◌, true, List, map, ◌↔◌, ◌⊎◌, length, take, drop}
use Rattle.sets.specs.Sets.{member}
use Rattle.words.specs.Words.{word_bytes}
use Rattle.rules.specs.declared.Request.{Request}
use Rattle.rules.specs.Answers.{number_of}
use Rattle.rules.specs.Station.{absent, width, station}
use Rattle.rules.specs.Power.{needs}
use Rattle.rules.specs.Status.{status, state_verdict}
use Rattle.rules.specs.Request.{new_entry}
use Rattle.rules.specs.Calls.{word_of, calls}
use Rattle.rules.specs.Outcomes.{list_room}
use Rattle.laws.specs.Demand3.{Permitted}

-- some device below D needs resource r with its entry in the state b
abbrev pub SomeNeeds : List ℕ → List ℕ → ℕ → Type 0
SomeNeeds t b r = (d : ℕ) × (d < (station t).devices) × (member (needs (station t) d ((status t b).entries d)) r ≡ true)

-- device d has no parent, or is not shallower than it
abbrev pub NotShallower : List ℕ → List ℕ → ℕ → Type 0
NotShallower t b d =
    let parent = ((station t).device d).parent in
    (parent ≡ absent) ⊎ (((status t b).entries parent).state ≤ ((status t b).entries d).state)

-- a consistent state with exactly the needed set on
pub record ExactlyNeeded (t b : List ℕ) : Type 0 where
  -- a resource is on exactly if some device needs it with its entry
  pub on : (r : ℕ) → (member (status t b).on r ≡ true) ↔ SomeNeeds t b r
  -- no device is shallower than its parent
  pub parents : (d : ℕ) → d < (station t).devices → NotShallower t b d
  -- it gets neither 7 nor 8
  pub good : number_of (state_verdict t b) ≡ 0

-- the state b' that an accepted request leaves of b
pub record LeftState (t b : List ℕ) (q : Request) (b' : List ℕ) : Type 0 where
  pub needed : ExactlyNeeded t b'
  -- the device of the request has its new entry, and every other entry is as before
  pub own : (status t b').entries q.device ≡ new_entry ((status t b).entries q.device) q
  pub others : (d : ℕ) → (d ≡ q.device → ⊥) → (status t b').entries d ≡ (status t b).entries d

-- the plan plan' that is left of plan with words in it, and the answer's count. A word of the plan has `size` elements, and `written` turns
-- words into these
pub record LeftPlan (size : ℕ) (written : List ℕ → List ℕ) (words plan : List ℕ) (count : ℕ) (plan' : List ℕ) : Type 0 where
  pub counts : count ≡ length words
  -- the words are at the front of the plan, and what is past them is as it was lent
  pub front : take (size * count) plan' ≡ written words
  pub kept : drop (size * count) plan' ≡ drop (size * count) plan

-- number and count are the answer's; b and plan are state and plan as they are lent, b' and plan' as they are afterwards
pub record Demand2 (size : ℕ) (written : List ℕ → List ℕ) (t b : List ℕ) (q : Request) (plan : List ℕ) (number count : ℕ)
    (b' plan' : List ℕ) : Type 0 where
  -- the answer is 0 exactly if the request is permitted and the plan has room
  pub accepts : (number ≡ 0) ↔ (Permitted t b q × (size * list_room (width t) ≤ length plan))
  -- and then
  pub state : number ≡ 0 → LeftState t b q b'
  pub calls : number ≡ 0 → LeftPlan size written (map word_of (calls (station t) (status t b) q)) plan count plan'

-- of a plan of words, and of one of bytes, four a word
abbrev pub Demand2Words : List ℕ → List ℕ → Request → List ℕ → ℕ → ℕ → List ℕ → List ℕ → Type 0
Demand2Words = Demand2 1 (λ ws. ws)

abbrev pub Demand2Bytes : List ℕ → List ℕ → Request → List ℕ → ℕ → ℕ → List ℕ → List ℕ → Type 0
Demand2Bytes = Demand2 4 word_bytes
