-- From demand 2: a planner that refuses all, that gives one list for every request, that leaves the state untouched or that miscounts does
-- not keep it.
use Rattle.std.specs.Prelude.{ℕ, suc, ◌*◌, ◌<◌, ◌≡◌, true, false, cond, List, ◌++◌, map, ◌≢◌, eqb, length, take, drop}
use Rattle.sets.specs.Sets.{member}
use Rattle.rules.specs.declared.Request.{Request}
use Rattle.rules.specs.Answers.{number_of}
use Rattle.rules.specs.Station.{absent, width, station}
use Rattle.rules.specs.Power.{needs}
use Rattle.rules.specs.Status.{status, state_verdict}
use Rattle.rules.specs.Request.{new_entry}
use Rattle.rules.specs.Calls.{word_of, calls}
use Rattle.rules.specs.Outcomes.{list_room}
use Rattle.laws.specs.Demand2.{ExactlyNeeded, LeftState, LeftPlan, Demand2}
use Rattle.laws.specs.Demand3.{Permitted}

-- the number is that of no refusal
abbrev pub NotRefused : ℕ → Type 0
NotRefused number = (k : ℕ) → number ≢ suc k

-- a state in which exactly the needed set is on
pub record NoWrongState (t b : List ℕ) : Type 0 where
  -- nothing that a device needs is off
  pub missing : (d r : ℕ) → d < (station t).devices → member (needs (station t) d ((status t b).entries d)) r ≡ true
      → member (status t b).on r ≢ false
  -- nothing that no device needs is on
  pub useless : (r : ℕ) → ((d : ℕ) → d < (station t).devices → member (needs (station t) d ((status t b).entries d)) r ≡ false)
      → member (status t b).on r ≢ true
  -- a device that is shallower than another is not its child
  pub shallower : (d : ℕ) → d < (station t).devices → ((station t).device d).parent ≢ absent
      → ((status t b).entries d).state < ((status t b).entries ((station t).device d).parent).state → ⊥
  -- the next request gets neither 7 nor 8
  pub refused : NotRefused (number_of (state_verdict t b))

-- the entries that an accepted request leaves
pub record NoWrongEntries (t b : List ℕ) (q : Request) (b' : List ℕ) : Type 0 where
  -- where the new entry is not the old one, the state does not stay as it was lent
  pub untouched : new_entry ((status t b).entries q.device) q ≢ (status t b).entries q.device → b' ≢ b
  -- no entry is other than the new one at the device, and the old ones elsewhere
  pub other : (d : ℕ) → (status t b').entries d
      ≢ cond (eqb d q.device) (new_entry ((status t b).entries q.device) q) ((status t b).entries d) → ⊥

-- a plan with words at its front
pub record NoWrongPlan (size : ℕ) (written : List ℕ → List ℕ) (words plan : List ℕ) (count : ℕ) (plan' : List ℕ) : Type 0 where
  -- the count is that of the words
  pub miscounted : count ≢ length words → ⊥
  -- another list does not stand at its front
  pub another : (list : List ℕ) → list ≢ written words → take (size * length words) plan' ≢ list
  -- every element of it is either of the list or as it was lent
  pub whole : plan' ≡ written words ++ drop (size * length words) plan

-- the planner's answer to a request of any kind but 4
pub record NoWrongAnswer (size : ℕ) (written : List ℕ → List ℕ) (t b : List ℕ) (q : Request) (plan : List ℕ) (number count : ℕ)
    (b' plan' : List ℕ) : Type 0 where
  -- it does not refuse all: a permitted request is refused only where the plan has not room
  pub refuses_all : Permitted t b q → number ≢ 0 → length plan < size * list_room (width t)
  -- it does not accept all
  pub not_permitted : (Permitted t b q → ⊥) → number ≢ 0
  pub no_room : length plan < size * list_room (width t) → number ≢ 0
  -- accepted, it leaves no wrong state and no wrong plan
  pub state : number ≡ 0 → NoWrongState t b'
  pub entries : number ≡ 0 → NoWrongEntries t b q b'
  pub calls : number ≡ 0 → NoWrongPlan size written (map word_of (calls (station t) (status t b) q)) plan count plan'

abbrev pub FromExactlyNeeded : Type 0
FromExactlyNeeded = (t b : List ℕ) → ExactlyNeeded t b → NoWrongState t b

abbrev pub FromLeftState : Type 0
FromLeftState = (t b : List ℕ) (q : Request) (b' : List ℕ) → LeftState t b q b' → NoWrongState t b' × NoWrongEntries t b q b'

abbrev pub FromLeftPlan : Type 0
FromLeftPlan =
    (size : ℕ) (written : List ℕ → List ℕ) (words plan : List ℕ) (count : ℕ) (plan' : List ℕ)
    → LeftPlan size written words plan count plan' → NoWrongPlan size written words plan count plan'

abbrev pub FromDemand2 : Type 0
FromDemand2 =
    (size : ℕ) (written : List ℕ → List ℕ) (t b : List ℕ) (q : Request) (plan : List ℕ) (number count : ℕ) (b' plan' : List ℕ)
    → Demand2 size written t b q plan number count b' plan' → NoWrongAnswer size written t b q plan number count b' plan'
