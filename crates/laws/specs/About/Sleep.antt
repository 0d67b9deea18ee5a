-- From what sleep entry promises: 21 and a choice exclude each other, no other choice is the least, and each move is right in its turn.
use Rattle.std.specs.Prelude.{ℕ, ◌*◌, ◌≤◌, ◌<◌, ◌≡◌, true, false, List, ◌∷◌, ◌++◌, map, ◌≢◌, leb, length, take}
use Rattle.sets.specs.Sets.{member}
use Rattle.rules.specs.declared.Request.{Request}
use Rattle.std.specs.Prelude.{Ok}
use Rattle.rules.specs.Answers.{number_of}
use Rattle.rules.specs.Station.{width, station}
use Rattle.rules.specs.Power.{is_armed, needed}
use Rattle.rules.specs.Status.{status}
use Rattle.rules.specs.Calls.{turn_off}
use Rattle.rules.specs.Check.{off_word}
use Rattle.rules.specs.Sleep.{Choice, sleep_moves, none_moving}
use Rattle.rules.specs.Outcomes.{Outcome, permitted_verdict, planned, planned_each, state_after_each, sleep_list, plan_room, plan_words, check_words}
use Rattle.laws.specs.Sleep.{CanSleep, MayChoose, InTurn, SleepEntry}
use Rattle.laws.specs.About.Planner.{NotRefused, NoWrongState, NoWrongPlan}
use Rattle.laws.specs.About.Checker.{NoWrongPoint, NoWrongCheck}

-- a request and its list, in the state b
pub record NoWrongMove (t b : List ℕ) (q : Request) : Type 0 where
  pub permitted : NotRefused (number_of (permitted_verdict t b q))
  pub passed : NotRefused (number_of (check_words t b q (planned t b q)))
  pub check : NoWrongCheck 1 (λ ws. ws) check_words plan_words t b q (planned t b q)
  pub point : NoWrongPoint t b q (planned t b q)

-- words that are the lists of requests
pub record NoWrongMoves (t b : List ℕ) (qs : List Request) (words b' : List ℕ) : Type 0 where
  -- each request in its turn, in the state that those before it leave
  pub each : (before : List Request) (q : Request) (after : List Request) → qs ≡ before ++ q ∷ after
      → NoWrongMove t (state_after_each t b before) q
  -- there are no words but those of the lists, and the state is the one that all of them leave
  pub other : words ≢ planned_each t b qs → ⊥
  pub left : b' ≢ state_after_each t b qs → ⊥

-- the answer to a request of kind 4
pub record NoWrongSleep (size : ℕ) (written : List ℕ → List ℕ) (plan_on : List ℕ → List ℕ → Request → List ℕ → Outcome) (t b : List ℕ)
    (q : Request) (plan : List ℕ) (number count : ℕ) (b' plan' : List ℕ) : Type 0 where
  -- it neither refuses nor accepts all
  pub refuses_all : CanSleep t b q → number ≢ 0 → length plan < size * plan_room (width t) q
  pub not_allowed : (CanSleep t b q → ⊥) → number ≢ 0
  pub no_room : length plan < size * plan_room (width t) q → number ≢ 0
  -- where there is a choice, or what comes before applies, the answer is not 21; elsewhere it is no other
  pub with_choice : (states : ℕ → ℕ) → Choice (station t) (status t b).entries q.a states → number ≢ 21
  pub before : (MayChoose (leb (size * plan_room (width t) q) (length plan)) t b q → ⊥) → number ≢ 21
  pub other : MayChoose (leb (size * plan_room (width t) q) (length plan)) t b q
      → ((states : ℕ → ℕ) → Choice (station t) (status t b).entries q.a states → ⊥) → number ≢ 21 → ⊥
  -- the states of another least choice are the same
  pub least : number ≡ 0 → (states : ℕ → ℕ) → Choice (station t) (status t b).entries q.a states
      → ((f : ℕ → ℕ) → Choice (station t) (status t b).entries q.a f → (d : ℕ) → d < (station t).devices → states d ≤ f d)
      → (d : ℕ) → d < (station t).devices → ((status t b').entries d).state ≡ states d
  -- no device is armed, disarmed, or armed otherwise
  pub armed : number ≡ 0 → (d : ℕ) → ((status t b').entries d).armed ≡ ((status t b).entries d).armed
  pub sleep : number ≡ 0 → (d : ℕ) → ((status t b').entries d).sleep ≡ ((status t b).entries d).sleep
  pub wake : number ≡ 0 → (d : ℕ) → ((status t b').entries d).wake ≡ ((status t b).entries d).wake
  pub state : number ≡ 0 → NoWrongState t b'
  pub calls : number ≡ 0 → NoWrongPlan size written (sleep_list t b q.a) plan count plan'
  pub moves : number ≡ 0 → none_moving (station t) (status t b).entries q.a ≡ false
      → NoWrongMoves t b (sleep_moves (station t) (status t b).entries q.a) (sleep_list t b q.a) b'
  -- where no device moves, no call but a turn-off call stands in the plan
  pub offs : number ≡ 0 → none_moving (station t) (status t b).entries q.a ≡ true
      → take (size * count) plan' ≡ written (map off_word (turn_off (station t) (status t b).on (needed (station t) (status t b).entries)))
  -- it is refused where a device is armed for another sleep state, and no armed device is left in another state than its wake state
  pub armed_for_other : (d : ℕ) → d < (station t).devices → is_armed ((status t b).entries d) ≡ true → ((status t b).entries d).sleep ≢ q.a
      → number ≢ 0
  pub not_in_wake : number ≡ 0 → (d : ℕ) → d < (station t).devices → is_armed ((status t b).entries d) ≡ true
      → ((status t b').entries d).state ≢ ((status t b).entries d).wake → ⊥
  -- what loses its power in the sleep state is off
  pub lost : number ≡ 0 → (r : ℕ) → ((station t).resource r).level < q.a → member (status t b').on r ≢ true
  -- a second and a third time there are no calls, and nothing changes
  pub again : number ≡ 0 → (p p' : List ℕ) → size * plan_room (width t) q ≤ length p → size * plan_room (width t) q ≤ length p'
      → plan_on t (plan_on t b' q p).state q p' ≡ record { verdict = Ok 0; state = b'; plan = p' }

abbrev pub FromInTurn : Type 0
FromInTurn = (t b : List ℕ) (qs : List Request) (words b' : List ℕ) → InTurn t b qs words b' → NoWrongMoves t b qs words b'

abbrev pub FromSleepEntry : Type 0
FromSleepEntry =
    (size : ℕ) (written : List ℕ → List ℕ) (plan_on : List ℕ → List ℕ → Request → List ℕ → Outcome) (t b : List ℕ) (q : Request)
    (plan : List ℕ) (number count : ℕ) (b' plan' : List ℕ) → SleepEntry size written plan_on t b q plan number count b' plan'
    → NoWrongSleep size written plan_on t b q plan number count b' plan'
