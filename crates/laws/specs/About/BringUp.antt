-- From what bring-up promises: it moves no device, leaves on what is needed and nothing else, and gives 8 for nothing that it mends.
use Rattle.std.specs.Prelude.{ℕ, ◌*◌, ◌≤◌, ◌<◌, ◌≡◌, List, ◌++◌, map, ◌≢◌, length, drop}
use Rattle.rules.specs.Verdict.{Verdict}
use Rattle.std.specs.Prelude.{Ok}
use Rattle.rules.specs.Answers.{number_of}
use Rattle.rules.specs.Station.{width, station}
use Rattle.rules.specs.Table.{table_verdict}
use Rattle.rules.specs.Power.{needed}
use Rattle.rules.specs.Status.{status, consistency_verdict, state_verdict}
use Rattle.rules.specs.Calls.{turn_off, status_needed}
use Rattle.rules.specs.Check.{off_word}
use Rattle.rules.specs.Outcomes.{Outcome, list_room}
use Rattle.rules.specs.BringUp.{but_power_verdict, bring_up_list}
use Rattle.laws.specs.BringUp.{CanBringUp, BringsUp}
use Rattle.laws.specs.About.Planner.{NoWrongState, NoWrongPlan}

pub record NoWrongBringUp (size : ℕ) (written : List ℕ → List ℕ) (bring_up : List ℕ → List ℕ → List ℕ → Outcome) (t b plan : List ℕ)
    (number count : ℕ) (b' plan' : List ℕ) : Type 0 where
  -- it neither refuses nor accepts all
  pub refuses_all : CanBringUp t b → number ≢ 0 → length plan < size * list_room (width t)
  pub not_allowed : (CanBringUp t b → ⊥) → number ≢ 0
  pub no_room : length plan < size * list_room (width t) → number ≢ 0
  -- it moves no device and arms none
  pub entries : number ≡ 0 → (status t b').entries ≢ (status t b).entries → ⊥
  pub state : number ≡ 0 → NoWrongState t b'
  pub calls : number ≡ 0 → NoWrongPlan size written (bring_up_list t b) plan count plan'
  -- no table that is accepted gets an 8 of bring-up that the same state with exactly the needed set on would not get
  pub eight : number_of (table_verdict t) ≡ 0 → (v : Verdict) → consistency_verdict (station t) (status_needed (station t) (status t b)) ≡ v
      → but_power_verdict (station t) (status t b).entries ≢ v → ⊥
  -- of a consistent state, the plan afterwards is the turn-off calls and what it was lent with
  pub offs : number ≡ 0 → number_of (state_verdict t b) ≡ 0
      → plan' ≡ written (map off_word (turn_off (station t) (status t b).on (needed (station t) (status t b).entries)))
      ++ drop (size * count) plan
  -- a second and a third time there are no calls, and nothing changes
  pub again : number ≡ 0 → (p p' : List ℕ) → size * list_room (width t) ≤ length p → size * list_room (width t) ≤ length p'
      → bring_up t (bring_up t b' p).state p' ≡ record { verdict = Ok 0; state = b'; plan = p' }

abbrev pub FromBringsUp : Type 0
FromBringsUp =
    (size : ℕ) (written : List ℕ → List ℕ) (bring_up : List ℕ → List ℕ → List ℕ → Outcome) (t b plan : List ℕ) (number count : ℕ)
    (b' plan' : List ℕ) → BringsUp size written bring_up t b plan number count b' plan'
    → NoWrongBringUp size written bring_up t b plan number count b' plan'
