-- What a plan that has passed every check leaves, and the planner on a plan of words or of bytes.
use Rattle.std.specs.Prelude.{ℕ, ◌*◌, List, leb, length}
use Rattle.rules.specs.declared.Request.{Request}
use Rattle.rules.specs.Station.{width}
use Rattle.rules.specs.Outcomes.{Outcome, planned, state_after, plan_outcome, plan_room, plan_stages, plan_state, plan_list}
use Rattle.switching.specs.Written.{WrittenPlan}

-- the count, the state and the plan of an accepted request
abbrev pub Written : List ℕ → List ℕ → Request → List ℕ → ℕ → List ℕ → List ℕ → Type 0
Written t b q = WrittenPlan (planned t b q) (state_after t b q)

-- the planner on a plan of which a word takes `size` elements, as `written` turns words into them: plan_words and plan_bytes of RULES.md 9
-- are this one at 1 and the words themselves, and at 4 and their bytes
unfoldable pub plan_elements : ℕ → (List ℕ → List ℕ) → List ℕ → List ℕ → Request → List ℕ → Outcome
plan_elements size written t b q plan =
    plan_outcome written (plan_stages (leb (size * plan_room (width t) q) (length plan)) t b q) b plan (plan_state t b q) (plan_list t b q)
