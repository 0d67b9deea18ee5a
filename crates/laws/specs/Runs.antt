-- RULES.md 8.4, a run of requests: each with any bytes as its plan, the state going from one to the next, refused requests among them.
use Rattle.std.specs.Prelude.{ℕ, ◌≡◌, List, [], ◌∷◌}
use Rattle.rules.specs.declared.Request.{Request}
use Rattle.rules.specs.Answers.{number_of}
use Rattle.rules.specs.Status.{state_verdict}
use Rattle.rules.specs.Outcomes.{fresh, plan_bytes}

-- a request and the plan of bytes that is lent with it
pub record Turn : Type 0 where
  pub request : Request
  pub plan : List ℕ

-- the state image after the requests, from first to last
unfoldable pub state_after_all : List ℕ → List ℕ → List Turn → List ℕ
state_after_all t b [] = b
state_after_all t b (r ∷ rs) = state_after_all t (plan_bytes t b r.request r.plan).state rs

-- from a fresh state, after the requests, the state gets neither 7 nor 8
abbrev pub StaysConsistent : List ℕ → List ℕ → List Turn → Type 0
StaysConsistent t b rs = number_of (fresh t b).verdict ≡ 0 → number_of (state_verdict t (state_after_all t (fresh t b).state rs)) ≡ 0
