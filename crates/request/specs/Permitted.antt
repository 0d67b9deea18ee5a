-- What the stages have shown of a permitted request.
use Rattle.std.specs.Prelude.{ℕ, ◌≤◌, ◌<◌, ◌≡◌, true, List, length}
use Rattle.rules.specs.declared.Request.{Request}
use Rattle.rules.specs.Answers.{passes}
use Rattle.rules.specs.Station.{width, count_d}
use Rattle.rules.specs.Status.{image_size}
use Rattle.rules.specs.Outcomes.{permitted_verdict}
use Rattle.status.specs.Ready.{Ready}

pub record PermittedRequest (t b : List ℕ) (q : Request) : Type 0 where
  pub ready : Ready t b
  pub long : length b ≡ image_size (width t)
  pub device : q.device < count_d t
  pub first : q.a ≤ 4
  pub second : q.b ≤ 4
  pub passed : passes (permitted_verdict t b q) ≡ true
