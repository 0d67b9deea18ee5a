-- What is left of a lent plan and state once a switching is written: the count of its words, the state afterwards, and the words at the
-- front of the plan.
use Rattle.std.specs.Prelude.{ℕ, ◌≡◌, List, length}
use Rattle.words.specs.Words.{put}

pub record WrittenPlan (list after plan : List ℕ) (n : ℕ) (b' plan' : List ℕ) : Type 0 where
  pub count : n ≡ length list
  pub state : b' ≡ after
  pub words : plan' ≡ put plan 0 list
