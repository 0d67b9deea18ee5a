use Rattle.bench.specs.Cases.{task_checked}
use borrow.Author.Rules.{rules}
use Rattle.bench.proofs.tasks.checked.Goals as goal

-- Each arm by what the match told.
pub returns-in-Plan : goal.returns-in-Plan
unfolding task_checked
returns-in-Plan c = rw c.in-Plan.is (search rules)

pub returns-in-BringUp : goal.returns-in-BringUp
unfolding task_checked
returns-in-BringUp c = rw c.in-BringUp.is (search rules)
