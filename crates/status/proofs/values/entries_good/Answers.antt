use Rattle.status.proofs.Ranges.{range_laws}
use borrow.Author.Rules.{rules}
use Rattle.status.proofs.values.entries_good.Goals as goal

pub returns-then-first_good : goal.returns-then-first_good
returns-then-first_good c = search (rules, range_laws)

pub returns-else-first_good : goal.returns-else-first_good
returns-else-first_good c = search (rules, range_laws)
