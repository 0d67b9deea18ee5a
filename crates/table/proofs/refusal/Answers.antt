use Rattle.table.proofs.Verdicts.{table_tests}
use borrow.Author.Rules.{rules}
use Rattle.table.proofs.refusal.Goals as goal

pub returns-then-fields_good : goal.returns-then-fields_good
returns-then-fields_good c = search (rules, table_tests)

pub returns : goal.returns
returns c = search (rules, table_tests)
