use Rattle.table.proofs.Verdicts.{table_tests}
use borrow.Author.Rules.{rules}
use Rattle.table.proofs.counts_good.Goals as goal

pub returns : goal.returns
returns c = search (rules, table_tests)
