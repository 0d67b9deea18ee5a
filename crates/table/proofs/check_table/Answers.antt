use Rattle.table.proofs.Verdicts.{table_answers}
use borrow.Author.Rules.{rules}
use Rattle.table.proofs.check_table.Goals as goal

pub returns-then-not-header_good : goal.returns-then-not-header_good
returns-then-not-header_good c = search (rules, table_answers)

pub check_past_header-requires : goal.check_past_header-requires
check_past_header-requires c = search (rules, table_answers)
