use Rattle.table.proofs.Verdicts.{header_test, table_tests}
use borrow.Author.Rules.{rules}
use Rattle.table.proofs.header.header_good.Goals as goal

pub returns-then-table-lt8 : goal.returns-then-table-lt8
returns-then-table-lt8 c = search (rules, table_tests)

pub returns-then-not-marked : goal.returns-then-not-marked
returns-then-not-marked c = search (rules, table_tests)

pub returns : goal.returns
returns c = header_test _ c.read16.result c.version_good.result (search rules) (search rules) (search rules) (search rules)
