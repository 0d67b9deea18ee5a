use mathlib.Core.Bool.{not}
use mathlib.Core.Path.{ap}
use Rattle.table.proofs.Verdicts.{sized_by, table_answers}
use borrow.Author.Rules.{rules}
use Rattle.table.proofs.check_past_header.Goals as goal

pub counts_good-requires : goal.counts_good-requires
counts_good-requires c = search (rules, table_answers)

pub returns-then-not-counts_good : goal.returns-then-not-counts_good
returns-then-not-counts_good c = search (rules, table_answers)

pub length_good-requires : goal.length_good-requires
length_good-requires c = search (rules, table_answers)

pub returns-then-not-length_good : goal.returns-then-not-length_good
returns-then-not-length_good c = search (rules, table_answers)

-- Each return is the answer of the first check that refuses; what passed meets what the rest asks.
pub check_records-requires : goal.check_records-requires
check_records-requires c =
    sized_by _ _ _ c.requires c.counts_good.ensures (ap not c.if-not-counts_good.false)
    c.length_good.ensures (ap not c.if-not-length_good.false)
