use borrow.Author.Tests.{ne_eqb}
use Rattle.bench.specs.Cases.{size_by, table_by}
use borrow.Author.Rules.{rules}
use Rattle.bench.proofs.tables.Table.after.Goals as goal

-- What each letter does is what its branch of the definitions says.
pub returns-in-84 : goal.returns-in-84
unfolding size_by table_by
returns-in-84 c = record {
  len = rw (← c.letter.ensures, c.in-84.is) (search rules);
  bytes = rw (← c.letter.ensures, c.in-84.is) (search rules);
}

pub returns-in-43 : goal.returns-in-43
unfolding size_by table_by
returns-in-43 c = record {
  len = rw (← c.letter.ensures, c.in-43.is) (search rules);
  bytes = rw (← c.letter.ensures, c.in-43.is) (search rules);
}

pub returns-in_default : goal.returns-in_default
unfolding size_by table_by
returns-in_default c = record {
  len = rw (← c.letter.ensures) (search (rules, ne_eqb));
  bytes = rw (← c.letter.ensures) (search (rules, ne_eqb));
}
