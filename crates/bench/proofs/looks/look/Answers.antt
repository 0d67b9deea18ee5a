use borrow.Author.Tests.{ne_eqb}
use Rattle.bench.specs.Cases.{seen_by}
use borrow.Author.Rules.{rules}
use Rattle.bench.proofs.looks.look.Goals as goal

-- What each letter answers is what its branch of the definition says.
pub returns-in-68 : goal.returns-in-68
unfolding seen_by
returns-in-68 c = rw (← c.letter.ensures, c.in-68.is) (search rules)

pub returns-in-83 : goal.returns-in-83
unfolding seen_by
returns-in-83 c = rw (← c.letter.ensures, c.in-83.is) (search rules)

pub returns-in-86 : goal.returns-in-86
unfolding seen_by
returns-in-86 c = rw (← c.letter.ensures, c.in-86.is) (search rules)

pub returns-in-76 : goal.returns-in-76
unfolding seen_by
returns-in-76 c = rw (← c.letter.ensures, c.in-76.is) (search rules)

pub returns-in-67 : goal.returns-in-67
unfolding seen_by
returns-in-67 c = rw (← c.letter.ensures, c.in-67.is) (search rules)

pub returns-in-87 : goal.returns-in-87
unfolding seen_by
returns-in-87 c = rw (← c.letter.ensures, c.in-87.is) (search rules)

pub returns-in-82 : goal.returns-in-82
unfolding seen_by
returns-in-82 c = rw (← c.letter.ensures, c.in-82.is) (search rules)

pub returns-in-77 : goal.returns-in-77
unfolding seen_by
returns-in-77 c = rw (← c.letter.ensures, c.in-77.is) (search rules)

pub returns-in-69 : goal.returns-in-69
unfolding seen_by
returns-in-69 c = rw (← c.letter.ensures, c.in-69.is) (search rules)

pub returns-in_default : goal.returns-in_default
unfolding seen_by
returns-in_default c = rw (← c.letter.ensures) (search (rules, ne_eqb))
