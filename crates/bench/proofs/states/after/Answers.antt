use borrow.Author.Tests.{ne_eqb}
use Rattle.bench.specs.Cases.{state_by}
use borrow.Author.Rules.{rules}
use Rattle.bench.proofs.states.after.Goals as goal

-- What each letter does is what its branch of the definition says.
pub returns-in-70 : goal.returns-in-70
unfolding state_by
returns-in-70 c = rw (← c.letter.ensures, c.in-70.is) (search rules)

pub returns-in-75 : goal.returns-in-75
unfolding state_by
returns-in-75 c = rw (← c.letter.ensures, c.in-75.is) (search rules)

pub returns-in-81 : goal.returns-in-81
unfolding state_by
returns-in-81 c = rw (← c.letter.ensures, c.in-81.is) (search rules)

pub returns-in-80 : goal.returns-in-80
unfolding state_by
returns-in-80 c = rw (← c.letter.ensures, c.in-80.is) (search rules)

pub returns-in-66 : goal.returns-in-66
unfolding state_by
returns-in-66 c = rw (← c.letter.ensures, c.in-66.is) (search rules)

pub returns-in_default : goal.returns-in_default
unfolding state_by
returns-in_default c = rw (← c.letter.ensures) (search (rules, ne_eqb))
