use borrow.Author.Tests.{ne_eqb}
use Rattle.bench.specs.Cases.{set_size}
use borrow.Author.Rules.{rules}
use Rattle.bench.proofs.states.set_size.Goals as goal

-- By the version that the table states.
pub returns-then-letter-eq2 : goal.returns-then-letter-eq2
unfolding set_size
returns-then-letter-eq2 c = rw (← c.letter.ensures, c.if-letter-eq2.true) (search rules)

pub returns-else-letter-eq2 : goal.returns-else-letter-eq2
unfolding set_size
returns-else-letter-eq2 c = rw (← c.letter.ensures, ne_eqb _ _ c.if-letter-eq2.false) (search rules)
