use Rattle.switching.specs.Phases.{walked}
use Rattle.switching.proofs.Walks.{endings}
use borrow.Author.Rules.{rules}
use Rattle.switching.proofs.walk.walk.Goals as goal

pub returns-in-Some-empty : goal.returns-in-Some-empty
unfolding walked
returns-in-Some-empty c = search (rules, endings)

pub returns-in_default : goal.returns-in_default
unfolding walked
returns-in_default c = search (rules, endings)

pub returns-in_default-2 : goal.returns-in_default-2
unfolding walked
returns-in_default-2 c = search (rules, endings)
