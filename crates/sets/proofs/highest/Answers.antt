use borrow.Author.Rules.{rules}
use Rattle.sets.proofs.Ends.{highest_is}
use Rattle.sets.proofs.highest.Goals as goal

pub returns : goal.returns
returns c = search (rules, highest_is)
