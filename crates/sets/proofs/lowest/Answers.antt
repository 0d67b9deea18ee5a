use borrow.Author.Rules.{rules}
use Rattle.sets.proofs.Ends.{lowest_is}
use Rattle.sets.proofs.lowest.Goals as goal

pub returns : goal.returns
returns c = lowest_is c.args.s (search rules) (search rules)
