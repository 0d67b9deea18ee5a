use Rattle.request.proofs.Changes.{changes}
use borrow.Author.Rules.{rules}
use Rattle.request.proofs.change.change.Goals as goal

pub switching-switching-requires : goal.switching-switching-requires
switching-switching-requires c = search (rules, changes)

pub returns : goal.returns
returns c = search (rules, changes)
