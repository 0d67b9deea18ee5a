use borrow.Author.Rules.{rules}
use Rattle.status.proofs.NeededLaws.{with_entry}
use Rattle.status.proofs.needed.needed_with.Goals as goal

pub returns : goal.returns
returns c = search (rules, with_entry)
