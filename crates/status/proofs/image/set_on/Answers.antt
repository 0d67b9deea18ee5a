use Rattle.status.proofs.Held.{on_written}
use borrow.Author.Rules.{rules}
use Rattle.status.proofs.image.set_on.Goals as goal

pub returns : goal.returns
returns c = search (rules, on_written)
