use Rattle.status.proofs.Ranges.{on_is}
use borrow.Author.Rules.{rules}
use Rattle.status.proofs.values.on_good.Goals as goal

pub returns : goal.returns
returns c = search (rules, on_is)
