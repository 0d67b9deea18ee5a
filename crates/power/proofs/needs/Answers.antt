use borrow.Author.Rules.{rules}
use Rattle.power.proofs.StateLaws.{needs_are}
use Rattle.power.proofs.needs.Goals as goal

pub returns : goal.returns
returns c = search (rules, needs_are)
