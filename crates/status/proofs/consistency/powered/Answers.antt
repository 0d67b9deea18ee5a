use Rattle.status.proofs.Keeps.{keep_laws}
use borrow.Author.Rules.{rules}
use Rattle.status.proofs.consistency.powered.Goals as goal

pub returns : goal.returns
returns c = search (rules, keep_laws)
