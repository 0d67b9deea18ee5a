use Rattle.status.proofs.Held.{loaded_is}
use borrow.Author.Rules.{rules}
use Rattle.status.proofs.state.State.load.Goals as goal

pub returns : goal.returns
returns g c = search (rules, loaded_is)
