use Rattle.status.proofs.Held.{stored_is}
use borrow.Author.Rules.{rules}
use Rattle.status.proofs.state.State.store.Goals as goal

pub returns : goal.returns
returns g c = search (rules, stored_is)
