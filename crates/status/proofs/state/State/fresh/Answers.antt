use Rattle.status.proofs.Held.{fresh_is}
use borrow.Author.Rules.{rules}
use Rattle.status.proofs.state.State.fresh.Goals as goal

pub returns : goal.returns
returns g c = search (rules, fresh_is)
