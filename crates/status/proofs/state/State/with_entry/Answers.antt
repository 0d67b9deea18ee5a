use Rattle.status.proofs.Written.{changed_is}
use borrow.Author.Rules.{rules}
use Rattle.status.proofs.state.State.with_entry.Goals as goal

pub returns : goal.returns
returns g c = search (rules, changed_is)
