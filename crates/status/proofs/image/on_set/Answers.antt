use Rattle.status.proofs.Held.{in_place}
use borrow.Author.Rules.{rules}
use Rattle.status.proofs.image.on_set.Goals as goal

pub returns : goal.returns
returns c = search (rules, in_place)
