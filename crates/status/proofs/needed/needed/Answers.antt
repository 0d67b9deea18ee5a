use Rattle.status.proofs.NeededLaws.{all_devices}
use borrow.Author.Rules.{rules}
use Rattle.status.proofs.needed.needed.Goals as goal

pub returns : goal.returns
returns c = search (rules, all_devices)
