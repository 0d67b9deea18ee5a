use Rattle.status.proofs.Chains.{but_power_laws}
use borrow.Author.Rules.{rules}
use Rattle.status.proofs.check_but_power.Goals as goal

pub returns-then-not-image_good : goal.returns-then-not-image_good
returns-then-not-image_good c = search (rules, but_power_laws)

pub consistency-requires : goal.consistency-requires
consistency-requires c = search (rules, but_power_laws)

pub returns : goal.returns
returns c = search (rules, but_power_laws)
