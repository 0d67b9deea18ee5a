use Rattle.status.proofs.Chains.{state_laws}
use borrow.Author.Rules.{rules}
use Rattle.status.proofs.check_state.Goals as goal

pub returns-then-not-image_good : goal.returns-then-not-image_good
returns-then-not-image_good c = search (rules, state_laws)

pub on_set-on-requires : goal.on_set-on-requires
on_set-on-requires c = search (rules, state_laws)

pub consistency-requires : goal.consistency-requires
consistency-requires c = search (rules, state_laws)

pub returns : goal.returns
returns c = search (rules, state_laws)
