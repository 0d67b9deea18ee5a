use Rattle.status.proofs.Chains.{fresh_arms}
use borrow.Author.Rules.{rules}
use Rattle.status.proofs.fresh.Goals as goal

pub size-requires : goal.size-requires
size-requires c = search (rules, fresh_arms)

pub returns-then-state-size : goal.returns-then-state-size
returns-then-state-size c = search (rules, fresh_arms)

pub write_fresh-requires : goal.write_fresh-requires
write_fresh-requires c = search (rules, fresh_arms)

pub returns : goal.returns
returns c = search (rules, fresh_arms)
