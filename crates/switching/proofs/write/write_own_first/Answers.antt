use Rattle.switching.proofs.Run.{plan_runs}
use borrow.Author.Rules.{rules}
use Rattle.switching.proofs.write.write_own_first.Goals as goal

pub write_own-p-requires : goal.write_own-p-requires
write_own-p-requires c = search (rules, plan_runs)

pub write_switches-requires : goal.write_switches-requires
write_switches-requires c = search (rules, plan_runs)

pub returns : goal.returns
returns c = search (rules, plan_runs)
