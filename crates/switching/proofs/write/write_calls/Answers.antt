use Rattle.switching.proofs.Run.{plan_runs}
use borrow.Author.Rules.{rules}
use Rattle.switching.proofs.write.write_calls.Goals as goal

pub write_switches-p-requires : goal.write_switches-p-requires
write_switches-p-requires c = search (rules, plan_runs)

pub write_own-requires : goal.write_own-requires
write_own-requires c = search (rules, plan_runs)

pub returns-then-c : goal.returns-then-c
returns-then-c c = search (rules, plan_runs)
