use Rattle.switching.proofs.Run.{phase_runs}
use borrow.Author.Rules.{rules}
use Rattle.switching.proofs.write.write_switches.Goals as goal

pub emit-p-requires : goal.emit-p-requires
emit-p-requires c = search (rules, phase_runs)

pub emit-requires : goal.emit-requires
emit-requires c = search (rules, phase_runs)

pub returns : goal.returns
returns c = search (rules, phase_runs)
