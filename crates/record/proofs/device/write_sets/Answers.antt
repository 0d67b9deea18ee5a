use Rattle.record.proofs.Values.{sets_loop}
use borrow.Author.Rules.{rules}
use Rattle.record.proofs.device.write_sets.Goals as goal

pub loop-s-init : goal.loop-s-init
loop-s-init c = search (rules, sets_loop)

pub loop-s-preserved : goal.loop-s-preserved
loop-s-preserved c = search (rules, sets_loop)
