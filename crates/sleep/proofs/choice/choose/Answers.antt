use Rattle.std.proofs.Common.{rules}
use Rattle.sleep.proofs.Choosing.{choosing}
use Rattle.sleep.proofs.choice.choose.Goals as goal

pub loop-i-init : goal.loop-i-init
loop-i-init c = search (rules, choosing)

pub loop-i-preserved : goal.loop-i-preserved
loop-i-preserved c = search (rules, choosing)

pub returns : goal.returns
returns c = search (rules, choosing)
