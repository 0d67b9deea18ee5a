use borrow.Author.Rules.{rules}
use Rattle.power.proofs.Members.{every_in_laws}
use Rattle.power.proofs.WakeLaws.{powered_starts}
use Rattle.power.proofs.wake.powered_in.Goals as goal

pub loop-rest-init : goal.loop-rest-init
loop-rest-init c = search (rules, powered_starts)

pub returns-then-not-powered : goal.returns-then-not-powered
returns-then-not-powered c = search (rules, every_in_laws)

pub loop-rest-smaller : goal.loop-rest-smaller
loop-rest-smaller c = search (rules, every_in_laws)

pub loop-rest-preserved : goal.loop-rest-preserved
loop-rest-preserved c = search (rules, every_in_laws)

pub returns : goal.returns
returns c = search (rules, every_in_laws)
