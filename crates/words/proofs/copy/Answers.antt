use mathlib.Core.Path.{sym}
use Rattle.words.proofs.Put.{put_none, put_next, put_last}
use Rattle.words.proofs.copy.Goals as goal

pub loop-i-init : goal.loop-i-init
loop-i-init g c = sym (put_none c.args.out.now c.args.at)

pub loop-i-preserved : goal.loop-i-preserved
loop-i-preserved g c = put_next _ _ _ _ _ c.loop-i.invariant _ c.index-from-i.is c.loop-i-test.true c.requires

pub returns : goal.returns
returns g c = put_last _ _ _ _ _ c.loop-i.invariant c.loop-i-test.false
