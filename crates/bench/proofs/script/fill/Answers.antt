use native.Mathlib.Numerals.{add-one}
use Rattle.bench.specs.Script.{filled}
use borrow.Author.Rules.{rules}
use Rattle.bench.proofs.script.fill.Goals as goal

pub loop-i-init : goal.loop-i-init
unfolding filled
loop-i-init c = search rules

pub loop-i-preserved : goal.loop-i-preserved
unfolding filled
loop-i-preserved c = rw add-one (search rules)
