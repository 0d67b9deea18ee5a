use mathlib.Core.Path.{◌≡◌}
use Rattle.bench.specs.Script.{filled}
use Rattle.bench.proofs.script.fill.Given as goal

abbrev pub invariant-loop-i : goal.invariant-loop-i
invariant-loop-i l = l.bytes ≡ filled l.initial.bytes l.at l.line l.from l.period l.i
