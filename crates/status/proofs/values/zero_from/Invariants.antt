use Prim.Native.Nat.{◌≤◌, ◌-◌, ◌%◌}
use mathlib.Core.Path.{◌≡◌}
use lib.Dec.{eqb}
use Rattle.rules.specs.Index.{every}
use Rattle.status.proofs.Ranges.{zero_from}
use Rattle.status.proofs.values.zero_from.Given as goal

abbrev pub invariant-loop-i : goal.invariant-loop-i
invariant-loop-i l = (l.n ≤ l.i) × (l.i ≤ l.end) × ((l.end - l.i) % 2 ≡ 0) × (eqb l.all 0 ≡ every (zero_from l.devices l.n) l.i)

abbrev pub decreases-loop-i : goal.decreases-loop-i
decreases-loop-i l = l.end - l.i
