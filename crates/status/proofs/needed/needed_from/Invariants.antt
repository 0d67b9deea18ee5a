use Prim.Native.Nat.{◌-◌}
use mathlib.Core.Path.{◌≡◌}
use Rattle.rules.specs.Station.{station}
use Rattle.rules.specs.Status.{entries}
use Rattle.status.specs.Needs.{needed_from}
use Rattle.status.proofs.Walk.{Walking}
use Rattle.status.proofs.needed.needed_from.Given as goal

abbrev pub invariant-loop-d : goal.invariant-loop-d
invariant-loop-d l =
    Walking l.table l.width l.size l.at l.d × (needed_from (station l.table) (entries l.table l.devices) l.all l.d (l.end - l.d) ≡ needed_from (station l.table)
    (entries l.table l.devices) l.set l.from (l.end - l.from))
