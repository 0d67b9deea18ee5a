use Prim.Native.Nat.{◌≤◌}
use mathlib.Core.Path.{◌≡◌}
use Rattle.rules.specs.Station.{count_d, station}
use Rattle.rules.specs.Status.{entries}
use Rattle.status.specs.Ready.{consistent_with}
use Rattle.status.proofs.Loops.{Looking}
use Rattle.status.proofs.Walk.{Walking}
use Rattle.status.proofs.consistency.consistency.Given as goal

abbrev pub invariant-loop-d : goal.invariant-loop-d
invariant-loop-d l =
    (l.n ≤ count_d l.table) × (l.n ≡ (station l.table).devices)
    × Walking l.table l.width l.size l.at l.d × Looking (consistent_with l.on (station l.table) (entries l.table l.devices)) l.n l.d
