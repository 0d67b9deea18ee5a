use mathlib.Core.Path.{◌≡◌}
use Rattle.std.specs.Prelude.{None, IfSome}
use Prim.Native.Nat.{◌^◌, ◌<◌}
use lib.ListN.{length}
use Rattle.rules.specs.Station.{count_r, station}
use Rattle.switching.specs.Phases.{take_phase}
use Rattle.switching.proofs.take.take_phase.Given as goal

abbrev pub invariant-loop-left : goal.invariant-loop-left
invariant-loop-left l =
    (l.left < 2 ^ count_r l.table)
    × IfSome l.last (λ p. p < count_r l.table)
    × (take_phase (station l.table) l.off l.left l.last l.rest ≡ take_phase (station l.table) l.off l.set None l.list)

abbrev pub decreases-loop-left : goal.decreases-loop-left
decreases-loop-left l = length l.rest
