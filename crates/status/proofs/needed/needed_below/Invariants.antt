use Prim.Native.Nat.{◌≤◌}
use mathlib.Core.Path.{◌≡◌}
use lib.ListN.{length}
use Rattle.words.specs.Words.{put}
use Rattle.rules.specs.Index.{each}
use Rattle.rules.specs.Station.{count_d, station}
use Rattle.rules.specs.Power.{needed_below}
use Rattle.rules.specs.Status.{entries}
use Rattle.status.proofs.Walk.{Walking}
use Rattle.status.proofs.needed.needed_below.Given as goal

abbrev pub invariant-loop-d : goal.invariant-loop-d
invariant-loop-d l =
    Walking l.table l.width l.size l.at l.d × (l.n ≡ count_d l.table) × (l.n ≤ length l.initial.out) × (length l.out ≡ length l.initial.out)
    × (l.out ≡ put l.initial.out 0 (each (needed_below (station l.table) (entries l.table l.devices)) l.d))
    × (l.all ≡ needed_below (station l.table) (entries l.table l.devices) l.d)
