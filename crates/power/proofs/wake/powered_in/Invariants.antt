use mathlib.Core.Path.{◌≡◌}
use lib.Dec.{leb}
use Rattle.rules.specs.Station.{count_r, station}
use Rattle.rules.specs.Power.{powered_in}
use Rattle.power.proofs.Members.{every_in}
use Rattle.power.proofs.wake.powered_in.Given as goal

abbrev pub invariant-loop-rest : goal.invariant-loop-rest
invariant-loop-rest l =
    every_in (λ r. leb l.x ((station l.table).resource r).level) l.rest
    (count_r l.table) ≡ powered_in (station l.table) l.x l.set

abbrev pub decreases-loop-rest : goal.decreases-loop-rest
decreases-loop-rest l = l.rest
