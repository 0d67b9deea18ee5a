use mathlib.Core.Path.{◌≡◌}
use Prim.Native.Nat.{◌<◌}
use Rattle.table.specs.Device.{device_in}
use Rattle.rules.specs.Power.{listed_set}
use Rattle.power.proofs.listed_set.Given as goal

abbrev pub invariant-loop-k : goal.invariant-loop-k
invariant-loop-k l = (l.k < 5) × (listed_set (device_in l.device) l.k ≡ listed_set (device_in l.device) l.x)
