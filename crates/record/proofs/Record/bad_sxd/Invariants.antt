use mathlib.Core.Path.{◌≡◌}
use Prim.Native.Nat.{◌-◌}
use Rattle.rules.specs.Index.{each_from}
use Rattle.rules.specs.Table.{sxd_fields}
use Rattle.record.specs.Bad.{bad_place}
use Rattle.record.specs.Record.{device_of}
use Rattle.record.proofs.FirstBad.{sxd_field}
use Rattle.record.proofs.Record.bad_sxd.Given as goal

abbrev pub invariant-loop-k : goal.invariant-loop-k
invariant-loop-k l =
    bad_place (each_from (sxd_field l.self.width (device_of l.self)) l.k (4 - l.k)) ≡ bad_place (sxd_fields l.self.width (device_of l.self))
