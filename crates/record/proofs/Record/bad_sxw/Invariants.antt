use mathlib.Core.Path.{◌≡◌}
use Prim.Native.Nat.{◌-◌}
use Rattle.rules.specs.Index.{each_from}
use Rattle.rules.specs.Table.{sxw_fields}
use Rattle.record.specs.Bad.{bad_place}
use Rattle.record.specs.Record.{device_of}
use Rattle.record.proofs.FirstBad.{sxw_field}
use Rattle.record.proofs.Record.bad_sxw.Given as goal

abbrev pub invariant-loop-x : goal.invariant-loop-x
invariant-loop-x l =
    bad_place (each_from (sxw_field l.self.width (device_of l.self)) l.x (5 - l.x)) ≡ bad_place (sxw_fields l.self.width (device_of l.self))
