use mathlib.Core.Path.{◌≡◌}
use Prim.Native.Nat.{◌-◌}
use Rattle.rules.specs.Index.{each_from}
use Rattle.rules.specs.Table.{set_fields}
use Rattle.record.specs.Bad.{bad_place}
use Rattle.record.specs.Record.{device_of}
use Rattle.record.proofs.FirstBad.{set_field}
use Rattle.record.proofs.Record.bad_set.Given as goal

abbrev pub invariant-loop-k : goal.invariant-loop-k
invariant-loop-k l =
    bad_place (each_from (set_field l.self.width l.resources (device_of l.self)) l.k (5 - l.k)) ≡ bad_place (set_fields l.self.width l.resources (device_of l.self))
