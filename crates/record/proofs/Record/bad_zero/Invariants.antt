use mathlib.Core.Path.{◌≡◌}
use Prim.Native.Nat.{◌-◌, ◌+◌}
use Rattle.rules.specs.Index.{each_from}
use Rattle.rules.specs.Table.{zero_fields}
use Rattle.record.specs.Bad.{bad_place}
use Rattle.record.proofs.FirstBad.{zero_field}
use Rattle.record.proofs.Record.bad_zero.Given as goal

abbrev pub invariant-loop-k : goal.invariant-loop-k
invariant-loop-k l =
    bad_place (each_from (zero_field l.self.width l.self.bytes.now l.self.at) l.k (2 + l.self.width - l.k)) ≡ bad_place (zero_fields l.self.width l.self.bytes.now l.self.at)
