use mathlib.Core.Path.{◌≡◌}
use mathlib.Core.Bool.{not}
use Prim.Native.Nat.{◌+◌, ◌*◌, ◌-◌}
use Rattle.rules.specs.Index.{least_from, least}
use Rattle.record.specs.Good.{size_with, good_with}
use Rattle.record.proofs.lowest.Records.lowest_bad.Given as goal

abbrev pub invariant-loop-d : goal.invariant-loop-d
invariant-loop-d l =
    let zeros = l.self.zeros in
    let w = l.self.width in
    (l.at ≡ l.self.first + size_with zeros w * l.d)
    × (least_from (λ j. not (good_with zeros w l.resources l.self.bytes.now j (l.self.first + size_with zeros w * j))) l.d (l.self.count - l.d)
    ≡ least (λ j. not (good_with zeros w l.resources l.self.bytes.now j (l.self.first + size_with zeros w * j))) l.self.count)
