use mathlib.Core.Path.{◌≡◌}
use mathlib.Core.Bool.{not}
use Prim.Native.Nat.{◌+◌, ◌*◌, ◌-◌}
use Rattle.rules.specs.Index.{least_from, least}
use Rattle.rules.specs.Table.{resource_good}
use Rattle.record.proofs.lowest.lowest_resource.Given as goal

abbrev pub invariant-loop-i : goal.invariant-loop-i
invariant-loop-i l =
    least_from (λ j. not (resource_good l.bytes (l.first + 4 * j))) l.i (l.n - l.i) ≡ least
    (λ j. not (resource_good l.bytes (l.first + 4 * j))) l.n
