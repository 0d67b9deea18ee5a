use Prim.Native.Nat.{◌*◌}
use mathlib.Core.Path.{◌≡◌}
use Rattle.rules.specs.Index.{every}
use Rattle.rules.specs.Status.{entry_at, entry_good}
use Rattle.laws.proofs.Every.{every_from}
use Rattle.status.proofs.values.first_good.Given as goal

abbrev pub invariant-loop-k : goal.invariant-loop-k
invariant-loop-k l = every_from (λ k. entry_good (entry_at l.devices (4 * k))) l.k l.n ≡ every (λ k. entry_good (entry_at l.devices (4 * k))) l.n
