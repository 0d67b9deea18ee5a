-- What holds of a switching whose calls can be written or looked for.
use Rattle.std.specs.Prelude.{ℕ, ◌^◌, ◌<◌, ◌≡◌, false, ◌&&◌, List}
use Rattle.sets.specs.Sets.{member}
use Rattle.rules.specs.declared.Switching.{Switching}
use Rattle.rules.specs.Station.{count_r}
use Rattle.calls.specs.Ranges.{OptionalInRange}

-- no resource is in both sets
unfoldable pub Disjoint : ℕ → ℕ → Type 0
Disjoint a b = (r : ℕ) → member a r && member b r ≡ false

-- resources of the table, none switched both ways, and a call of RULES.md 2.9
pub record GoodSwitching (t : List ℕ) (c : Switching) : Type 0 where
  pub added : c.added < 2 ^ count_r t
  pub removed : c.removed < 2 ^ count_r t
  pub disjoint : Disjoint c.added c.removed
  pub own : OptionalInRange c.own
