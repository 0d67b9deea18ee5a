-- How a device may wake the system, a law for each way that the code answers. The wake range stays shut: no law here depends on how it is
-- decided.
use mathlib.Core.Path.{◌≡◌, refl, sym, ap, ◌∙◌}
use mathlib.Core.Bool.{Bool, true, false, not, ◌||◌}
use mathlib.Core.List.{List}
use Prim.Native.Nat.{ℕ, ◌≤◌, ◌<◌}
use borrow.Author.Tests.{lt-ltb, le-ltb, not-true, not-false}
use lib.Dec.{leb, ltb}
use Rattle.rules.specs.Station.{Station, has_prw, count_r, station_of, station}
use Rattle.rules.specs.Power.{supported, powered_in, wake_range, wake_from, wake_powered, wake_state, wake_pair}
use Rattle.power.proofs.Members.{every_in}

-- ---- the sleep state
pub from_told : (s : Station) (d x k : ℕ) (b : Bool) → b ≡ has_prw (s.device d) → b ≡ true → k ≡ (s.device d).deepest
    → leb x k ≡ wake_from s d x
unfolding wake_from
from_told s d x k b e t q = rw (sym e ∙ t, q)

pub from_none : (s : Station) (d x : ℕ) (b : Bool) → b ≡ has_prw (s.device d) → b ≡ false → b ≡ wake_from s d x
unfolding wake_from
from_none s d x b e t = t ∙ rw (sym e ∙ t) refl

-- ---- the resources: one of them, which the table has or not, and the loop over the members of the set
pub level_told : (t : List ℕ) (r x k n : ℕ) → n ≡ count_r t → r < n → k ≡ ((station t).resource r).level
    → leb x k ≡ (not (ltb r (count_r t)) || leb x ((station t).resource r).level)
level_told t r x k n p h q = rw (← p, lt-ltb r n h, q) refl

pub level_free : (t : List ℕ) (r n : ℕ) (a : Bool) → n ≡ count_r t → n ≤ r → true ≡ (not (ltb r (count_r t)) || a)
level_free t r n a p h = rw (← p, le-ltb r n h) refl

resources_are : (t : List ℕ) → (station t).resources ≡ count_r t
unfolding station_of
resources_are t = refl

pub powered_starts : (t : List ℕ) (x set : ℕ)
    → every_in (λ r. leb x ((station t).resource r).level) set (count_r t) ≡ powered_in (station t) x set
unfolding powered_in every_in
powered_starts t x set = rw (resources_are t) refl

pub wake_set : (s : Station) (d x set : ℕ) (b : Bool) → b ≡ powered_in s x set → set ≡ (s.device d).sets 4 → b ≡ wake_powered s d x
wake_set s d x set b e p = e ∙ ap (powered_in s x) p

-- ---- the device state, and the pair
module _ (s : Station) (d x y : ℕ) where
  pub state_told : (a b : ℕ) (u v : Bool) → u ≡ supported s d y → not u ≡ false → a ≡ (s.device d).sxd x → b ≡ (s.device d).sxw x
      → v ≡ wake_range a b y → v ≡ wake_state s d x y
  unfolding wake_state
  state_told a b u v e t p q r = rw (sym e ∙ not-false u t, ← p, ← q) r

  pub state_unsupported : (u : Bool) → u ≡ supported s d y → not u ≡ true → false ≡ wake_state s d x y
  unfolding wake_state
  state_unsupported u e t = rw (sym e ∙ not-true u t)

  -- v is whether the first two hold, of which the second is asked only after the first
  pub pair_sleep : (u v : Bool) → u ≡ wake_from s d x → u ≡ false → v ≡ u → v ≡ wake_pair s d x y
  unfolding wake_pair
  pair_sleep u v e t q = q ∙ t ∙ rw (sym e ∙ t) refl

  pub pair_unpowered : (u p v : Bool) → u ≡ wake_from s d x → u ≡ true → p ≡ wake_powered s d x → v ≡ p → v ≡ false → v ≡ wake_pair s d x y
  unfolding wake_pair
  pair_unpowered u p v e t f q n = n ∙ rw (sym e ∙ t, sym f ∙ sym q ∙ n) refl

  pub pair_told : (u p v w : Bool) → u ≡ wake_from s d x → u ≡ true → p ≡ wake_powered s d x → v ≡ p → v ≡ true → w ≡ wake_state s d x y
      → w ≡ wake_pair s d x y
  unfolding wake_pair
  pair_told u p v w e t f q h r = rw (sym e ∙ t, sym f ∙ sym q ∙ h) r

pub ruleset wake_laws = (from_told, from_none, level_told, level_free, state_told, state_unsupported, pair_sleep, pair_unpowered, pair_told)
