-- What a list that conforms has, part by part, and short lists that rise, fall, repeat or do not. That the planner's list conforms, and
-- that the checker's test says the same, is proved in crates/laws.
use mathlib.Core.Path.{◌≡◌, refl}
use mathlib.Core.Bool.{Bool, true, false}
use mathlib.Core.List.{List, [], ◌∷◌, ◌++◌, map}
use Prim.Native.Nat.{ℕ, ◌≤◌}
use native.Mathlib.Omega.{arith}
use Rattle.sets.specs.Sets.{member, minus}
use Rattle.rules.specs.declared.Call.{Call}
use Rattle.rules.specs.declared.Call.TheVariants.{ResourceOn, ResourceOff}
use Rattle.rules.specs.Station.{Station}
use Rattle.rules.specs.Calls.{word_of, to_turn_on, to_turn_off, order_in, arrange}
use Rattle.rules.specs.Conforms.{times, EachOnce, Rises, Falls, Conforms}

-- ---- how often
pub twice : times 1 (1 ∷ 0 ∷ 1 ∷ []) ≡ 2
unfolding times
twice = refl

-- ---- each member of {0, 2} once, and no other
module _ (l : List ℕ) (e : EachOnce 0b101 l) where
  pub once_in : (times 0 l ≡ 1) × (times 2 l ≡ 1)
  unfolding EachOnce member
  once_in = (e 0, e 2)

  pub none_out : (times 1 l ≡ 0) × (times 3 l ≡ 0)
  unfolding EachOnce member
  none_out = (e 1, e 3)

-- ---- rising and falling orders, equal ones among them
pub rises : Rises (λ r. r) (0 ∷ 1 ∷ 1 ∷ 2 ∷ [])
unfolding Rises
rises = (omega arith, (omega arith, (omega arith, tt)))

pub falls : Falls (λ r. r) (2 ∷ 1 ∷ 1 ∷ 0 ∷ [])
unfolding Falls
falls = (omega arith, (omega arith, (omega arith, tt)))

pub not_rising : Rises (λ r. r) (0 ∷ 2 ∷ 1 ∷ []) → ⊥
unfolding Rises
not_rising h = let l : 2 ≤ 1 = h.1.0 in omega arith

pub not_falling : Falls (λ r. r) (2 ∷ 0 ∷ 1 ∷ []) → ⊥
unfolding Falls
not_falling h = let l : 1 ≤ 0 = h.1.0 in omega arith

-- ---- the parts of a list that conforms
module _ (s : Station) (own : List Call) (last : Bool) (on target : ℕ) (words : List ℕ) (c : Conforms s own last on target words) where
  pub own_last_words : last ≡ true → words ≡ map word_of (map ResourceOn c.ons ++ map ResourceOff c.offs ++ own)
  unfolding arrange
  own_last_words e = rw e at c.whole

  pub own_first_words : last ≡ false → words ≡ map word_of (own ++ map ResourceOn c.ons ++ map ResourceOff c.offs)
  unfolding arrange
  own_first_words e = rw e at c.whole

  pub ons_are_lem : EachOnce (minus target on) c.ons × Rises (order_in s) c.ons
  unfolding to_turn_on
  ons_are_lem = (c.ons_once, c.ons_rise)

  pub offs_are_lem : EachOnce (minus on target) c.offs × Falls (order_in s) c.offs
  unfolding to_turn_off
  offs_are_lem = (c.offs_once, c.offs_fall)
