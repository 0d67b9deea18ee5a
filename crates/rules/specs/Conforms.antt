-- RULES.md 7, which lists conform: said on its own, apart from how a checker would test it.
use Rattle.std.specs.Prelude.{ℕ, ◌+◌, ◌≤◌, ◌≡◌, Bool, cond, List, [], ◌∷◌, map, eqb}
use Rattle.sets.specs.Sets.{member}
use Rattle.rules.specs.declared.Call.{Call}
use Rattle.rules.specs.declared.Request.{Request}
use Rattle.rules.specs.Station.{Station}
use Rattle.rules.specs.Status.{Status}
use Rattle.rules.specs.Calls.{word_of, own_calls, own_last, end_set, to_turn_on, to_turn_off, order_in, arrange}

-- how often r stands in a list
unfoldable pub times : ℕ → List ℕ → ℕ
times r [] = 0
times r (x ∷ l) = cond (eqb x r) 1 0 + times r l

-- the list has each member of the set once, and nothing else
unfoldable pub EachOnce : ℕ → List ℕ → Type 0
EachOnce m l = (r : ℕ) → times r l ≡ cond (member m r) 1 0

-- each order is at most the next; at least the next
unfoldable pub Rises : (ℕ → ℕ) → List ℕ → Type 0
Rises order [] = Unit {0}
Rises order (x ∷ []) = Unit {0}
Rises order (x ∷ y ∷ l) = (order x ≤ order y) × Rises order (y ∷ l)

unfoldable pub Falls : (ℕ → ℕ) → List ℕ → Type 0
Falls order [] = Unit {0}
Falls order (x ∷ []) = Unit {0}
Falls order (x ∷ y ∷ l) = (order y ≤ order x) × Falls order (y ∷ l)

-- the own calls and exactly the calls from an on-set to a target set, each once, in their order, equal orders in any sequence
pub record Conforms (s : Station) (own : List Call) (last : Bool) (on target : ℕ) (words : List ℕ) : Type 0 where
  pub ons : List ℕ
  pub offs : List ℕ
  pub whole : words ≡ map word_of (arrange last own ons offs)
  pub ons_once : EachOnce (to_turn_on on target) ons
  pub offs_once : EachOnce (to_turn_off on target) offs
  pub ons_rise : Rises (order_in s) ons
  pub offs_fall : Falls (order_in s) offs

-- a list conforms to a request: its own call, and the calls from the on-set to what is needed after it
abbrev pub ConformsTo : Station → Status → Request → List ℕ → Type 0
ConformsTo s st q = Conforms s (own_calls s st q) (own_last q) st.on (end_set s st.entries q)
