-- The laws of numbered things: what `least` and `every` say, what a loop over them cites, and the values that `below` and `each` give.
use mathlib.Core.Path.{◌≡◌, refl, sym, ap, ◌∙◌}
use mathlib.Core.Logic.{◌⊎◌, inl, inr}
use mathlib.Core.Bool.{Bool, true, false, not}
use Prim.Native.Nat.{ℕ, zero, suc, ◌+◌, ◌-◌, ◌≤◌, ◌<◌}
use native.Mathlib.Nat.{sub-eq-zero_of_le, sub-zero, eq-or-lt_of_le}
use native.Mathlib.Numerals.{add-one}
use native.Mathlib.Omega.{arith}
use borrow.Author.Tests.{leb-true, le-leb, ltb-true, ltb-false, lt-ltb, le-ltb, not-false}
use lib.Dec.{ltb}
use Rattle.std.specs.Prelude.{Some, None}
use Rattle.std.proofs.lemmas.Option.{none-some, same_Some}
use Rattle.rules.specs.Index.{least_from, least, least_option, every, below}

module _ (f : ℕ → Bool) where
  stops : (i k : ℕ) → f i ≡ true → least_from f i (suc k) ≡ i
  unfolding least_from
  stops i k e = rw (e, least_from) refl

  passes_by : (i k : ℕ) → f i ≡ false → least_from f i (suc k) ≡ least_from f (suc i) k
  unfolding least_from
  passes_by i k e = rw (e, least_from) refl

  -- ---- for a loop that is at i, has n - i to go, and is to answer v; b is what the test returned
  pub starts : (n : ℕ) → least_from f 0 (n - 0) ≡ least f n
  starts n = rw sub-zero refl

  pub found : (i n v : ℕ) (b : Bool) → least_from f i (n - i) ≡ v → i < n → b ≡ f i → b ≡ true → i ≡ v
  found i n v b inv h e t = sym (ap (least_from f i) (omega arith) ∙ stops i (n - suc i) (sym e ∙ t)) ∙ inv

  pub next : (i n v : ℕ) (b : Bool) → least_from f i (n - i) ≡ v → i < n → b ≡ f i → b ≡ false → least_from f (i + 1) (n - (i + 1)) ≡ v
  next i n v b inv h e t = sym (ap (least_from f i) (omega arith) ∙ passes_by i (n - suc i) (sym e ∙ t) ∙ rw add-one refl) ∙ inv

  pub done : (i n v : ℕ) → least_from f i (n - i) ≡ v → n ≤ i → i ≡ v
  unfolding least_from
  done i n v inv h = sym (ap (least_from f i) (sub-eq-zero_of_le h)) ∙ inv

  -- ---- what it means: at most the end, a hit before the end, and none below it
  pub at_most : (i k : ℕ) → least_from f i k ≤ i + k
  unfolding least_from
  at_most i zero = omega arith
  at_most i (suc k) = go (f i) refl (at_most (suc i) k)
    where
      go : (b : Bool) → f i ≡ b → least_from f (suc i) k ≤ suc i + k → least_from f i (suc k) ≤ i + suc k
      go true e l = rw (stops i k e) (omega arith)
      go false e l = rw (passes_by i k e) (omega arith)

  pub hit : (i k : ℕ) → least_from f i k < i + k → f (least_from f i k) ≡ true
  unfolding least_from
  hit i zero h = absurd (omega arith)
  hit i (suc k) h = go (f i) refl (hit (suc i) k) h
    where
      go : (b : Bool) → f i ≡ b → (least_from f (suc i) k < suc i + k → f (least_from f (suc i) k) ≡ true)
          → least_from f i (suc k) < i + suc k → f (least_from f i (suc k)) ≡ true
      go true e l h = rw (stops i k e) e
      go false e l h = rw (passes_by i k e) (l (omega (arith, passes_by i k e)))

  pub none_below : (i k j : ℕ) → i ≤ j → j < least_from f i k → f j ≡ false
  unfolding least_from
  none_below i zero j l h = absurd (omega arith)
  none_below i (suc k) j l h = go (f i) refl (none_below (suc i) k j) (eq-or-lt_of_le l)
    where
      go : (b : Bool) → f i ≡ b → (suc i ≤ j → j < least_from f (suc i) k → f j ≡ false) → (i ≡ j) ⊎ (i < j) → f j ≡ false
      go true e r o = absurd (omega (arith, stops i k e))
      go false e r (inl q) = rw (← q) e
      go false e r (inr m) = r m (omega (arith, passes_by i k e))

  -- without a hit it is the end
  pub no_hit : (i k : ℕ) → ((j : ℕ) → i ≤ j → j < i + k → f j ≡ false) → least_from f i k ≡ i + k
  unfolding least_from
  no_hit i zero h = omega arith
  no_hit i (suc k) h =
      passes_by i k (h i (omega arith) (omega arith)) ∙ no_hit (suc i) k (λ j a b. h j (omega arith) (omega arith)) ∙ omega arith

pub ruleset lowest_of = (starts, found, next, done)

-- ---- the lowest as an option

module _ (f : ℕ → Bool) (n : ℕ) where
  pub some_least : (i : ℕ) → i ≡ least f n → i < n → Some i ≡ least_option f n
  unfolding least_option
  some_least i e h = rw (← e, lt-ltb i n h) refl

  pub no_least : (i : ℕ) → i ≡ least f n → n ≤ i → None ≡ least_option f n
  unfolding least_option
  no_least i e h = rw (← e, le-ltb i n h) refl

  pub least_of_some : (i : ℕ) → Some i ≡ least_option f n → (i ≡ least f n) × (i < n)
  unfolding least_option
  least_of_some i = go (ltb (least f n) n) refl
    where
      go : (b : Bool) → ltb (least f n) n ≡ b → Some i ≡ least_option f n → (i ≡ least f n) × (i < n)
      go true q e = let k : i ≡ least f n = same_Some i (least f n) (e ∙ rw q refl) in (k, rw k (ltb-true (least f n) n q))
      go false q e = absurd (none-some i (sym (e ∙ rw q refl)))

  pub least_of_none : None ≡ least_option f n → n ≤ least f n
  unfolding least_option
  least_of_none = go (ltb (least f n) n) refl
    where
      go : (b : Bool) → ltb (least f n) n ≡ b → None ≡ least_option f n → n ≤ least f n
      go true q e = absurd (none-some (least f n) (e ∙ rw q refl))
      go false q e = ltb-false (least f n) n q

-- ---- every

pub every_at : (f : ℕ → Bool) (n i : ℕ) → every f n ≡ true → i < n → f i ≡ true
unfolding every
every_at f n i e h = not-false (f i) (none_below (λ j. not (f j)) 0 n i (omega arith)
    (omega (arith, leb-true n (least (λ j. not (f j)) n) e)))

pub every_of_lem : (f : ℕ → Bool) (n : ℕ) → ((i : ℕ) → i < n → f i ≡ true) → every f n ≡ true
unfolding every
every_of_lem f n h =
    le-leb n (least (λ j. not (f j)) n) (omega (arith, no_hit (λ j. not (f j)) 0 n (λ j a b. ap not (h j (omega arith)))))

-- ---- below and each

pub below_in : {A : Type 0} (n : ℕ) (other : A) (f : ℕ → A) (i : ℕ) → i < n → below n other f i ≡ f i
unfolding below
below_in n other f i h = rw (lt-ltb i n h)

pub below_out : {A : Type 0} (n : ℕ) (other : A) (f : ℕ → A) (i : ℕ) → n ≤ i → below n other f i ≡ other
unfolding below
below_out n other f i h = rw (le-ltb i n h)
