-- Chains over numbers and over bytes: what `find` and `all` answer by the test f that the closure p computes. A call leaves p as it was.
use mathlib.Core.Path.{◌≡◌, refl, sym, ◌∙◌}
use mathlib.Core.Bool.{Bool, true, false, true≢false}
use mathlib.Core.List.{List}
use Prim.Native.Nat.{ℕ, ◌-◌, ◌≤◌, ◌<◌}
use borrow.Author.Tests.{ltb-true, ltb-false}
use native.Mathlib.Omega.{arith}
use lib.Dec.{ltb}
use lib.ListN.{length, get_or, take}
use denote.Ref.{Bor}
use Rattle.std.specs.Prelude.{Option, Some, None, MatchOption}
use Rattle.std.specs.Bool.{MatchBool}
use Rattle.std.specs.Fn.{Mut, Called, CalledAt}
use Rattle.std.specs.Iterator.{FindsItem, ChecksAll}
use Rattle.std.specs.List.{range_with_len, AllWithin, HoldsAt}
use Rattle.std.specs.Option.{unwrap_or}
use Rattle.std.specs.Slice.Iter.{iter_rest}
use Rattle.std.specs.declared.ops.Range.{Range}
use Rattle.std.specs.declared.slice.Iter.{Iter}
use Rattle.std.proofs.iter.Yields.{nat_range_steps, fronts}
use Rattle.std.proofs.lemmas.Iterator.{first_from_Range, cases_from_all, YieldsList-from_range, YieldsList-from_slice}
use Rattle.std.proofs.lemmas.List.{get_or-take, length-take-le}
use Rattle.std.proofs.lemmas.List.FromFn.{length-range_with_len, get_or-range_with_len}
use Rattle.sets.proofs.Laws.{decide}
use Rattle.rules.specs.Index.{least, least_option, every}
use Rattle.rules.proofs.Index.{no_hit, some_least, no_least, every_at, every_of_lem}
use Rattle.laws.proofs.Every.{same_test, least_part}

-- the least number that passes a test, where none below y does: y, if it passes or is the end
least_is : (f : ℕ → Bool) (n y : ℕ) → y ≤ n → (y < n → f y ≡ true) → ((k : ℕ) → k < y → f k ≡ false) → y ≡ least f n
least_is f n y h e none = sym (no_hit f 0 y (λ j a b. none j (omega arith)) ∙ omega arith) ∙ least_part f f y n (λ i l. refl) h e

-- ---- `find` over the numbers of a range, whose end is n
module _ {F : Type 0} {g : Mut F (Bor ℕ × Unit {0}) Bool} (f : ℕ → Bool) (s u : Range ℕ) (p : F) (n : ℕ) (r : Option ℕ)
    (d : FindsItem nat_range_steps g s p r u) (high : s.end ≡ n)
    (is : (x : ℕ) (b : Bool) (q : F) → CalledAt g p x b q → (q ≡ p) × (s.start ≤ x → x < n → b ≡ f x)) where
  find_in : MatchOption r ((k : ℕ) → s.start ≤ k → k < n → f k ≡ false)
      (λ i. (s.start ≤ i) × (i < n) × (f i ≡ true) × ((k : ℕ) → s.start ≤ k → k < i → f k ≡ false))
  find_in =
      by r (first_from_Range s u p r (λ i. s.start ≤ i → i < n → f i ≡ true) (λ i. s.start ≤ i → i < n → f i ≡ false) d
      (λ x q k l m. sym ((is x true q k).1 l m)) (λ x q k. let a = is x false q k in (a.0, λ l m. sym (a.1 l m))))
    where
      by : (r : Option ℕ) → MatchOption r ((k : ℕ) → s.start ≤ k → k < s.end → s.start ≤ k → k < n → f k ≡ false)
          (λ i. (s.start ≤ i) × (i < s.end) × (s.start ≤ i → i < n → f i ≡ true)
          × ((k : ℕ) → s.start ≤ k → k < i → s.start ≤ k → k < n → f k ≡ false))
          → MatchOption r ((k : ℕ) → s.start ≤ k → k < n → f k ≡ false)
          (λ i. (s.start ≤ i) × (i < n) × (f i ≡ true) × ((k : ℕ) → s.start ≤ k → k < i → f k ≡ false))
      by None h = λ k a l. h k a (omega (arith, high)) a l
      by (Some i) h = let l : i < n = omega (arith, h.1, high) in (h.0, l, h.2 h.0 l, λ k a m. h.3 k a m a (omega arith))

  -- from 0 on
  pub find_below : s.start ≡ 0 → r ≡ least_option f n
  find_below low = by r find_in
    where
      by : (r : Option ℕ) → MatchOption r ((k : ℕ) → s.start ≤ k → k < n → f k ≡ false)
          (λ i. (s.start ≤ i) × (i < n) × (f i ≡ true) × ((k : ℕ) → s.start ≤ k → k < i → f k ≡ false)) → r ≡ least_option f n
      by None h =
          no_least f n n (least_is f n n (omega arith) (λ l. absurd (omega arith)) (λ k l. h k (omega (arith, low)) l)) (omega arith)
      by (Some i) h =
          some_least f n i (least_is f n i (omega (arith, h.1)) (λ l. h.2) (λ k l. h.3 k (omega (arith, low)) l)) h.1

  -- n where there is none, and f has none below the range
  pub find_or_end : ((k : ℕ) → k < s.start → f k ≡ false) → (y : ℕ) → y ≡ unwrap_or r n → y ≡ least f n
  find_or_end none y e = e ∙ by r find_in
    where
      up : (k : ℕ) → (s.start ≤ k → f k ≡ false) → f k ≡ false
      up k h = decide (ltb k s.start) (λ e. none k (ltb-true k s.start e)) (λ e. h (ltb-false k s.start e))

      by : (r : Option ℕ) → MatchOption r ((k : ℕ) → s.start ≤ k → k < n → f k ≡ false)
          (λ i. (s.start ≤ i) × (i < n) × (f i ≡ true) × ((k : ℕ) → s.start ≤ k → k < i → f k ≡ false)) → unwrap_or r n ≡ least f n
      by None h = least_is f n n (omega arith) (λ l. absurd (omega arith)) (λ k l. up k (λ a. h k a l))
      by (Some i) h = least_is f n i (omega (arith, h.1)) (λ l. h.2) (λ k l. up k (λ a. h.3 k a l))

-- ---- `all`
all_is : (f : ℕ → Bool) (n : ℕ) (r : Bool) → MatchBool r ((k : ℕ) → k < n → f k ≡ true) ((k : ℕ) × (k < n) × (f k ≡ false)) → r ≡ every f n
all_is f n true h = sym (every_of_lem f n h)
all_is f n false h = same_test false (every f n) (λ e. absurd (true≢false (sym e))) (λ e. absurd (true≢false (sym (every_at f n h.0 e h.1) ∙ h.2)))

-- over the numbers below n
pub all_below : {F : Type 0} {g : Mut F (ℕ × Unit {0}) Bool} (f : ℕ → Bool) (s u : Range ℕ) (p : F) (n : ℕ) (r : Bool)
    → ChecksAll nat_range_steps g s p r u → s.end ≡ n → ((x : ℕ) (b : Bool) (q : F) → Called g p (x, tt) b q → (q ≡ p) × (x < n → b ≡ f x))
    → s.start ≡ 0 → r ≡ every f n
all_below f s u p n r d high is low =
    all_is f n r (by r (cases_from_all u p r (λ i. i < n → f i ≡ true) (λ i. i < n → f i ≡ false) d
    (YieldsList-from_range s.start s.end (s.end - s.start) refl refl)
    (λ x q k. let a = is x true q k in (a.0, λ l. sym (a.1 l))) (λ x q k l. sym ((is x false q k).1 l))))
  where
    all : List ℕ
    all = range_with_len s.start (s.end - s.start)

    long : length all ≡ n
    long = length-range_with_len s.start (s.end - s.start) ∙ omega (arith, low, high)

    at : (k : ℕ) → k < n → get_or all k 0 ≡ k
    at k l = get_or-range_with_len s.start (s.end - s.start) k 0 (omega (arith, low, high)) ∙ omega (arith, low)

    by : (r : Bool) → MatchBool r (AllWithin (λ i. i < n → f i ≡ true) all 0 (length all))
        ((k : ℕ) × (k < length all) × HoldsAt (λ i. i < n → f i ≡ false) all k)
        → MatchBool r ((k : ℕ) → k < n → f k ≡ true) ((k : ℕ) × (k < n) × (f k ≡ false))
    by true h = λ k l. rw (at k l) at (h k 0 (omega arith) (omega (arith, long))) l
    by false h = let l : h.0 < n = omega (arith, h.1, long) in (h.0, l, rw (at h.0 l) at (h.2 0) l)

-- over the first n of the bytes xs, each of which the closure is lent
pub all_bytes : {F : Type 0} {g : Mut F (Bor ℕ × Unit {0}) Bool} (f : ℕ → Bool) (s u : Iter ℕ) (p : F) (n : ℕ) (xs : List ℕ) (r : Bool)
    → ChecksAll fronts g s p r u → iter_rest s ≡ take n xs → n ≤ length xs
    → ((x : Bor ℕ) (b : Bool) (q : F) → Called g p (x, tt) b q → (q ≡ p) × (b ≡ f x.now)) → r ≡ every (λ i. f (get_or xs i 0)) n
all_bytes f s u p n xs r d e h is =
    all_is _ n r (by r (cases_from_all u p r (λ y. f y ≡ true) (λ y. f y ≡ false) d (YieldsList-from_slice (take n xs) e)
    (λ x q k. let a = is x true q k in (a.0, sym a.1)) (λ x q k. sym (is x false q k).1)))
  where
    long : length (take n xs) ≡ n
    long = length-take-le n xs h

    by : (r : Bool) → MatchBool r (AllWithin (λ y. f y ≡ true) (take n xs) 0 (length (take n xs)))
        ((k : ℕ) × (k < length (take n xs)) × HoldsAt (λ y. f y ≡ false) (take n xs) k)
        → MatchBool r ((k : ℕ) → k < n → f (get_or xs k 0) ≡ true) ((k : ℕ) × (k < n) × (f (get_or xs k 0) ≡ false))
    by true a = λ k l. rw (get_or-take n xs k 0 l) at (a k 0 (omega arith) (omega (arith, long)))
    by false a = let l : a.0 < n = omega (arith, a.1, long) in (a.0, l, rw (get_or-take n xs a.0 0 l) at (a.2 0))
