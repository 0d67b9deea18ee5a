-- What holds of every element of a list, and how it passes to parts, joins and single elements.
use mathlib.Core.List.{List, [], ◌∷◌, ◌++◌, map}
use Prim.Native.Nat.{ℕ, zero, suc, ◌+◌, ◌≤◌, ◌<◌}
use native.Mathlib.Omega.{arith}
use borrow.Author.Tests.{eqb-true, eqb-false}
use lib.Dec.{eqb}
use lib.ListN.{length, get_or, take}
use Rattle.sets.proofs.Laws.{decide}
use Rattle.rules.specs.Index.{each_from}
use Rattle.laws.specs.Carried.{All}

module _ {A : Type 0} (P : A → Type 0) where
  pub all_append : (l r : List A) → All P l → All P r → All P (l ++ r)
  unfolding All
  all_append [] r a b = b
  all_append (x ∷ l) r a b = (a.0, all_append l r a.1 b)

  pub all_left : (l r : List A) → All P (l ++ r) → All P l
  unfolding All
  all_left [] r a = tt
  all_left (x ∷ l) r a = (a.0, all_left l r a.1)

  pub all_right : (l r : List A) → All P (l ++ r) → All P r
  unfolding All
  all_right [] r a = a
  all_right (x ∷ l) r a = all_right l r a.1

  pub all_take : (n : ℕ) (l : List A) → All P l → All P (take n l)
  unfolding All
  all_take zero l a = tt
  all_take (suc n) [] a = tt
  all_take (suc n) (x ∷ l) a = (a.0, all_take n l a.1)

  pub all_at : (l : List A) (n : ℕ) (d : A) → All P l → n < length l → P (get_or l n d)
  unfolding All
  all_at [] n d a h = absurd (omega arith)
  all_at (x ∷ l) zero d a h = a.0
  all_at (x ∷ l) (suc n) d a h = all_at l n d a.1 (omega arith)

pub all_map : {A B : Type 0} (P : B → Type 0) (f : A → B) (l : List A) → All (λ x. P (f x)) l → All P (map f l)
unfolding All
all_map P f [] a = tt
all_map P f (x ∷ l) a = (a.0, all_map P f l a.1)

pub all_imp : {A : Type 0} (P Q : A → Type 0) → ((x : A) → P x → Q x) → (l : List A) → All P l → All Q l
unfolding All
all_imp P Q g [] a = tt
all_imp P Q g (x ∷ l) a = (g x a.0, all_imp P Q g l a.1)

pub all_both : {A : Type 0} (P Q R : A → Type 0) → ((x : A) → P x → Q x → R x) → (l : List A) → All P l → All Q l → All R l
unfolding All
all_both P Q R g [] a b = tt
all_both P Q R g (x ∷ l) a b = (g x a.0 b.0, all_both P Q R g l a.1 b.1)

-- f's values at the numbers from i on
pub all_each : {A : Type 0} (P : A → Type 0) (f : ℕ → A) (i k : ℕ) → ((j : ℕ) → i ≤ j → j < i + k → P (f j)) → All P (each_from f i k)
unfolding All each_from
all_each P f i zero h = tt
all_each P f i (suc k) h = (h i (omega arith) (omega arith), all_each P f (suc i) k (λ j a b. h j (omega arith) (omega arith)))

pub each_at : {A : Type 0} (P : A → Type 0) (f : ℕ → A) (i k : ℕ) → All P (each_from f i k) → (j : ℕ) → i ≤ j → j < i + k → P (f j)
unfolding All each_from
each_at P f i zero a j g h = absurd (omega arith)
each_at P f i (suc k) a j g h =
    let rest = each_at P f (suc i) k a.1 j in
    decide (eqb i j) (λ e. rw (← eqb-true i j e) a.0) (λ e. rest (omega (arith, eqb-false i j e)) (omega arith))
