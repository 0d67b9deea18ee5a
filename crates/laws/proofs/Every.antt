-- A loop that asks whether every number below n has a property, and stops at the first that has not; what `every` is by its parts; and
-- that `least`, `every` and `lowest` are the same of what is the same below n.
use mathlib.Core.Path.{◌≡◌, refl, sym, ap, ◌∙◌}
use mathlib.Core.Bool.{Bool, true, false, not, ◌&&◌}
use mathlib.Core.Logic.{⊎_elim}
use Prim.Native.Nat.{ℕ, zero, suc, ◌+◌, ◌-◌, ◌≤◌, ◌<◌}
use native.Mathlib.Nat.{eq-or-lt_of_le, suc-add}
use native.Mathlib.Omega.{arith}
use borrow.Author.Tests.{le-leb, lt-leb, ltb-true}
use lib.Dec.{leb, ltb}
use Rattle.sets.proofs.Laws.{decide}
use Rattle.rules.specs.Verdict.{Verdict}
use Rattle.rules.specs.Index.{least_from, least, every}
use Rattle.rules.specs.Answers.{lowest}
use Rattle.laws.proofs.Tests.{both_true, and-true}
use Rattle.rules.proofs.Index.{starts, found, next, done, every_at, every_of_lem}

-- every number from i to n - 1 has the property
unfoldable pub every_from : (ℕ → Bool) → ℕ → ℕ → Bool
every_from f i n = leb n (least_from (λ j. not (f j)) i (n - i))

-- the loop is at i and is to answer v; b is what the test returned
module _ (f : ℕ → Bool) where
  pub every_starts : (n : ℕ) → every_from f 0 n ≡ every f n
  unfolding every_from every
  every_starts n = ap (leb n) (starts (λ j. not (f j)) n)

  pub every_next : (i n : ℕ) (v b : Bool) → every_from f i n ≡ v → i < n → b ≡ f i → b ≡ true → every_from f (i + 1) n ≡ v
  unfolding every_from
  every_next i n v b inv h e t = ap (leb n) (next (λ j. not (f j)) i n _ (not b) refl h (ap not e) (ap not t)) ∙ inv

  pub every_stops : (i n : ℕ) (v b : Bool) → every_from f i n ≡ v → i < n → b ≡ f i → b ≡ false → false ≡ v
  unfolding every_from
  every_stops i n v b inv h e t =
      sym (lt-leb n i h) ∙ ap (leb n) (found (λ j. not (f j)) i n _ (not b) refl h (ap not e) (ap not t)) ∙ inv

  pub every_done : (i n : ℕ) (v : Bool) → every_from f i n ≡ v → n ≤ i → true ≡ v
  unfolding every_from
  every_done i n v inv h = sym (le-leb n i h) ∙ ap (leb n) (done (λ j. not (f j)) i n _ refl h) ∙ inv

-- two tests, each passed where the other is, are one
pub same_test : (a b : Bool) → (a ≡ true → b ≡ true) → (b ≡ true → a ≡ true) → a ≡ b
same_test true b f g = sym (f refl)
same_test false true f g = g refl
same_test false false f g = refl

-- one number more
pub every_suc : (f : ℕ → Bool) (n : ℕ) → every f (n + 1) ≡ every f n && f n
every_suc f n =
    same_test (every f (n + 1)) (every f n && f n)
    (λ e. and-true (every f n) (f n) (every_of_lem f n (λ i l. every_at f (n + 1) i e (omega arith))) (every_at f (n + 1) n e (omega arith)))
    (λ e. let a = both_true (every f n) (f n) e in
    every_of_lem f (n + 1) (λ i l. ⊎_elim (λ q. rw q a.1) (λ m. every_at f n i a.0 m) (eq-or-lt_of_le {n = i} {m = n} (omega arith))))

-- ---- what is the same below n
pub least_ext : (f g : ℕ → Bool) (i k : ℕ) → ((j : ℕ) → i ≤ j → j < i + k → f j ≡ g j) → least_from f i k ≡ least_from g i k
unfolding least_from
least_ext f g i zero h = refl
least_ext f g i (suc k) h =
    let rest = least_ext f g (suc i) k (λ j a b. h j (omega arith) (omega arith)) in
    let same = h i (omega arith) (omega arith) in
    decide (g i) (λ e. rw (same ∙ e, e, least_from) refl) (λ e. rw (same ∙ e, e, least_from) rest)

-- numbers past the first hit do not count
least_cut : (f : ℕ → Bool) (i k j : ℕ) → (0 < j → f (i + k) ≡ true) → least_from f i (k + j) ≡ least_from f i k
unfolding least_from
least_cut f i zero zero h = refl
least_cut f i zero (suc j) h =
    let e : i + 0 ≡ i = omega arith in
    let n : 0 + suc j ≡ suc j = omega arith in
    rw (n, rw e at (h (omega arith)), least_from) refl
least_cut f i (suc k) j h =
    let e : suc i + k ≡ i + suc k = omega arith in
    let rest = least_cut f (suc i) k j (λ z. rw e (h z)) in
    rw (suc-add k j) (decide (f i) (λ g. rw (g, least_from) refl) (λ g. rw (g, least_from) rest))

-- where f and g agree below n, and f has n itself if it goes on past it
pub least_part : (f g : ℕ → Bool) (n m : ℕ) → ((i : ℕ) → i < n → f i ≡ g i) → n ≤ m → (n < m → f n ≡ true) → least g n ≡ least f m
least_part f g n m h l c =
    let all : n + (m - n) ≡ m = omega arith in
    let z : 0 + n ≡ n = omega arith in
    sym (least_ext f g 0 n (λ i a b. h i (omega arith))) ∙ sym (least_cut f 0 n (m - n) (λ u. rw z (c (omega arith)))) ∙ ap (least f) all

pub every_ext : (f g : ℕ → Bool) (n : ℕ) → ((i : ℕ) → i < n → f i ≡ g i) → every f n ≡ every g n
unfolding every
every_ext f g n h = ap (leb n) (least_ext (λ i. not (f i)) (λ i. not (g i)) 0 n (λ i a b. ap not (h i (omega arith))))

pub lowest_ext : (f g : ℕ → Bool) (n : ℕ) (p q : ℕ → Verdict) → ((i : ℕ) → i < n → f i ≡ g i) → ((i : ℕ) → i < n → p i ≡ q i)
    → lowest f n p ≡ lowest g n q
unfolding lowest
lowest_ext f g n p q h k =
    let i = least g n in
    rw (least_ext f g 0 n (λ j a b. h j (omega arith)))
    (decide (ltb i n) (λ e. rw e (k i (ltb-true i n e))) (λ e. rw e refl))

pub ruleset every_of = (every_starts, every_next, every_stops, every_done)
