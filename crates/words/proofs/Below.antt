-- Lists whose elements are all below b, said as `(i : ℕ) → get_or s i 0 < b`: of bytes b is 256, of words 2 ^ 32.
use mathlib.Core.List.{List, [], ◌∷◌, ◌++◌}
use Prim.Native.Nat.{ℕ, zero, suc, ◌+◌, ◌<◌}
use native.Mathlib.Omega.{arith}
use lib.ListN.{get_or, take, drop}
use lib.Seq.{get_or-drop}

pub below_cons : (b a : ℕ) (s : List ℕ) → a < b → ((i : ℕ) → get_or s i 0 < b) → (i : ℕ) → get_or (a ∷ s) i 0 < b
below_cons b a s ha hs zero = ha
below_cons b a s ha hs (suc i) = hs i

pub below_append : (b : ℕ) (p q : List ℕ) → ((i : ℕ) → get_or p i 0 < b) → ((i : ℕ) → get_or q i 0 < b) → (i : ℕ) → get_or (p ++ q) i 0 < b
below_append b [] q hp hq = hq
below_append b (a ∷ p) q hp hq = below_cons b a (p ++ q) (hp 0) (below_append b p q (λ i. hp (suc i)) hq)

pub below_take : (b n : ℕ) (s : List ℕ) → ((i : ℕ) → get_or s i 0 < b) → (i : ℕ) → get_or (take n s) i 0 < b
below_take b zero s h = λ i. omega (arith, h i)
below_take b (suc n) [] h = h
below_take b (suc n) (a ∷ s) h = below_cons b a (take n s) (h 0) (below_take b n s (λ i. h (suc i)))

pub below_drop : (b n : ℕ) (s : List ℕ) → ((i : ℕ) → get_or s i 0 < b) → (i : ℕ) → get_or (drop n s) i 0 < b
below_drop b n s h i = rw (get_or-drop n s i 0) (h (n + i))
