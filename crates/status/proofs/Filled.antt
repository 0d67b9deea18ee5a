-- A list that a loop fills from its start with the values of a function, one after the other; and what then stands there.
use mathlib.Core.Path.{◌≡◌, refl, sym, ap, ◌∙◌}
use mathlib.Core.List.{List, [], ◌∷◌, ◌++◌}
use Prim.Native.Nat.{ℕ, zero, suc, ◌+◌, ◌≤◌, ◌<◌}
use native.Mathlib.Nat.{add-zero, zero-add}
use native.Mathlib.Numerals.{add-one}
use native.Mathlib.Omega.{arith}
use lib.ListN.{length, get_or, set}
use Rattle.words.specs.Words.{put}
use Rattle.words.proofs.Put.{put_none, put_one, length_put}
use Rattle.rules.specs.Index.{each_from, each}
use Rattle.laws.proofs.Parts.{get_each, each_length}

-- one value more, at the end
each_more : (f : ℕ → ℕ) (i k : ℕ) → each_from f i (suc k) ≡ each_from f i k ++ f (i + k) ∷ []
unfolding each_from
each_more f i zero = rw (add-zero i) refl
each_more f i (suc k) =
    let next : suc i + k ≡ i + suc k = omega arith in
    ap (λ (l : List ℕ). f i ∷ l) (each_more f (suc i) k ∙ rw next refl)

module _ (f : ℕ → ℕ) (d : List ℕ) where
  pub filled_none : d ≡ put d 0 (each f 0)
  unfolding each_from
  filled_none = sym (put_none d 0)

  pub filled_next : (l : List ℕ) (i n y : ℕ) → l ≡ put d 0 (each f i) → i < n → n ≤ length d → y ≡ f i
      → set l i y ≡ put d 0 (each f (i + 1))
  filled_next l i n y e h room v =
      let long = each_length f 0 i in
      let at : 0 + length (each f i) ≡ i = omega (arith, long) in
      let one = put_one d 0 (each f i) (f i) (omega (arith, long)) in
      let more : each f i ++ f i ∷ [] ≡ each f (i + 1) =
      rw (add-one i) (sym (each_more f 0 i ∙ ap (λ (k : ℕ). each f i ++ f k ∷ []) (zero-add i))) in
      rw (e, v) ((rw at at one) ∙ ap (put d 0) more)

  -- it keeps its length, and the value of each number stands at it
  pub filled_long : (l : List ℕ) (n : ℕ) → l ≡ put d 0 (each f n) → n ≤ length d → length l ≡ length d
  filled_long l n e h = ap length e ∙ length_put d 0 (each f n) (omega (arith, each_length f 0 n))

  pub filled_at : (l : List ℕ) (n k : ℕ) → l ≡ put d 0 (each f n) → k < n → get_or l k 0 ≡ f k
  unfolding put
  filled_at l n k e h = rw e (get_each f _ 0 n k h ∙ ap f (zero-add k))
