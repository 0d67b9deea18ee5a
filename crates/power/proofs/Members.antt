-- A loop that asks whether every member of a set below n has a property, from one member to the next.
use mathlib.Core.Path.{◌≡◌, refl, sym, ◌∙◌}
use mathlib.Core.Bool.{Bool, true, false, not, ◌||◌, true≢false}
use Prim.Native.Nat.{ℕ, ◌≤◌, ◌<◌}
use native.Mathlib.Omega.{arith}
use borrow.Author.Tests.{eqb-true, eqb-false, ltb-true, lt-ltb, not-true, not-false}
use lib.Dec.{eqb, ltb}
use Rattle.sets.specs.Sets.{member, minus, single, Lowest}
use Rattle.sets.proofs.Laws.{decide, member_none, minus_single_same, minus_single_other, minus_single_lt}
use Rattle.rules.specs.Index.{every}
use Rattle.rules.proofs.Index.{every_at, every_of_lem}
use Rattle.laws.proofs.Every.{every_ext}

-- every member of the set that is below n has the property
unfoldable pub every_in : (ℕ → Bool) → ℕ → ℕ → Bool
every_in f set n = every (λ r. not (member set r) || f r) n

module _ (f : ℕ → Bool) (n : ℕ) (v : Bool) where
  pub in_done : (set : ℕ) → every_in f set n ≡ v → set ≤ 0 → true ≡ v
  unfolding every_in
  in_done set inv h =
      let z : set ≡ 0 = omega arith in
      sym (every_of_lem _ n (λ i l. rw (z, member_none i) refl)) ∙ inv

  -- r is the lowest member, and b is what the test of it returned
  module _ (set r : ℕ) (b : Bool) (inv : every_in f set n ≡ v) (low : Lowest set r) (q : b ≡ (not (ltb r n) || f r)) where
    m : member set r ≡ true
    m = low.inside

    told : r < n → b ≡ f r
    told l = rw (lt-ltb r n l) at q

    fails_below : b ≡ false → r < n
    fails_below t = decide (ltb r n) (ltb-true r n) (λ z. let passed : b ≡ true = rw z at q in absurd (true≢false (sym passed ∙ t)))

    pub in_stops : not b ≡ true → false ≡ v
    unfolding every_in
    in_stops t =
        let no = not-true b t in
        let l = fails_below no in
        decide (every (λ k. not (member set k) || f k) n)
        (λ e. let here : f r ≡ true = rw m at (every_at (λ k. not (member set k) || f k) n r e l) in
        absurd (true≢false (sym here ∙ sym (told l) ∙ no)))
        (λ e. sym e ∙ inv)

    pub in_next : (rest : ℕ) → not b ≡ false → rest ≡ minus set (single r) → every_in f rest n ≡ v
    unfolding every_in
    in_next rest t e =
        every_ext _ _ n
        (λ k l. rw e
        (decide (eqb k r)
        (λ z. let s : k ≡ r = eqb-true k r z in rw (s, minus_single_same set r, m, sym (told (rw s at l)) ∙ not-false b t) refl)
        (λ z. rw (minus_single_other set r k (eqb-false k r z)) refl)))
        ∙ inv

-- the number falls with each member that is taken out
pub in_less : (set r rest : ℕ) → Lowest set r → rest ≡ minus set (single r) → rest < set
in_less set r rest low e = rw e (minus_single_lt set r low.inside)

pub ruleset every_in_laws = (in_less, in_done, in_stops, in_next)
