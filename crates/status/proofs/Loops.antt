-- A loop that looks for the lowest number below n that breaks a rule: what it keeps, and the answer that it comes to.
use mathlib.Core.Path.{◌≡◌, refl, sym, ap}
use mathlib.Core.Bool.{Bool, true, false, not}
use Prim.Native.Nat.{ℕ, ◌+◌, ◌-◌, ◌≤◌, ◌<◌}
use native.Mathlib.Omega.{arith}
use borrow.Author.Tests.{le-ltb}
use Rattle.rules.specs.Verdict.{Verdict}
use Rattle.std.specs.Prelude.{Ok}
use Rattle.rules.specs.Index.{least_from, least}
use Rattle.rules.specs.Answers.{lowest}
use Rattle.rules.proofs.Index.{starts, found, next, done}
use Rattle.rules.proofs.Answers.{lowest_stop}

-- the loop is at i: the lowest number below n that breaks the rule is the lowest from i on
abbrev pub Looking : (ℕ → Bool) → ℕ → ℕ → Type 0
Looking good n i = least_from (λ j. not (good j)) i (n - i) ≡ least (λ j. not (good j)) n

module _ (good : ℕ → Bool) (n : ℕ) where
  pub look_starts : Looking good n 0
  look_starts = starts (λ j. not (good j)) n

  -- one more keeps the rule; b is what the test returned
  pub look_next : (i : ℕ) (b : Bool) → Looking good n i → i < n → b ≡ good i → not b ≡ false → Looking good n (i + 1)
  look_next i b inv h e t = next (λ j. not (good j)) i n _ (not b) inv h (ap not e) t

  -- one breaks it
  pub lowest_found : (i : ℕ) (b : Bool) (refusal : ℕ → Verdict) → Looking good n i → i < n → b ≡ good i → not b ≡ true
      → refusal i ≡ lowest (λ j. not (good j)) n refusal
  lowest_found i b refusal inv h e t = sym (lowest_stop (λ j. not (good j)) n i refusal
      (found (λ j. not (good j)) i n _ (not b) inv h (ap not e) t) h)

  -- none does
  pub lowest_all : (i : ℕ) (refusal : ℕ → Verdict) → Looking good n i → n ≤ i → Ok 0 ≡ lowest (λ j. not (good j)) n refusal
  unfolding lowest
  lowest_all i refusal inv h = rw (le-ltb (least (λ j. not (good j)) n) n (omega (arith, done (λ j. not (good j)) i n _ inv h))) refl

pub ruleset looks = (look_starts, look_next)
