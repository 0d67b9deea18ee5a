-- What a device supports and needs, a law for each way that the code answers: from the tests on the way and what the readers of the table
-- gave.
use mathlib.Core.Path.{◌≡◌, refl, sym, ◌∙◌}
use mathlib.Core.Bool.{Bool, true, false, or-false, and-true, and-false}
use mathlib.Core.Logic.{◌⊎◌, ⊎_elim}
use Prim.Native.Nat.{ℕ, zero, suc, ◌-◌, ◌≤◌, ◌<◌}
use native.Mathlib.Omega.{arith}
use borrow.Author.Tests.{lt-ltb, le-ltb, eq-eqb, ne_eqb}
use lib.Dec.{eqb}
use Rattle.sets.specs.Sets.{member, union}
use Rattle.rules.specs.declared.Entry.{Entry}
use Rattle.rules.specs.Station.{Device, Station, has_ps, has_pr, has_prw}
use Rattle.rules.specs.Power.{supported, own_set, listed_set, state_needs, wake_needs, needs}

-- a bit of a mask, the mask read
pub bit_of : (m n x : ℕ) (b : Bool) → b ≡ member m x → m ≡ n → b ≡ member n x
bit_of m n x b e p = rw (← p) e

-- ---- supported states
module _ (s : Station) (d x : ℕ) where
  pub always : (x ≡ 0) ⊎ (x ≡ 3) → true ≡ supported s d x
  unfolding supported
  always h = ⊎_elim (λ e. rw (eq-eqb x 0 e)) (λ e. rw (ne_eqb x 0 (λ z. omega arith), eq-eqb x 3 e)) h

  pub by_ps : (b : Bool) → (x ≡ 0 → ⊥) → x < 3 → b ≡ has_ps (s.device d) x → b ≡ true → b ≡ supported s d x
  unfolding supported
  by_ps b n h e t = t ∙ rw (ne_eqb x 0 n, ne_eqb x 3 (λ q. omega arith), lt-ltb x 3 h, sym e ∙ t) refl

  pub by_pr : (b r : Bool) → (x ≡ 0 → ⊥) → x < 3 → b ≡ has_ps (s.device d) x → b ≡ false → r ≡ has_pr (s.device d) x → r ≡ supported s d x
  unfolding supported
  by_pr b r n h e t q =
      rw (ne_eqb x 0 n, ne_eqb x 3 (λ q. omega arith), lt-ltb x 3 h, sym e ∙ t, ne_eqb x 4 (λ q. omega arith), or-false) q

  pub by_pr3 : (b : Bool) → 3 ≤ x → (x ≡ 3 → ⊥) → b ≡ has_pr (s.device d) 3 → b ≡ true → eqb x 4 ≡ supported s d x
  unfolding supported
  by_pr3 b h n e t = rw (ne_eqb x 0 (λ z. omega arith), ne_eqb x 3 n, le-ltb x 3 h, sym e ∙ t, and-true (eqb x 4))

  pub no_pr3 : (b : Bool) → 3 ≤ x → (x ≡ 3 → ⊥) → b ≡ has_pr (s.device d) 3 → b ≡ false → b ≡ supported s d x
  unfolding supported
  no_pr3 b h n e t = t ∙ rw (ne_eqb x 0 (λ z. omega arith), ne_eqb x 3 n, le-ltb x 3 h, sym e ∙ t, and-false (eqb x 4)) refl

pub ruleset supported_laws = (always, by_ps, by_pr, by_pr3, no_pr3)

-- ---- the sets of `_PR0` to `_PR3`
module _ (v : Device) where
  -- m is the mask that was read
  pub own_yes : (x m r : ℕ) (b : Bool) → b ≡ member m x → m ≡ v.pr → b ≡ true → r ≡ v.sets x → r ≡ own_set v x
  unfolding own_set
  own_yes x m r b e p t q = rw (← p, sym e ∙ t) q

  pub own_no : (x m : ℕ) (b : Bool) → b ≡ member m x → m ≡ v.pr → b ≡ false → 0 ≡ own_set v x
  unfolding own_set
  own_no x m b e p t = rw (← p, sym e ∙ t)

  -- the loop of the next shallower set is at k and is to answer w
  pub listed_here : (k m r w : ℕ) (b : Bool) → listed_set v k ≡ w → 0 < k → b ≡ member m k → m ≡ v.pr → b ≡ true → r ≡ v.sets k → r ≡ w
  unfolding listed_set
  listed_here zero m r w b inv h e p t q = absurd (omega arith)
  listed_here (suc k) m r w b inv h e p t q =
      let has : has_pr v (suc k) ≡ true = rw p at (sym e ∙ t) in
      q ∙ rw has at inv

  pub listed_next : (k m w : ℕ) (b : Bool) → listed_set v k ≡ w → 0 < k → b ≡ member m k → m ≡ v.pr → b ≡ false → listed_set v (k - 1) ≡ w
  unfolding listed_set
  listed_next zero m w b inv h e p t = absurd (omega arith)
  listed_next (suc k) m w b inv h e p t =
      let has : has_pr v (suc k) ≡ false = rw p at (sym e ∙ t) in
      let one : suc k - 1 ≡ k = omega arith in
      rw one (rw has at inv)

  pub listed_last : (k r w : ℕ) → listed_set v k ≡ w → k ≤ 0 → r ≡ own_set v 0 → r ≡ w
  unfolding listed_set
  listed_last zero r w inv h q = q ∙ inv
  listed_last (suc k) r w inv h q = absurd (omega arith)

  -- ---- what it needs in a state
  pub shallow_needs : (x r : ℕ) → x < 3 → r ≡ own_set v x → r ≡ state_needs v x
  unfolding state_needs
  shallow_needs x r h q = rw (lt-ltb x 3 h) q

  pub d3cold_needs : (x : ℕ) → 3 < x → 0 ≡ state_needs v x
  unfolding state_needs
  d3cold_needs x h = rw (le-ltb x 3 (omega arith), ne_eqb x 3 (λ e. omega arith))

  pub d3hot_needs : (x r : ℕ) → 3 ≤ x → x ≤ 3 → r ≡ listed_set v 3 → r ≡ state_needs v x
  unfolding state_needs
  d3hot_needs x r h l q = rw (le-ltb x 3 h, eq-eqb x 3 (omega arith)) q

  -- ---- what it needs to wake the system
  pub unarmed_needs : (e : Entry) → (e.armed ≡ 1 → ⊥) → 0 ≡ wake_needs v e
  unfolding wake_needs
  unarmed_needs e n = rw (ne_eqb e.armed 1 n)

  pub armed_needs : (e : Entry) (r : ℕ) (b : Bool) → e.armed ≡ 1 → b ≡ has_prw v → b ≡ true → r ≡ v.sets 4 → r ≡ wake_needs v e
  unfolding wake_needs
  armed_needs e r b a p t q = rw (eq-eqb e.armed 1 a, sym p ∙ t) q

  pub prw_absent : (e : Entry) (b : Bool) → e.armed ≡ 1 → b ≡ has_prw v → b ≡ false → 0 ≡ wake_needs v e
  unfolding wake_needs
  prw_absent e b a p t = rw (eq-eqb e.armed 1 a, sym p ∙ t)

pub ruleset set_laws = (own_yes, own_no, shallow_needs, d3cold_needs, d3hot_needs, unarmed_needs, armed_needs, prw_absent)

-- apart, since these end in a bare w, which every goal fits
pub ruleset listed_laws = (listed_here, listed_next, listed_last)

pub needs_are : (s : Station) (d a b r : ℕ) (e : Entry) → r ≡ union a b → a ≡ state_needs (s.device d) e.state
    → b ≡ wake_needs (s.device d) e → r ≡ needs s d e
unfolding needs
needs_are s d a b r e q p n = q ∙ rw (p, n)
