-- The needed set by its law: a resource is needed exactly if some device below D needs it. And its bound: where every set of the table has
-- no bit at or above R, neither has what a device needs, nor the needed set.
use mathlib.Core.Path.{◌≡◌, refl, sym, ◌∙◌}
use mathlib.Core.Bool.{Bool, true, false, ◌&&◌, cond, true≢false, or-true}
use mathlib.Core.Logic.{⊎_elim}
use Prim.Native.Nat.{ℕ, zero, suc, ◌^◌, ◌<◌}
use native.Mathlib.Omega.{arith}
use borrow.Author.Tests.{eqb-true, eqb-false, ltb-true}
use lib.Dec.{eqb, ltb}
use lib.Pow.{pow_pos}
use Rattle.sets.specs.Sets.{member, subset}
use Rattle.sets.proofs.Laws.{decide, member_union, member_none, union_lt, subset_of}
use Rattle.rules.specs.Station.{Device, Station, has_pr, has_prw}
use Rattle.laws.proofs.Tests.{or_cases}
use Rattle.rules.specs.declared.Entry.{Entry}
use Rattle.rules.specs.Power.{is_armed, own_set, listed_set, state_needs, wake_needs, needs, needed_below, needed}

-- ---- members

-- what a device below n needs is needed
pub needed_of : (s : Station) (entries : ℕ → Entry) (n d r : ℕ) → d < n → member (needs s d (entries d)) r ≡ true
    → member (needed_below s entries n) r ≡ true
unfolding needed_below
needed_of s entries zero d r h e = absurd (omega arith)
needed_of s entries (suc n) d r h e =
    let rest = needed_of s entries n d r in
    member_union (needed_below s entries n) (needs s n (entries n)) r
    ∙ decide (eqb d n) (λ p. rw (rw (eqb-true d n p) at e) (or-true (member (needed_below s entries n) r)))
    (λ p. rw (rest (omega (arith, eqb-false d n p)) e) refl)

-- what is needed is needed by a device below n
pub needed_by : (s : Station) (entries : ℕ → Entry) (n r : ℕ) → member (needed_below s entries n) r ≡ true → (d : ℕ) × (d < n)
    × (member (needs s d (entries d)) r ≡ true)
unfolding needed_below
needed_by s entries zero r e = absurd (true≢false (sym e ∙ member_none r))
needed_by s entries (suc n) r e =
    let rest = needed_by s entries n r in
    ⊎_elim (λ p. let t = rest p in (t.0, omega arith, t.2)) (λ p. (n, omega arith, p))
    (or_cases _ _ (sym (member_union (needed_below s entries n) (needs s n (entries n)) r) ∙ e))

-- ---- bounds

cond_lt : (w : ℕ) (b : Bool) (x y : ℕ) → x < 2 ^ w → y < 2 ^ w → cond b x y < 2 ^ w
cond_lt w true x y p q = p
cond_lt w false x y p q = q

module _ (w : ℕ) (v : Device) (small : (k : ℕ) → k < 5 → v.sets k < 2 ^ w) where
  own_lt : (x : ℕ) → x < 5 → own_set v x < 2 ^ w
  unfolding own_set
  own_lt x h = cond_lt w (has_pr v x) (v.sets x) 0 (small x h) (pow_pos w)

  listed_lt : (x : ℕ) → x < 5 → listed_set v x < 2 ^ w
  unfolding listed_set
  listed_lt zero h = own_lt 0 h
  listed_lt (suc x) h = cond_lt w (has_pr v (suc x)) (v.sets (suc x)) (listed_set v x) (small (suc x) h) (listed_lt x (omega arith))

  pub state_lt : (x : ℕ) → state_needs v x < 2 ^ w
  unfolding state_needs
  state_lt x =
      decide (ltb x 3) (λ e. rw e (own_lt x (omega (arith, ltb-true x 3 e))))
      (λ e. rw e (cond_lt w (eqb x 3) (listed_set v 3) 0 (listed_lt 3 (omega arith)) (pow_pos w)))

  pub wake_lt : (e : Entry) → wake_needs v e < 2 ^ w
  unfolding wake_needs
  wake_lt e = cond_lt w (is_armed e && has_prw v) (v.sets 4) 0 (small 4 (omega arith)) (pow_pos w)

pub needs_lt : (w : ℕ) (s : Station) (d : ℕ) (e : Entry) → ((k : ℕ) → k < 5 → (s.device d).sets k < 2 ^ w) → needs s d e < 2 ^ w
unfolding needs
needs_lt w s d e small = union_lt w _ _ (state_lt w (s.device d) small e.state) (wake_lt w (s.device d) small e)

pub needed_lt : (w : ℕ) (s : Station) (entries : ℕ → Entry) (n : ℕ) → ((d : ℕ) → d < n → (k : ℕ) → k < 5 → (s.device d).sets k < 2 ^ w)
    → needed_below s entries n < 2 ^ w
unfolding needed_below
needed_lt w s entries zero small = pow_pos w
needed_lt w s entries (suc n) small =
    union_lt w _ _ (needed_lt w s entries n (λ d h. small d (omega arith))) (needs_lt w s n (entries n) (small n (omega arith)))

-- ---- so each device's needs are on where exactly the needed set is
pub all_powered : (w : ℕ) (s : Station) (entries : ℕ → Entry) (d : ℕ) → d < s.devices → ((k : ℕ) → k < 5 → (s.device d).sets k < 2 ^ w)
    → subset (needs s d (entries d)) (needed s entries) ≡ true
unfolding needed
all_powered w s entries d h small =
    subset_of w (needs s d (entries d)) (needed_below s entries s.devices) (needs_lt w s d (entries d) small)
    (λ r l e. needed_of s entries s.devices d r h e)
