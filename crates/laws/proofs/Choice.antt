-- RULES.md 13: the least choice of sleep entry, taken device by device, is a choice if there is one, and no device is shallower in any
-- other choice. Over a station whose parents have lower numbers, as an accepted table's station has.
use mathlib.Core.Path.{◌≡◌, refl, sym, ◌∙◌}
use mathlib.Core.Bool.{true, false, ◌&&◌, ◌||◌, true≢false}
use mathlib.Core.Logic.{inl, inr, ⊎_elim}
use Prim.Native.Nat.{ℕ, zero, suc, ◌≤◌, ◌<◌}
use native.Mathlib.Nat.{eq-or-lt_of_le}
use native.Mathlib.Omega.{arith}
use borrow.Author.Tests.{eqb-true, leb-true, leb-false, ltb-true, eq-eqb, ne_eqb, le-leb, lt-ltb}
use lib.Dec.{eqb, leb, ltb}
use Rattle.sets.proofs.Laws.{decide}
use Rattle.rules.specs.declared.Entry.{Entry}
use Rattle.rules.specs.Station.{Station, absent, has_ps, has_pr}
use Rattle.rules.specs.Table.{parent_good}
use Rattle.rules.specs.Power.{supported, needs, powered_in}
use Rattle.rules.specs.Request.{in_state}
use Rattle.rules.specs.Sleep.{sxd_allows, wake_d_if_armed, may_take, Choice, may_take_under, least_state, least_below, least_choice, has_choice}
use Rattle.rules.specs.Sleep.{stays, none_moving}
use Rattle.rules.proofs.Index.{hit, none_below, every_at, every_of_lem}
use Rattle.laws.proofs.Tests.{both_true, and-true, or_cases, or_left, or_right}
use Rattle.laws.proofs.Every.{least_ext}
use Rattle.laws.proofs.Kept.{StationRules}

-- no state above 4 is supported
pub supported_low : (s : Station) (d y : ℕ) → supported s d y ≡ true → y ≤ 4
unfolding supported
supported_low s d y e =
    let v = s.device d in
    let middle = ltb y 3 && (has_ps v y || has_pr v y) in
    ⊎_elim
    (λ a. ⊎_elim
    (λ b. ⊎_elim (λ c. omega (arith, eqb-true y 0 c)) (λ c. omega (arith, eqb-true y 3 c)) (or_cases (eqb y 0) (eqb y 3) b))
    (λ b. omega (arith, ltb-true y 3 (both_true (ltb y 3) (has_ps v y || has_pr v y) b).0))
    (or_cases (eqb y 0 || eqb y 3) middle a))
    (λ a. omega (arith, eqb-true y 4 (both_true (eqb y 4) (has_pr v 3) a).0))
    (or_cases (eqb y 0 || eqb y 3 || middle) (eqb y 4 && has_pr v 3) e)

-- ---- what a state that a device may take has passed

pub record Taken (s : Station) (entries : ℕ → Entry) (x d y : ℕ) : Type 0 where
  pub known : supported s d y ≡ true
  pub deeper : (entries d).state ≤ y
  pub sxd : sxd_allows s x d y ≡ true
  pub level : powered_in s x (needs s d (in_state (entries d) y)) ≡ true
  pub wake : wake_d_if_armed (entries d) y ≡ true

module _ (s : Station) (entries : ℕ → Entry) (x : ℕ) where
  -- a state that the device may take has passed each of the five
  pub taken_of : (d y : ℕ) → may_take s x d (entries d) y ≡ true → Taken s entries x d y
  unfolding may_take
  taken_of d y e =
      let a = both_true _ (wake_d_if_armed (entries d) y) e in
      let b = both_true _ (powered_in s x (needs s d (in_state (entries d) y))) a.0 in
      let c = both_true _ (sxd_allows s x d y) b.0 in
      let f = both_true (supported s d y) (leb (entries d).state y) c.0 in
      record { known = f.0; deeper = leb-true _ _ f.1; sxd = c.1; level = b.1; wake = a.1 }

  -- and one that has passed them it may take
  pub taken_is : (d y : ℕ) → Taken s entries x d y → may_take s x d (entries d) y ≡ true
  unfolding may_take
  taken_is d y t = rw (t.known, le-leb _ _ t.deeper, t.sxd, t.level, t.wake) refl

  -- ---- the state of a device, found once, stays

  -- what comes after device n - 1 changes none of the states below n
  pub stability : (n m d : ℕ) → d < n → n ≤ m → least_below s entries x m d ≡ least_below s entries x n d
  unfolding least_below
  stability n zero d h l = absurd (omega arith)
  stability n (suc m) d h l =
      ⊎_elim (λ q. rw q refl) (λ k. rw (ne_eqb d m (λ z. omega arith)) (stability n m d h (omega arith)))
      (eq-or-lt_of_le {n = n} {m = suc m} l)

  -- a device's state in the least choice is found from those below it
  pub least_at : (d : ℕ) → d < s.devices → least_choice s entries x d ≡ least_state s entries x (least_below s entries x d) d
  unfolding least_choice least_below
  least_at d h = stability (suc d) s.devices d (omega arith) h ∙ rw (eq-eqb d d refl) refl

  -- what a device may take depends on the states below it alone
  pub under_same : (f g : ℕ → ℕ) (d y : ℕ) → parent_good d (s.device d) ≡ true → ((k : ℕ) → k < d → f k ≡ g k)
      → may_take_under s entries x f d y ≡ may_take_under s entries x g d y
  unfolding may_take_under parent_good
  under_same f g d y e h =
      ⊎_elim (λ a. rw (h (s.device d).parent (ltb-true _ _ a)) refl) (λ a. rw a refl) (or_cases _ _ e)

  -- and so does the least such state
  pub state_same : (f g : ℕ → ℕ) (d : ℕ) → parent_good d (s.device d) ≡ true → ((k : ℕ) → k < d → f k ≡ g k)
      → least_state s entries x f d ≡ least_state s entries x g d
  unfolding least_state
  state_same f g d e h =
      least_ext (may_take_under s entries x f d) (may_take_under s entries x g d) 0 5 (λ y a b. under_same f g d y e h)

  -- states that are the least choice's below d give the least choice's at d
  pub least_by : (f : ℕ → ℕ) (d : ℕ) → d < s.devices → parent_good d (s.device d) ≡ true
      → ((k : ℕ) → k < d → f k ≡ least_choice s entries x k) → least_state s entries x f d ≡ least_choice s entries x d
  unfolding least_choice
  least_by f d h p e =
      state_same f (least_below s entries x d) d p (λ k l. e k l ∙ stability d s.devices k l (omega arith)) ∙ sym (least_at d h)

  -- where none moves, the least choice is the present state
  pub none_moves : (d : ℕ) → d < s.devices → none_moving s entries x ≡ true → least_choice s entries x d ≡ (entries d).state
  unfolding none_moving
  none_moves d h e = eqb-true _ _ (every_at (stays entries (least_choice s entries x)) s.devices d e h)

module _ (s : Station) (rules : StationRules s) (entries : ℕ → Entry) (x : ℕ) where
  -- the least choice's state is the least that the device may take under the least choice
  least_under : (d : ℕ) → d < s.devices → least_choice s entries x d ≡ least_state s entries x (least_choice s entries x) d
  least_under d h = sym (least_by s entries x (least_choice s entries x) d h (rules.parents d h) (λ k l. refl))

  -- which it may take, if there is one
  least_taken_lem : has_choice s entries x ≡ true → (d : ℕ) → d < s.devices
      → may_take_under s entries x (least_choice s entries x) d (least_choice s entries x d) ≡ true
  unfolding has_choice least_state
  least_taken_lem e d h =
      let low : least_choice s entries x d < 5 = ltb-true _ _ (every_at (λ k. ltb (least_choice s entries x k) 5) s.devices d e h) in
      let q = least_under d h in
      let t = hit (may_take_under s entries x (least_choice s entries x) d) 0 5 (omega (arith, q)) in
      rw (← q) at t

  -- the least choice is a choice if every device has a state in it
  pub least_is_choice : has_choice s entries x ≡ true → Choice s entries x (least_choice s entries x)
  unfolding may_take_under
  least_is_choice e =
      record {
        taken = λ d h. (both_true _ _ (least_taken_lem e d h)).0;
        parents = λ d h.
            ⊎_elim (λ a. inl (eqb-true _ _ a)) (λ a. inr (leb-true _ _ a))
            (or_cases _ _ (both_true (may_take s x d (entries d) _) _ (least_taken_lem e d h)).1);
      }

  module _ (states : ℕ → ℕ) (c : Choice s entries x states) where
    -- a choice's state may be taken under states that are no deeper below it
    choice_under : (f : ℕ → ℕ) (d : ℕ) → d < s.devices → ((k : ℕ) → k < d → f k ≤ states k)
        → may_take_under s entries x f d (states d) ≡ true
    unfolding may_take_under parent_good
    choice_under f d h low =
        let p = (s.device d).parent in
        and-true _ _ (c.taken d h)
        (⊎_elim (λ a. or_left (eqb p absent) _ (eq-eqb p absent a))
        (λ a. ⊎_elim (λ b. or_right (eqb p absent) _ (le-leb (f p) (states d) (omega (arith, low p (ltb-true p d b)))))
        (or_left (eqb p absent) _)
        (or_cases (ltb p d) (eqb p absent) (rules.parents d h)))
        (c.parents d h))

    -- no deeper at d than the choice's, if it is no deeper below d
    least_at_most : (d : ℕ) → d < s.devices → ((k : ℕ) → k < d → least_choice s entries x k ≤ states k)
        → least_choice s entries x d ≤ states d
    unfolding least_state
    least_at_most d h low =
        let q = least_under d h in
        decide (leb (least_choice s entries x d) (states d)) (leb-true _ _)
        (λ e.
        let deep : states d < least_choice s entries x d = leb-false _ _ e in
        absurd (true≢false (sym (choice_under (least_choice s entries x) d h low)
        ∙ none_below (may_take_under s entries x (least_choice s entries x) d) 0 5 (states d) (omega arith) (omega (arith, q)))))

    -- nor at any device below n
    least_below_all : (n k : ℕ) → k < n → n ≤ s.devices → least_choice s entries x k ≤ states k
    least_below_all zero k l h = absurd (omega arith)
    least_below_all (suc n) k l h =
        let before = least_below_all n in
        ⊎_elim (λ q. rw q (least_at_most n h (λ j m. before j m (omega arith)))) (λ m. before k m (omega arith))
        (eq-or-lt_of_le {n = k} {m = n} (omega arith))

    -- no choice has a shallower state than the least choice
    pub least_of_all : (d : ℕ) → d < s.devices → least_choice s entries x d ≤ states d
    least_of_all d h = least_below_all s.devices d h (omega arith)

    -- where there is a choice, every device has a state in the least one
    pub choice_found : has_choice s entries x ≡ true
    unfolding has_choice
    choice_found =
        every_of_lem _ s.devices
        (λ d h.
        let t = taken_of s entries x d (states d) (c.taken d h) in
        lt-ltb (least_choice s entries x d) 5 (omega (arith, least_of_all d h, supported_low s d (states d) t.known)))

  -- where some device has none, there is no choice
  pub no_choice_lem : has_choice s entries x ≡ false → (states : ℕ → ℕ) → Choice s entries x states → ⊥
  no_choice_lem e states c = true≢false (sym (choice_found states c) ∙ e)

-- ---- sleep entry once more, with the devices in the states of the least choice

module _ (s : Station) (rules : StationRules s) (entries : ℕ → Entry) (x : ℕ) (new : ℕ → Entry)
    (moved : (d : ℕ) → d < s.devices → new d ≡ in_state (entries d) (least_choice s entries x d)) (e : has_choice s entries x ≡ true) where
  -- the least choice may be taken again
  again_is_choice : Choice s new x (least_choice s entries x)
  unfolding wake_d_if_armed
  again_is_choice =
      let c = least_is_choice s rules entries x e in
      record {
        taken = λ d h.
            let t = taken_of s entries x d (least_choice s entries x d) (c.taken d h) in
            taken_is s new x d (least_choice s entries x d)
            (record {
              known = t.known;
              deeper = rw (moved d h) (omega arith);
              sxd = t.sxd;
              level = rw (moved d h) t.level;
              wake = rw (moved d h) t.wake;
            });
        parents = c.parents;
      }

  -- there is a choice again
  pub again_choice : has_choice s new x ≡ true
  again_choice = choice_found s rules new x (least_choice s entries x) again_is_choice

  -- the least choice then has every device in its present state
  pub again_stays : (d : ℕ) → d < s.devices → least_choice s new x d ≡ (new d).state
  again_stays d h =
      let now : (new d).state ≡ least_choice s entries x d = rw (moved d h) refl in
      let t = taken_of s new x d (least_choice s new x d) ((least_is_choice s rules new x again_choice).taken d h) in
      omega (arith, now, t.deeper, least_of_all s rules new x (least_choice s entries x) again_is_choice d h)

  -- so no device moves
  pub again_none_moves : none_moving s new x ≡ true
  unfolding none_moving
  again_none_moves = every_of_lem _ s.devices (λ d h. eq-eqb _ _ (again_stays d h))
