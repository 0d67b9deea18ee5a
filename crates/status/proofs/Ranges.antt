-- The values of a state image, as the code that tests them has them.
use mathlib.Core.Path.{◌≡◌, refl, sym, ap, ◌∙◌}
use mathlib.Core.Bool.{Bool, true, false, not, ◌&&◌, ◌||◌, and_assoc}
use mathlib.Core.Bool as bool
use mathlib.Core.List.{List}
use Prim.Native.Nat.{ℕ, zero, suc, ◌+◌, ◌*◌, ◌^◌, ◌≤◌, ◌<◌}
use native.Mathlib.Nat.{add_assoc}
use native.Mathlib.Omega.{arith}
use borrow.Author.Tests.{ltb-true, lt-ltb, le-ltb, leb-true, le-leb, eqb-true, eqb-false, eq-eqb}
use lib.Dec.{eqb, leb, ltb}
use Rattle.sets.specs.Sets.{union}
use Rattle.sets.proofs.Laws.{decide, union_none}
use Rattle.words.specs.Words.{read_le}
use Rattle.words.proofs.Twice.{read_split}
use Rattle.rules.specs.declared.Entry.{Entry}
use Rattle.rules.specs.Index.{every}
use Rattle.rules.specs.Station.{width, limit, count_r, count_d, station_of, station}
use Rattle.rules.specs.Power.{is_armed}
use Rattle.rules.specs.Status.{entry_at, entries, entry_good, entry_zero, entries_good, on_good}
use Rattle.rules.proofs.Index.{every_at, every_of_lem}
use Rattle.record.proofs.AllGood.{sum_zero}
use Rattle.laws.proofs.Tests.{both_true, and-true, or_left}
use Rattle.laws.proofs.Every.{every_suc, same_test}
use Rattle.table.specs.Layout.{WellSized}
use Rattle.status.proofs.Held.{entry_in}

-- ---- an entry as the number that its four bytes make

abbrev value_of : Entry → ℕ
value_of e = e.state + 256 * (e.armed + 256 * (e.sleep + 256 * e.wake))

module _ (e : Entry) where
  low_good : value_of e ≤ 4 → entry_good e ≡ true
  unfolding entry_good
  low_good h =
      let armed : e.armed ≡ 0 = omega arith in
      let sleep : e.sleep ≡ 0 = omega arith in
      let wake : e.wake ≡ 0 = omega arith in
      rw (armed, sleep, wake, le-leb e.state 4 (omega arith)) refl

  -- armed, an entry has its numbers tested alone
  pub armed_told : eqb e.armed 1 && leb e.state 4 && leb e.sleep 4 && leb e.wake 4 ≡ is_armed e && entry_good e
  unfolding entry_good
  armed_told =
      decide (eqb e.armed 1)
      (λ a. rw (a, le-leb e.armed 1 (omega (arith, eqb-true e.armed 1 a)), bool.and-true (leb e.state 4))
      (sym (bool.and-true _)))
      (λ a. rw a refl)

  -- not armed, a good entry is a number of at most 4
  good_low : eqb e.armed 1 ≡ false → entry_good e ≡ true → value_of e ≤ 4
  unfolding entry_good
  good_low a g =
      let all = both_true (leb e.state 4 && leb e.armed 1 && leb e.sleep 4 && leb e.wake 4)
      (eqb e.armed 1 || eqb e.sleep 0 && eqb e.wake 0) g in
      let pair = both_true (eqb e.sleep 0) (eqb e.wake 0) (rw a at all.1) in
      let three = both_true (leb e.state 4 && leb e.armed 1 && leb e.sleep 4) (leb e.wake 4) all.0 in
      let two = both_true (leb e.state 4 && leb e.armed 1) (leb e.sleep 4) three.0 in
      let one = both_true (leb e.state 4) (leb e.armed 1) two.0 in
      let unarmed : e.armed ≡ 0 = other_zero e.armed (leb-true e.armed 1 one.1) (eqb-false e.armed 1 a) in
      omega (arith, unarmed, leb-true e.state 4 one.0, eqb-true e.sleep 0 pair.0, eqb-true e.wake 0 pair.1)
    where
      other_zero : (n : ℕ) → n ≤ 1 → (n ≡ 1 → ⊥) → n ≡ 0
      other_zero zero h z = refl
      other_zero (suc n) h z = absurd (z (omega arith))

  high_armed : 4 < value_of e → entry_good e ≡ is_armed e && entry_good e
  high_armed h =
      decide (eqb e.armed 1) (λ a. rw a refl)
      (λ a. rw a (decide (entry_good e) (λ g. let low = good_low a g in absurd (omega (arith, low))) (λ g. g)))

  none_zero : value_of e ≡ 0 → entry_zero e ≡ true
  unfolding entry_zero
  none_zero h =
      let state : e.state ≡ 0 = omega arith in
      let armed : e.armed ≡ 0 = omega arith in
      let sleep : e.sleep ≡ 0 = omega arith in
      let wake : e.wake ≡ 0 = omega arith in
      rw (state, armed, sleep, wake) refl

  zero_none : entry_zero e ≡ true → value_of e ≡ 0
  unfolding entry_zero
  zero_none z =
      let a = both_true (eqb e.state 0 && eqb e.armed 0 && eqb e.sleep 0) (eqb e.wake 0) z in
      let b = both_true (eqb e.state 0 && eqb e.armed 0) (eqb e.sleep 0) a.0 in
      let c = both_true (eqb e.state 0) (eqb e.armed 0) b.0 in
      omega (arith, eqb-true e.state 0 c.0, eqb-true e.armed 0 c.1, eqb-true e.sleep 0 b.1, eqb-true e.wake 0 a.1)

-- w is what was read at entry k
module _ (b : List ℕ) (k w : ℕ) (q : w ≡ read_le 4 b (4 * k)) where
  abbrev here : Entry
  here = entry_at b (4 * k)

  value_is : w ≡ value_of here
  unfolding read_le entry_at
  value_is = q ∙ rw (add_assoc (4 * k) 1 1, add_assoc (4 * k) 2 1) (omega arith)

  pub word_good : w ≤ 4 → leb w 4 ≡ entry_good (entry_at b (4 * k))
  word_good l = le-leb w 4 l ∙ sym (low_good here (omega (arith, value_is)))

  pub entry_told : 4 < w → (e : Entry) (g : Bool) → e ≡ entry_at b (4 * k) → g ≡ is_armed e && entry_good e
      → g ≡ entry_good (entry_at b (4 * k))
  entry_told l e g read told =
      told ∙ ap (λ (u : Entry). is_armed u && entry_good u) read ∙ sym (high_armed here (omega (arith, value_is)))

  pub word_zero : eqb w 0 ≡ entry_zero (entry_at b (4 * k))
  word_zero =
      same_test (eqb w 0) (entry_zero here)
      (λ e. none_zero here (omega (arith, value_is, eqb-true w 0 e)))
      (λ e. eq-eqb w 0 (omega (arith, value_is, zero_none here e)))

-- ---- the loop over the entries from n on

module _ (b : List ℕ) (n : ℕ) where
  abbrev pub zero_from : ℕ → Bool
  zero_from k = ltb k n || entry_zero (entry_at b (4 * k))

  zero_starts : true ≡ every zero_from n
  zero_starts = sym (every_of_lem zero_from n (λ j l. or_left (ltb j n) _ (lt-ltb j n l)))

  -- all is the union of those before i, and w the number at i
  zero_next : (i all w r : ℕ) → eqb all 0 ≡ every zero_from i → n ≤ i → w ≡ read_le 4 b (4 * i) → r ≡ union all w
      → eqb r 0 ≡ every zero_from (i + 1)
  zero_next i all w r inv l q e =
      let here : eqb w 0 ≡ zero_from i = rw (le-ltb i n l) (word_zero b i w q) in
      rw (e, union_none all w, inv, here) (sym (every_suc zero_from i))

  -- before the loop: an even number of entries is left, so either none is looked at yet, or the number w at n
  pub zero_even : (all i : ℕ) → all ≡ 0 → i ≡ n → eqb all 0 ≡ every zero_from i
  zero_even all i e f = rw (e, f) zero_starts

  pub zero_odd : (all i w : ℕ) → w ≡ read_le 4 b (4 * n) → all ≡ w → i ≡ n + 1 → eqb all 0 ≡ every zero_from i
  zero_odd all i w q e f =
      let here : eqb w 0 ≡ zero_from n = rw (le-ltb n n (omega arith)) (word_zero b n w q) in
      rw (e, f, here, every_suc zero_from n, ← zero_starts) refl

  -- w is the number that the entries i and i + 1 make together
  pub zero_pair : (i all w r : ℕ) → eqb all 0 ≡ every zero_from i → n ≤ i → w ≡ read_le 8 b (4 * i) → r ≡ union all w
      → eqb r 0 ≡ every zero_from (i + 2)
  zero_pair i all w r inv l q e =
      let low = read_le 4 b (4 * i) in
      let high = read_le 4 b (4 * (i + 1)) in
      let next : 4 * i + 4 ≡ 4 * (i + 1) = omega arith in
      let split : w ≡ low + 256 ^ 4 * high = q ∙ read_split 4 4 b (4 * i) ∙ ap (λ (x : ℕ). low + 256 ^ 4 * read_le 4 b x) next in
      let one = zero_next i all low (union all low) inv l refl refl in
      let two = zero_next (i + 1) (union all low) high (union (union all low) high) one (omega arith) refl refl in
      let same : eqb r 0 ≡ eqb (union (union all low) high) 0 =
      rw (e, union_none all w, union_none (union all low) high, union_none all low, split, sum_zero (256 ^ 4) low high (omega arith))
      (sym (and_assoc (eqb all 0) (eqb low 0) (eqb high 0))) in
      same ∙ two ∙ ap (every zero_from) (omega arith)

  pub zero_done : (i end : ℕ) (r : Bool) → r ≡ every zero_from i → i ≤ end → end ≤ i → r ≡ every zero_from end
  zero_done i end r inv h l = inv ∙ ap (every zero_from) (omega arith)

-- ---- all entries: those of the devices and the others; first and rest are what the two loops returned
module _ (t b : List ℕ) (n : ℕ) (c : n ≡ count_d t) (z : WellSized t) where
  abbrev end : ℕ
  end = limit (width t)

  abbrev good : ℕ → Bool
  good k = entry_good (entry_at b (4 * k))

  abbrev either : ℕ → Bool
  either k = entry_good (entries t b k) && (ltb k n || entry_zero (entries t b k))

  -- below the limit an entry is what stands at its place
  read : (k : ℕ) → k < end → either k ≡ good k && zero_from b n k
  read k l = rw (entry_in (width t) b k l) refl

  good_at : every good n ≡ true → every (zero_from b n) end ≡ true → (k : ℕ) → k < end → either k ≡ true
  good_at e f k l =
      let zero = every_at (zero_from b n) end k f l in
      read k l ∙ and-true (good k) (zero_from b n k)
      (decide (ltb k n) (λ x. every_at good n k e (ltb-true k n x))
      (λ x. low_good (entry_at b (4 * k)) (omega (arith, zero_none (entry_at b (4 * k)) (rw x at zero)))))
      zero

  all_good_lem : every good n && every (zero_from b n) end ≡ entries_good end (station t) (entries t b)
  unfolding entries_good station_of
  all_good_lem =
      rw (← c)
      (same_test (every good n && every (zero_from b n) end) (every either end)
      (λ e. let a = both_true (every good n) (every (zero_from b n) end) e in every_of_lem either end (good_at a.0 a.1))
      (λ e.
      let at : (k : ℕ) → k < end → (good k ≡ true) × (zero_from b n k ≡ true) = λ k l. both_true (good k) (zero_from b n k) (sym (read k l)
      ∙ every_at either end k e l) in
      and-true (every good n) (every (zero_from b n) end) (every_of_lem good n (λ k l. (at k (omega (arith, z.devices))).0))
      (every_of_lem (zero_from b n) end (λ k l. (at k l).1))))

  module _ (first : Bool) (q : first ≡ every good n) where
    pub entries_first : first ≡ false → first ≡ entries_good (limit (width t)) (station t) (entries t b)
    entries_first x = x ∙ (rw (← q, x) at all_good_lem)

    pub entries_rest : (m : ℕ) (rest : Bool) → m ≡ limit (width t) → first ≡ true → rest ≡ every (zero_from b n) m
        → rest ≡ entries_good (limit (width t)) (station t) (entries t b)
    entries_rest m rest p x r = (rw p at r) ∙ (rw (← q, x) at all_good_lem)

pub ruleset range_laws = (word_good, entry_told, zero_even, zero_odd, zero_pair, zero_done, entries_first, entries_rest)

-- ---- the on-set
pub on_is : (t : List ℕ) (n on : ℕ) (b : Bool) → n ≡ count_r t → b ≡ ltb on (2 ^ n) → b ≡ on_good (station t) on
unfolding on_good station_of
on_is t n on b e f = rw (← e) f
