-- Whether every field is good, as one test: of the five sets, of zeros read as one number, and of a table's record.
-- Where the code asks another function, that function's answer comes with what it says.
use mathlib.Core.Path.{◌≡◌, refl, sym, ap, ◌∙◌}
use mathlib.Core.Bool.{Bool, true, false, not, ◌&&◌, ◌||◌, and_assoc, and-true, or-true}
use mathlib.Core.List.{List, ◌++◌}
use Prim.Native.Nat.{ℕ, zero, suc, ◌+◌, ◌*◌, ◌-◌, ◌%◌, ◌^◌, ◌<◌, ◌≤◌}
use native.Mathlib.Nat.{mul-zero, mul-le-mul_right, pow-suc, mod-eq_of_lt}
use native.Mathlib.Omega.{arith}
use borrow.Author.Tests.{eqb-true, eqb-false, eq-eqb, ltb-true, lt-ltb, not-true, not-false}
use lib.Bits.{bit_and, bit_or, bit_xor, and_le_l, and_le_r, and_mask, mask_lt, or_lt, or_add_and, xor_add_and, xor_self}
use lib.Dec.{eqb, ltb}
use lib.ListN.{length, get_or, take, drop, take-append-drop, get_or-append}
use lib.Seq.{get_or-drop}
use Rattle.std.specs.Array.{IsWholeChunk}
use Rattle.sets.specs.Sets.{member, minus, first_n, subset}
use Rattle.sets.proofs.Laws.{decide, or_none}
use Rattle.words.specs.Words.{read_le}
use Rattle.words.proofs.Twice.{read_split}
use Rattle.rules.specs.Index.{each_from, each, every}
use Rattle.rules.specs.Station.{Device, Wide, absent, record_size, device_at}
use Rattle.rules.specs.Table.{Field, field, first_bad, all_good, present, set_good}
use Rattle.rules.specs.Table.{set_fields, sxd_fields, sxw_fields, deepest_fields, zero_fields, device_fields, objects_good}
use Rattle.rules.specs.Table.{sxd_good, sxw_good, deepest_good}
use Rattle.rules.proofs.Index.{every_at, every_of_lem}
use Rattle.laws.proofs.All.{all_each, each_at}
use Rattle.laws.proofs.Good.{none_bad, joined, Good, good_each, good_all}
use Rattle.laws.proofs.Accepted.{fields_inside}
use Rattle.laws.proofs.Tests.{both_true}
use Rattle.laws.proofs.Every.{same_test}
use Rattle.laws.proofs.Tests as tests
use Rattle.record.specs.Good.{sets_fit, absent_set, sets_absent, no_sleep, good_with}
use Rattle.record.proofs.FirstBad.{zero_field}

-- ---- two tests that say the same, and two tests as one: zeros in a number's parts and in a union, and a union's bits
both_zero : (a b c : ℕ) → (c ≡ 0 → a ≡ 0) → (c ≡ 0 → b ≡ 0) → (a ≡ 0 → b ≡ 0 → c ≡ 0) → eqb c 0 ≡ eqb a 0 && eqb b 0
both_zero a b c f g h =
    same_test (eqb c 0) (eqb a 0 && eqb b 0)
    (λ e. let z = eqb-true c 0 e in tests.and-true _ _ (eq-eqb a 0 (f z)) (eq-eqb b 0 (g z)))
    (λ e. let z = both_true (eqb a 0) (eqb b 0) e in eq-eqb c 0 (h (eqb-true a 0 z.0) (eqb-true b 0 z.1)))

pub sum_zero : (n a b : ℕ) → 0 < n → eqb (a + n * b) 0 ≡ eqb a 0 && eqb b 0
sum_zero n a b h =
    let l = mul-le-mul_right b h in
    both_zero a b (a + n * b) (λ z. omega arith) (λ z. omega arith) (λ x y. rw (x, y, mul-zero n) refl)

union_fits : (a b n : ℕ) → ltb (bit_or a b) (2 ^ n) ≡ ltb a (2 ^ n) && ltb b (2 ^ n)
union_fits a b n =
    let sum = or_add_and a b in
    let l = and_le_l a b in
    let r = and_le_r a b in
    same_test (ltb (bit_or a b) (2 ^ n)) (ltb a (2 ^ n) && ltb b (2 ^ n))
    (λ e. let h = ltb-true (bit_or a b) (2 ^ n) e in tests.and-true _ _ (lt-ltb a (2 ^ n) (omega arith)) (lt-ltb b (2 ^ n) (omega arith)))
    (λ e. let h = both_true (ltb a (2 ^ n)) (ltb b (2 ^ n)) e in
    lt-ltb (bit_or a b) (2 ^ n) (or_lt n a b (ltb-true a (2 ^ n) h.0) (ltb-true b (2 ^ n) h.1)))

-- within the first n resources is below 2 ^ n
within_first : (s n : ℕ) → subset s (first_n n) ≡ ltb s (2 ^ n)
unfolding subset minus first_n
within_first s n =
    let low = bit_and s (2 ^ n - 1) in
    let is : low ≡ s % 2 ^ n = and_mask s n in
    same_test (eqb (bit_xor s low) 0) (ltb s (2 ^ n))
    (λ e. lt-ltb s (2 ^ n) (omega (arith, eqb-true (bit_xor s low) 0 e, xor_add_and s low, and_le_r s low, mask_lt s n)))
    (λ e. let same : low ≡ s = is ∙ mod-eq_of_lt (ltb-true s (2 ^ n) e) in eq-eqb (bit_xor s low) 0 (rw same (xor_self s)))

-- ---- one test of each number below n
every_field : (p : ℕ → ℕ) (g : ℕ → Bool) (n : ℕ) → all_good (each (λ k. field (p k) (g k)) n) ≡ every g n
every_field p g n =
    let f : ℕ → Field = λ k. field (p k) (g k) in
    same_test (all_good (each f n)) (every g n)
    (λ e. every_of_lem g n (λ i h. each_at Good f 0 n (good_each _ e) i (omega arith) (omega arith)))
    (λ e. good_all _ (all_each Good f 0 n (λ j x y. every_at g n j e (omega arith))))

every_both : (p q : ℕ → Bool) (n : ℕ) → every (λ k. p k && q k) n ≡ every p n && every q n
every_both p q n =
    same_test (every (λ k. p k && q k) n) (every p n && every q n)
    (λ e. let h : (i : ℕ) → i < n → (p i ≡ true) × (q i ≡ true) = λ i l. both_true (p i) (q i) (every_at _ n i e l) in
    tests.and-true _ _ (every_of_lem p n (λ i l. (h i l).0)) (every_of_lem q n (λ i l. (h i l).1)))
    (λ e. let h = both_true (every p n) (every q n) e in
    every_of_lem _ n (λ i l. tests.and-true _ _ (every_at p n i h.0 l) (every_at q n i h.1 l)))

five : (g : ℕ → Bool) → g 0 && g 1 && g 2 && g 3 && g 4 ≡ every g 5
unfolding all_good each_from
five g = let all = every_field (λ k. k) g 5 in rw (← all) (simp (and-true, and_assoc))

module _ (v : Device) where
  -- ---- no bit at or above R
  fit_test : (resources a b c d e : ℕ) (f : Bool) → a ≡ v.sets 0 → b ≡ v.sets 1 → c ≡ v.sets 2 → d ≡ v.sets 3 → e ≡ v.sets 4
      → (all : ℕ) → f ≡ subset (bit_or (bit_or (bit_or (bit_or a b) c) d) e) all → all ≡ first_n resources → f ≡ sets_fit resources v
  unfolding sets_fit
  fit_test resources a b c d e f p q r s u all g is =
      g ∙ rw (is, within_first, union_fits, union_fits, union_fits, union_fits, p, q, r, s, u) (five (λ k. ltb (v.sets k) (2 ^ resources)))

  -- ---- the sets of absent objects
  zero_absent : (k s : ℕ) → s ≡ absent_set v k → eqb s 0 ≡ present v k || eqb (v.sets k) 0
  unfolding absent_set
  zero_absent k s e = decide (present v k) (λ p. rw (e, p) refl) (λ p. rw (e, p) refl)

  absent_test : (a b c d e : ℕ) → a ≡ absent_set v 0 → b ≡ absent_set v 1 → c ≡ absent_set v 2 → d ≡ absent_set v 3 → e ≡ absent_set v 4
      → eqb (bit_or (bit_or (bit_or (bit_or a b) c) d) e) 0 ≡ sets_absent v
  unfolding sets_absent
  absent_test a b c d e p q r s u =
      rw (
        or_none,
        or_none,
        or_none,
        or_none,
        zero_absent 0 a p,
        zero_absent 1 b q,
        zero_absent 2 c r,
        zero_absent 3 d s,
        zero_absent 4 e u,
      )
      (five (λ k. present v k || eqb (v.sets k) 0))

  -- all five objects are there
  power_present_all : v.pr ≡ 15 → (present v 0 ≡ true) × (present v 1 ≡ true) × (present v 2 ≡ true) × (present v 3 ≡ true)
  unfolding present member
  power_present_all e = rw e (refl, refl, refl, refl)

  all_present : (pr : ℕ) (b : Bool) → pr ≡ v.pr → b ≡ present v 4 → eqb pr 15 && b ≡ true → true ≡ sets_absent v
  unfolding sets_absent
  all_present pr b f e p =
      let h = both_true (eqb pr 15) b p in
      let all = power_present_all (sym f ∙ eqb-true pr 15 h.0) in
      rw (all.0, all.1, all.2, all.3, sym e ∙ h.1) at (five (λ k. present v k || eqb (v.sets k) 0))

-- ---- the five sets: their rule is its two halves, which the code asks one after the other
halves : (w resources : ℕ) (v : Device) → all_good (set_fields w resources v) ≡ sets_fit resources v && sets_absent v
unfolding set_fields set_good sets_fit sets_absent
halves w resources v =
    every_field (λ k. 4 + w * k) (set_good resources v) 5
    ∙ every_both (λ k. ltb (v.sets k) (2 ^ resources)) (λ k. present v k || eqb (v.sets k) 0) 5

module _ (w resources : ℕ) (v : Device) (a b c d e : ℕ) (p : a ≡ v.sets 0) (q : b ≡ v.sets 1) (r : c ≡ v.sets 2) (s : d ≡ v.sets 3)
    (u : e ≡ v.sets 4) (f : Bool) (all : ℕ) (g : f ≡ subset (bit_or (bit_or (bit_or (bit_or a b) c) d) e) all) (is : all ≡ first_n resources) where
  pub sets_unfit : not f ≡ true → false ≡ all_good (set_fields w resources v)
  sets_unfit h = rw (halves w resources v, sym (fit_test v resources a b c d e f p q r s u all g is) ∙ not-true f h) refl

  module _ (h : not f ≡ false) where
    past_fit : sets_absent v ≡ all_good (set_fields w resources v)
    past_fit = rw (halves w resources v, sym (fit_test v resources a b c d e f p q r s u all g is) ∙ not-false f h) refl

    pub sets_there : (pr : ℕ) (o : Bool) → pr ≡ v.pr → o ≡ present v 4 → eqb pr 15 && o ≡ true → true ≡ all_good (set_fields w resources v)
    sets_there pr o x y z = all_present v pr o x y z ∙ past_fit

    pub sets_left : (i j k l m : ℕ) → i ≡ absent_set v 0 → j ≡ absent_set v 1 → k ≡ absent_set v 2 → l ≡ absent_set v 3 → m ≡ absent_set v 4
        → eqb (bit_or (bit_or (bit_or (bit_or i j) k) l) m) 0 ≡ all_good (set_fields w resources v)
    sets_left i j k l m x y z t o = absent_test v i j k l m x y z t o ∙ past_fit

-- ---- a byte of an array of k bytes that were there from `at` on
pub chunk_at : (k : ℕ) (s b : List ℕ) (at i : ℕ) → i < k → at + k ≤ length s → IsWholeChunk (take (at + k - at) (drop at s)) b k
    → get_or b i 0 ≡ get_or s (at + i) 0
chunk_at k s b at i l h whole =
    let size : at + k - at ≡ k = omega arith in
    let rest = drop k (drop at s) in
    let both : b ++ rest ≡ drop at s = rw (whole.same, size) (take-append-drop k (drop at s)) in
    let long : length b ≡ k = rw whole.same whole.long in
    sym (get_or-append b rest 0 i (omega arith)) ∙ rw both (get_or-drop at s i 0)

-- ---- what a device says of sleep states: numbers of bytes, by their bytes
byte_first : (x y k l : ℕ) → x < 256 → k < 256 → eqb (x + 256 * y) (k + 256 * l) ≡ eqb x k && eqb y l
byte_first x y k l p q =
    same_test (eqb (x + 256 * y) (k + 256 * l)) (eqb x k && eqb y l)
    (λ e. let is = eqb-true (x + 256 * y) (k + 256 * l) e in tests.and-true _ _ (eq-eqb x k (omega (arith, p, q, is))) (eq-eqb y l (omega (arith, p, q, is))))
    (λ e. let h = both_true (eqb x k) (eqb y l) e in
    eq-eqb (x + 256 * y) (k + 256 * l) (omega (arith, eqb-true x k h.0, eqb-true y l h.1)))

four : (g : ℕ → Bool) → g 0 && g 1 && g 2 && g 3 ≡ every g 4
unfolding all_good each_from
four g = let all = every_field (λ k. k) g 4 in rw (← all) (simp (and-true, and_assoc))

eight : (a b c d e f g h n : ℕ) → a < 256 → b < 256 → c < 256 → d < 256 → e < 256 → f < 256 → g < 256
    → n ≡ a + 256 * (b + 256 * (c + 256 * (d + 256 * (e + 256 * (f + 256 * (g + 256 * h))))))
    → eqb n 0xffff_ffff_ffff_ffff
    ≡ eqb a 255 && (eqb b 255 && (eqb c 255 && (eqb d 255 && (eqb e 255 && (eqb f 255 && (eqb g 255 && eqb h 255))))))
eight a b c d e f g h n p q r s t u v is =
    let lit : 255 < 256 = omega arith in
    ap (λ z. eqb z 0xffff_ffff_ffff_ffff) is
    ∙ byte_first a _ 255 0xff_ffff_ffff_ffff p lit
    ∙ ap (λ z. eqb a 255 && z) (byte_first b _ 255 0xffff_ffff_ffff q lit
    ∙ ap (λ z. eqb b 255 && z) (byte_first c _ 255 0xff_ffff_ffff r lit
    ∙ ap (λ z. eqb c 255 && z) (byte_first d _ 255 0xffff_ffff s lit
    ∙ ap (λ z. eqb d 255 && z) (byte_first e _ 255 0xff_ffff t lit
    ∙ ap (λ z. eqb e 255 && z) (byte_first f _ 255 0xffff u lit
    ∙ ap (λ z. eqb f 255 && z) (byte_first g h 255 0xff v lit))))))

module _ (v : Device) where
  pub no_sleep_test : (a b c d e f g h i j n m : ℕ) → a < 256 → b < 256 → c < 256 → d < 256 → e < 256 → f < 256 → g < 256 → i < 256
      → a ≡ v.sxd 1 → b ≡ v.sxd 2 → c ≡ v.sxd 3 → d ≡ v.sxd 4 → e ≡ v.sxw 0 → f ≡ v.sxw 1 → g ≡ v.sxw 2 → h ≡ v.sxw 3 → i ≡ v.sxw 4
      → j ≡ v.deepest
      → n ≡ a + b * 256 + c * 0x1_0000 + d * 0x100_0000 + e * 0x1_0000_0000 + f * 0x100_0000_0000 + g * 0x1_0000_0000_0000 + h * 0x100_0000_0000_0000
      → m ≡ i + j * 256
      → eqb n 0xffff_ffff_ffff_ffff && eqb m 255 ≡ no_sleep v
  unfolding no_sleep
  no_sleep_test a b c d e f g h i j n m ia ib ic id ie if ig ii sa sb sc sd se sf sg sh si sj nis mis =
      let nested : n ≡ a + 256 * (b + 256 * (c + 256 * (d + 256 * (e + 256 * (f + 256 * (g + 256 * h)))))) = omega (arith, nis) in
      let low : m ≡ i + 256 * j = omega (arith, mis) in
      let lit : 255 < 256 = omega arith in
      let most = eight a b c d e f g h n ia ib ic id ie if ig nested in
      let rest : eqb m 255 ≡ eqb i 255 && eqb j 0 = ap (λ z. eqb z 255) low ∙ byte_first i j 255 0 ii lit in
      rw (
        most,
        rest,
        sa,
        sb,
        sc,
        sd,
        se,
        sf,
        sg,
        sh,
        si,
        sj,
        ← four (λ k. eqb (v.sxd (k + 1)) absent),
        ← five (λ x. eqb (v.sxw x) absent),
      )
      (simp (and_assoc))

  pub no_sleep_good : (w : ℕ) → no_sleep v ≡ true
      → true ≡ (all_good (sxd_fields w v) && all_good (sxw_fields w v) && all_good (deepest_fields w v))
  unfolding no_sleep sxd_fields sxw_fields deepest_fields sxd_good sxw_good deepest_good all_good
  no_sleep_good w h =
      let states : ℕ → Bool = λ k. eqb (v.sxd (k + 1)) absent in
      let limits : ℕ → Bool = λ x. eqb (v.sxw x) absent in
      let x = both_true (every states 4 && every limits 5) (eqb v.deepest 0) h in
      let y = both_true (every states 4) (every limits 5) x.0 in
      let s : every (λ k. sxd_good v (k + 1)) 4 ≡ true = every_of_lem _ 4 (λ i l. rw (every_at states 4 i y.0 l) refl) in
      let t : every (sxw_good v) 5 ≡ true = every_of_lem _ 5 (λ i l. rw (every_at limits 5 i y.1 l) refl) in
      let z : v.deepest ≡ 0 = eqb-true v.deepest 0 x.1 in
      rw (every_field (λ k. 4 + 5 * w + k) (λ k. sxd_good v (k + 1)) 4, every_field (λ k. 8 + 5 * w + k) (sxw_good v) 5, s, t, z) (simp (or-true))

-- ---- zeros to the record's end
bytes_pos : (k : ℕ) → 0 < 256 ^ k
bytes_pos zero = omega arith
bytes_pos (suc k) = omega (arith, pow-suc 256 k, bytes_pos k)

zeros : (w : ℕ) (t : List ℕ) (at k i : ℕ) → all_good (each_from (zero_field w t at) i k) ≡ eqb (read_le k t (at + 14 + 5 * w + i)) 0
unfolding read_le each_from all_good
zeros w t at zero i = refl
zeros w t at (suc k) i =
    let byte = get_or t (at + 14 + 5 * w + i) 0 in
    let next : at + 14 + 5 * w + suc i ≡ at + 14 + 5 * w + i + 1 = omega arith in
    rw (zeros w t at k (suc i), next) (sym (sum_zero 256 byte (read_le k t (at + 14 + 5 * w + i + 1)) (omega arith)))

-- a number of j + k bytes is zero where both its parts are
zero_parts : (j k : ℕ) (t : List ℕ) (at : ℕ) → eqb (read_le (j + k) t at) 0 ≡ eqb (read_le j t at) 0 && eqb (read_le k t (at + j)) 0
zero_parts j k t at = rw (read_split j k t at) (sum_zero (256 ^ j) (read_le j t at) (read_le k t (at + j)) (bytes_pos j))

-- a part that is asked twice
overlap : (p q r : Bool) → p && (q && r) ≡ (p && q) && (q && r)
overlap true true r = refl
overlap true false r = refl
overlap false q r = refl

asked_twice : (p r : Bool) → p && r ≡ (p && p) && r
asked_twice true r = refl
asked_twice false r = refl

-- six bytes by the four from the first and the four from the third on
zero_six : (t : List ℕ) (at : ℕ) → eqb (read_le 6 t at) 0 ≡ eqb (read_le 4 t at) 0 && eqb (read_le 4 t (at + 2)) 0
zero_six t at =
    rw (zero_parts 2 4 t at, zero_parts 2 2 t at, zero_parts 2 2 t (at + 2))
    (overlap (eqb (read_le 2 t at) 0) (eqb (read_le 2 t (at + 2)) 0) (eqb (read_le 2 t (at + 2 + 2)) 0))

-- the zeros by three numbers of four bytes: six bytes by the second and the third, and before them, where there are ten, four by the first
zeros_parts : (w : ℕ) (t : List ℕ) (at : ℕ) → Wide w
    → all_good (zero_fields w t at)
    ≡ (eqb (read_le 4 t (at + 14 + 5 * w)) 0 && eqb (read_le 4 t (at + 10 + 6 * w)) 0) && eqb (read_le 4 t (at + 12 + 6 * w)) 0
unfolding zero_fields
zeros_parts w t at h =
    let start = at + 14 + 5 * w in
    let i : start + 0 ≡ start = omega arith in
    decide (eqb w 8)
    (λ e.
    let is = eqb-true w 8 e in
    let j : at + 10 + 6 * w ≡ start + 4 = omega (arith, is) in
    let k : at + 12 + 6 * w ≡ start + 4 + 2 = omega (arith, is) in
    let c : 2 + w ≡ 4 + 6 = omega (arith, is) in
    rw (c, zeros w t at (4 + 6) 0, i, zero_parts 4 6 t start, zero_six t (start + 4), j, k) (sym (and_assoc (eqb (read_le 4 t start) 0) (eqb (read_le 4 t (start + 4)) 0) (eqb (read_le 4 t (start + 4 + 2)) 0))))
    (λ e.
    let is : w ≡ 4 = omega (arith, h.low, h.high, h.fours, eqb-false w 8 e) in
    let j : at + 10 + 6 * w ≡ start = omega (arith, is) in
    let k : at + 12 + 6 * w ≡ start + 2 = omega (arith, is) in
    let c : 2 + w ≡ 6 = omega (arith, is) in
    rw (c, zeros w t at 6 0, i, zero_six t start, j, k) (asked_twice (eqb (read_le 4 t start) 0) (eqb (read_le 4 t (start + 2)) 0)))

pub zeros_fours : (w : ℕ) (t : List ℕ) (at a b c : ℕ) → Wide w → a ≡ read_le 4 t (at + 14 + 5 * w) → b ≡ read_le 4 t (at + 10 + 6 * w)
    → c ≡ read_le 4 t (at + 12 + 6 * w)
    → eqb (bit_or (bit_or a b) c) 0 ≡ all_good (zero_fields w t at)
zeros_fours w t at a b c h f g i = rw (or_none, or_none, f, g, i) (sym (zeros_parts w t at h))

-- a table's record is one with zeros
pub table_record : (w resources : ℕ) (t : List ℕ) (d at : ℕ)
    → good_with true w resources t d at
    ≡ eqb (first_bad (record_size w) (device_fields w resources t d at)) (record_size w) && objects_good (device_at w t at)
unfolding good_with device_fields
table_record w resources t d at =
    let fields = device_fields w resources t d at in
    rw (none_bad (record_size w) fields (fields_inside w resources t d at)) (rw joined refl)
