-- A device's fields and the bytes of its record are two views of one thing, for every width: what is read is written back as the same
-- bytes, and what is written is read back as the same fields.
use mathlib.Core.Path.{◌≡◌, refl, sym, ap, ◌∙◌, fun_ext}
use mathlib.Core.Bool.{cond}
use mathlib.Core.List.{List, [], ◌∷◌, ◌++◌, append_assoc}
use Prim.Native.Nat.{ℕ, zero, suc, ◌+◌, ◌*◌, ◌-◌, ◌^◌, ◌≤◌, ◌<◌}
use native.Mathlib.Nat.{add-zero, mul-zero, mul-suc, mul_comm, mul-le-mul, mod-eq_of_lt, lt_of_lt_of_le}
use lib.Pow.{pow_mono}
use native.Mathlib.Omega.{arith}
use borrow.Author.Tests.{ltb-true, ltb-false, ne_eqb}
use lib.Dec.{eqb, ltb}
use lib.ListN.{length, get_or, take, drop, replicate, length-append, length-take, length-drop, length-replicate, take-append-drop}
use lib.ListN.{get_or-eq_default}
use lib.Seq.{length-take-le, get_or-take, get_or-drop}
use Rattle.sets.proofs.Laws.{decide}
use Rattle.words.specs.Words.{read_le, bytes_le}
use Rattle.words.proofs.Laws.{read_drop, read_append, read_lt, bytes_length, read_bytes_at, bytes_read}
use Rattle.rules.specs.Index.{below, each_from, each, join_from, join}
use Rattle.rules.specs.Station.{Device, absent, record_size, fields_size, zeros_size, device_at, field_bytes}
use Rattle.rules.specs.Describe.{record_bytes}
use Rattle.rules.proofs.Index.{below_in, below_out}
use Rattle.laws.specs.Inverse.{AllBytes}
use Rattle.laws.proofs.Image.{bytes_bits}
use Rattle.laws.proofs.Parts.{parts_meet, each_part, join_part, join_same, join_length, join_at, get_each, each_length, get_past}

part_bytes : (t : List ℕ) → AllBytes t → (x n : ℕ) → AllBytes (take n (drop x t))
part_bytes t h x n i =
    decide (ltb i n)
    (λ e. rw (get_or-take n (drop x t) i 0 (ltb-true _ _ e), get_or-drop x t i 0) (h (x + i)))
    (λ e. rw (get_or-eq_default (take n (drop x t)) 0 {n = i} (omega (arith, length-take n (drop x t), ltb-false i n e))) (omega arith))

-- a number is written as the bytes that it was read from
pub number_part : (w : ℕ) (t : List ℕ) → AllBytes t → (x : ℕ) → x + w ≤ length t → bytes_le w (read_le w t x) ≡ take w (drop x t)
number_part w t h x l =
    let p = take w (drop x t) in
    let long : length p ≡ w = length-take-le w (drop x t) (omega (arith, length-drop x t)) in
    let same : read_le w p 0 ≡ read_le w t x =
    sym (read_append w p (drop w (drop x t)) 0 (omega (arith, long)))
    ∙ ap (λ (s : List ℕ). read_le w s 0) (take-append-drop w (drop x t)) ∙ read_drop w t x 0 ∙ ap (read_le w t) (add-zero x) in
    rw (← same) (bytes_read w p long (part_bytes t h x w))

-- set k ends before the fields do
pub set_inside : (w k : ℕ) → k < 5 → w * k + w ≤ 5 * w
set_inside w k h =
    let m : w * suc k ≤ w * 5 = mul-le-mul {n₁ = w} {m₁ = suc k} {n₂ = w} {m₂ = 5} (omega arith) (omega arith) in
    omega (arith, m, mul-suc w k)

module _ (w : ℕ) (t : List ℕ) (h : AllBytes t) (at : ℕ) (l : at + fields_size w ≤ length t) where
  abbrev v : Device
  v = device_at w t at

  head_part : (v.parent ∷ v.ps ∷ v.pr ∷ v.flags ∷ []) ≡ take 4 (drop at t)
  unfolding device_at each_from
  head_part = rw (add-zero at) at (each_part t at 0 4 (omega arith))

  sets_part : join_from (λ k. bytes_le w (v.sets k)) 0 5 ≡ take (5 * w) (drop (at + 4) t)
  unfolding device_at
  sets_part =
      join_same _ (λ k. take w (drop (at + 4 + w * k) t)) 0 5
      (λ k i u. ap (bytes_le w) (below_in 5 0 (λ j. read_le w t (at + 4 + w * j)) k (omega arith)) ∙ number_part w t h (at + 4 + w * k)
      (omega (arith, set_inside w k (omega arith))))
      ∙ join_part t (at + 4) w 0 5 ∙ rw (mul-zero w, add-zero (at + 4), mul_comm w 5) refl

  sxd_part : each_from (λ k. v.sxd (k + 1)) 0 4 ≡ take 4 (drop (at + 4 + 5 * w) t)
  unfolding device_at each_from below
  sxd_part =
      let e : at + 3 + 5 * w + 1 ≡ at + 4 + 5 * w = omega arith in
      each_part t (at + 3 + 5 * w) 1 4 (omega arith) ∙ ap (λ (n : ℕ). take 4 (drop n t)) e

  sxw_part : each_from v.sxw 0 5 ≡ take 5 (drop (at + 8 + 5 * w) t)
  unfolding device_at each_from below
  sxw_part = each_part t (at + 8 + 5 * w) 0 5 (omega arith) ∙ ap (λ (n : ℕ). take 5 (drop n t)) (add-zero (at + 8 + 5 * w))

  deepest_part : (v.deepest ∷ []) ≡ take 1 (drop (at + 13 + 5 * w) t)
  unfolding device_at each_from
  deepest_part = rw (add-zero (at + 13 + 5 * w)) at (each_part t (at + 13 + 5 * w) 0 1 (omega arith))

  -- m elements from y on, where n from x on end
  meet : (x n m y k : ℕ) → y ≡ x + n → k ≡ n + m → take n (drop x t) ++ take m (drop y t) ≡ take k (drop x t)
  meet x n m y k e f = rw (e, f) (parts_meet t x n m)

  pub fields_back : field_bytes w v ≡ take (fields_size w) (drop at t)
  unfolding field_bytes
  fields_back =
      let sxd = each (λ k. v.sxd (k + 1)) 4 in
      let sxw = each v.sxw 5 in
      let last = v.deepest ∷ [] in
      let a : (v.parent ∷ v.ps ∷ v.pr ∷ v.flags ∷ []) ++ join (λ k. bytes_le w (v.sets k)) 5 ≡ take (4 + 5 * w) (drop at t) =
      ap (λ (p : List ℕ). p ++ join (λ k. bytes_le w (v.sets k)) 5) head_part ∙ ap (λ (p : List ℕ). take 4 (drop at t) ++ p) sets_part
      ∙ meet at 4 (5 * w) (at + 4) (4 + 5 * w) refl refl in
      let b : take (4 + 5 * w) (drop at t) ++ sxd ≡ take (8 + 5 * w) (drop at t) =
      rw sxd_part (meet at (4 + 5 * w) 4 (at + 4 + 5 * w) (8 + 5 * w) (omega arith) (omega arith)) in
      let c : take (8 + 5 * w) (drop at t) ++ sxw ≡ take (13 + 5 * w) (drop at t) =
      rw sxw_part (meet at (8 + 5 * w) 5 (at + 8 + 5 * w) (13 + 5 * w) (omega arith) (omega arith)) in
      let d : take (13 + 5 * w) (drop at t) ++ last ≡ take (14 + 5 * w) (drop at t) =
      rw deepest_part (meet at (13 + 5 * w) 1 (at + 13 + 5 * w) (14 + 5 * w) (omega arith) (omega arith)) in
      ap (λ (p : List ℕ). p ++ sxd ++ sxw ++ last) a ∙ ap (λ (p : List ℕ). p ++ sxw ++ last) b ∙ ap (λ (p : List ℕ). p ++ last) c ∙ d

-- ---- what is written is read back as the same fields

regroup : (h a s j x y z : List ℕ) → h ++ (a ++ (s ++ j)) ++ x ++ y ++ z ≡ h ++ a ++ s ++ (j ++ x ++ y ++ z)
regroup h a s j x y z = simp append_assoc

pub fields_long : (w : ℕ) (v : Device) → length (field_bytes w v) ≡ fields_size w
unfolding field_bytes
fields_long w v =
    let head = v.parent ∷ v.ps ∷ v.pr ∷ v.flags ∷ [] in
    let sets = join (λ k. bytes_le w (v.sets k)) 5 in
    let sxd = each (λ k. v.sxd (k + 1)) 4 in
    let sxw = each v.sxw 5 in
    length-append (head ++ sets ++ sxd ++ sxw) (v.deepest ∷ [])
    ∙ omega (
      arith,
      length-append (head ++ sets ++ sxd) sxw,
      length-append (head ++ sets) sxd,
      length-append head sets,
      join_length (λ k. bytes_le w (v.sets k)) w (λ j. bytes_length w (v.sets j)) 0 5,
      each_length (λ k. v.sxd (k + 1)) 0 4,
      each_length v.sxw 0 5,
      mul_comm w 5,
    )

pub record_long : (w : ℕ) (v : Device) → length (record_bytes w v) ≡ record_size w
unfolding record_bytes
record_long w v =
    length-append (field_bytes w v) (replicate (zeros_size w) 0) ∙ omega (arith, fields_long w v, length-replicate {A = ℕ} (zeros_size w) 0)

-- a device whose numbers outside their ranges stand for nothing, as they do in one that was read, and whose sets fit in w bytes
pub record FieldsFit (w : ℕ) (v : Device) : Type 0 where
  pub sets : (k : ℕ) → k < 5 → v.sets k < 256 ^ w
  pub no_set : (k : ℕ) → 5 ≤ k → v.sets k ≡ 0
  pub no_s0d : v.sxd 0 ≡ absent
  pub no_sxd : (x : ℕ) → 5 ≤ x → v.sxd x ≡ absent
  pub no_sxw : (x : ℕ) → 5 ≤ x → v.sxw x ≡ absent

module _ (w : ℕ) (v : Device) (g : FieldsFit w v) where
  abbrev head : List ℕ
  head = v.parent ∷ v.ps ∷ v.pr ∷ v.flags ∷ []

  abbrev set_bytes : ℕ → List ℕ
  set_bytes k = bytes_le w (v.sets k)

  abbrev sxd : List ℕ
  sxd = each (λ k. v.sxd (k + 1)) 4

  abbrev sxw : List ℕ
  sxw = each v.sxw 5

  sets_long : (k : ℕ) → length (head ++ join_from set_bytes 0 k) ≡ 4 + w * k
  sets_long k = length-append head (join_from set_bytes 0 k) ∙ ap (λ (n : ℕ). 4 + n)
      (join_length set_bytes w (λ j. bytes_length w (v.sets j)) 0 k)

  set_back : (k : ℕ) → k < 5 → read_le w (field_bytes w v) (4 + w * k) ≡ v.sets k
  unfolding field_bytes
  set_back k h =
      let z : 0 + k ≡ k = omega arith in
      let rest = join_from set_bytes (suc k) (5 - suc k) ++ sxd ++ sxw ++ v.deepest ∷ [] in
      let same : head ++ join set_bytes 5 ++ sxd ++ sxw ++ v.deepest ∷ [] ≡ head ++ join_from set_bytes 0 k ++ bytes_le w (v.sets k) ++ rest =
      ap (λ (l : List ℕ). head ++ l ++ sxd ++ sxw ++ v.deepest ∷ []) (rw z at (join_at set_bytes 0 5 k h))
      ∙ regroup head (join_from set_bytes 0 k) (set_bytes k) (join_from set_bytes (suc k) (5 - suc k)) sxd sxw (v.deepest ∷ []) in
      ap (λ (l : List ℕ). read_le w l (4 + w * k)) same
      ∙ read_bytes_at w (v.sets k) (head ++ join_from set_bytes 0 k) rest (4 + w * k) (sets_long k) ∙ mod-eq_of_lt (g.sets k h)

  -- the bytes before `_S1D`, before `_S0W` and before the last
  abbrev front : List ℕ
  front = head ++ join set_bytes 5

  front_long : length front ≡ 4 + 5 * w
  front_long = sets_long 5 ∙ ap (λ (n : ℕ). 4 + n) (mul_comm w 5)

  sxd_long : length (front ++ sxd) ≡ 8 + 5 * w
  sxd_long = length-append front sxd ∙ omega (arith, front_long, each_length (λ k. v.sxd (k + 1)) 0 4)

  sxw_long : length (front ++ sxd ++ sxw) ≡ 13 + 5 * w
  sxw_long = length-append (front ++ sxd) sxw ∙ omega (arith, sxd_long, each_length v.sxw 0 5)

  sxd_back : (x : ℕ) → x < 4 → get_or (field_bytes w v) (4 + 5 * w + x) 0 ≡ v.sxd (x + 1)
  unfolding field_bytes
  sxd_back x h =
      let rest = sxw ++ v.deepest ∷ [] in
      let z : 0 + x ≡ x = omega arith in
      ap (λ (l : List ℕ). get_or l (4 + 5 * w + x) 0) (append_assoc (front ++ sxd) sxw (v.deepest ∷ []) ∙ append_assoc front sxd rest)
      ∙ get_past front (sxd ++ rest) (4 + 5 * w) x front_long ∙ get_each (λ k. v.sxd (k + 1)) rest 0 4 x h
      ∙ ap (λ (k : ℕ). v.sxd (k + 1)) z

  state_back : (x : ℕ) → x < 5 → cond (eqb x 0) absent (get_or (field_bytes w v) (3 + 5 * w + x) 0) ≡ v.sxd x
  state_back zero h = sym g.no_s0d
  state_back (suc x) h =
      let a : 3 + 5 * w + suc x ≡ 4 + 5 * w + x = omega arith in
      let b : x + 1 ≡ suc x = omega arith in
      rw (ne_eqb (suc x) 0 (λ z. omega arith), a, sxd_back x (omega arith), b) refl

  sxw_back : (x : ℕ) → x < 5 → get_or (field_bytes w v) (8 + 5 * w + x) 0 ≡ v.sxw x
  unfolding field_bytes
  sxw_back x h =
      let z : 0 + x ≡ x = omega arith in
      ap (λ (l : List ℕ). get_or l (8 + 5 * w + x) 0) (append_assoc (front ++ sxd) sxw (v.deepest ∷ []))
      ∙ get_past (front ++ sxd) (sxw ++ v.deepest ∷ []) (8 + 5 * w) x sxd_long ∙ get_each v.sxw (v.deepest ∷ []) 0 5 x h
      ∙ ap v.sxw z

  deepest_back : get_or (field_bytes w v) (13 + 5 * w) 0 ≡ v.deepest
  unfolding field_bytes
  deepest_back = rw (add-zero (13 + 5 * w)) at (get_past (front ++ sxd ++ sxw) (v.deepest ∷ []) (13 + 5 * w) 0 sxw_long)

  head_back : (get_or (field_bytes w v) 0 0 ≡ v.parent) × (get_or (field_bytes w v) 1 0 ≡ v.ps) × (get_or (field_bytes w v) 2 0 ≡ v.pr)
      × (get_or (field_bytes w v) 3 0 ≡ v.flags)
  unfolding field_bytes
  head_back = (refl, refl, refl, refl)

  pub device_back : device_at w (field_bytes w v) 0 ≡ v
  unfolding device_at
  device_back =
      let sets : below 5 0 (λ k. read_le w (field_bytes w v) (4 + w * k)) ≡ v.sets =
      fun_ext (λ k. decide (ltb k 5) (λ e. below_in 5 0 _ k (ltb-true k 5 e) ∙ set_back k (ltb-true k 5 e))
      (λ e. below_out 5 0 _ k (ltb-false k 5 e) ∙ sym (g.no_set k (ltb-false k 5 e)))) in
      let limits : below 5 absent (λ x. get_or (field_bytes w v) (8 + 5 * w + x) 0) ≡ v.sxw =
      fun_ext (λ x. decide (ltb x 5) (λ e. below_in 5 absent _ x (ltb-true x 5 e) ∙ sxw_back x (ltb-true x 5 e))
      (λ e. below_out 5 absent _ x (ltb-false x 5 e) ∙ sym (g.no_sxw x (ltb-false x 5 e)))) in
      let states : below 5 absent (λ x. cond (eqb x 0) absent (get_or (field_bytes w v) (3 + 5 * w + x) 0)) ≡ v.sxd =
      fun_ext (λ x. decide (ltb x 5) (λ e. below_in 5 absent _ x (ltb-true x 5 e) ∙ state_back x (ltb-true x 5 e))
      (λ e. below_out 5 absent _ x (ltb-false x 5 e) ∙ sym (g.no_sxd x (ltb-false x 5 e)))) in
      let h = head_back in
      rw (sets, states, limits, deepest_back, h.0, h.1, h.2, h.3) refl

-- the fields that were read with some width fit where their sets do, since what stands for nothing was read so
pub read_fits : (w u : ℕ) (t : List ℕ) (at : ℕ) → ((k : ℕ) → k < 5 → (device_at w t at).sets k < 256 ^ u) → FieldsFit u (device_at w t at)
unfolding device_at below
read_fits w u t at h =
    record {
      sets = h;
      no_set = λ k l. below_out 5 0 (λ j. read_le w t (at + 4 + w * j)) k l;
      no_s0d = refl;
      no_sxd = λ x l. below_out 5 absent (λ y. cond (eqb y 0) absent (get_or t (at + 3 + 5 * w + y) 0)) x l;
      no_sxw = λ x l. below_out 5 absent (λ y. get_or t (at + 8 + 5 * w + y) 0) x l;
    }

-- what was read from bytes fits where sets are as wide or wider
pub wider_fits : (w u : ℕ) (t : List ℕ) (at : ℕ) → AllBytes t → w ≤ u → FieldsFit u (device_at w t at)
unfolding device_at
wider_fits w u t at b h =
    read_fits w u t at
    (λ k l. rw (below_in 5 0 (λ j. read_le w t (at + 4 + w * j)) k l, bytes_bits u)
    (lt_of_lt_of_le (rw (bytes_bits w) at (read_lt w t (at + 4 + w * k) b)) (pow_mono (omega arith))))
