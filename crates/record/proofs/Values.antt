-- A device by value, written: its sets by a loop, and its bytes as one run.
use mathlib.Core.Path.{◌≡◌, refl, ap, ◌∙◌}
use mathlib.Core.List.{List, [], ◌∷◌, ◌++◌, append_assoc}
use Prim.Native.Nat.{ℕ, zero, suc, ◌+◌, ◌*◌, ◌^◌, ◌≤◌, ◌<◌}
use native.Mathlib.Nat.{mul_comm, zero-add, suc-add}
use native.Mathlib.Omega.{arith}
use lib.ListN.{length, get_or, replicate, length-append}
use Rattle.words.specs.Words.{bytes_le, put}
use Rattle.words.proofs.Laws.{bytes_length}
use Rattle.words.proofs.Put.{Emitted, put_then}
use Rattle.rules.specs.Index.{each_from, join_from, join}
use Rattle.rules.specs.Station as station
use Rattle.rules.specs.Station.{fields_size, zeros_size, record_size, field_bytes}
use Rattle.laws.proofs.Parts.{join_length}
use Rattle.laws.proofs.Joined.{SameLength, joined_none, joined_room, joined_small, joined_next, joined_done}
use Rattle.record.specs.declared.device.Device.{Device}
use Rattle.record.specs.Value.{device_value, sets_bytes, value_bytes}

-- a device's bytes are those of the station's device
pub held_bytes : (w : ℕ) (v : station.Device) → value_bytes w (device_value v) ≡ field_bytes w v
unfolding device_value sets_bytes value_bytes field_bytes each_from join_from
held_bytes w v = refl

-- ---- the five sets, by a loop
abbrev pub set_bytes : ℕ → List ℕ → ℕ → List ℕ
set_bytes w sets k = bytes_le w (get_or sets k 0)

set_lengths : (w : ℕ) (sets : List ℕ) → SameLength (set_bytes w sets) w
set_lengths w sets = record { long = λ j. bytes_length w (get_or sets j 0) }

module _ (w : ℕ) (sets d l : List ℕ) (at i p : ℕ) (room : at + 5 * w ≤ length d) (e : Emitted d at (join (set_bytes w sets) i) l p)
    (h : i < 5) where
  fits : at + w * 5 ≤ length d
  fits = omega (arith, mul_comm w 5)

  pub set_room : p + w ≤ length l
  set_room = joined_room (set_bytes w sets) w 5 5 d l at i p (set_lengths w sets) fits refl e h

  pub set_small : length d < 2 ^ 64 → p + w < 2 ^ 64
  set_small u = joined_small (set_bytes w sets) w 5 5 d l at i p (set_lengths w sets) fits refl e h w refl u

  pub set_next : (l' : List ℕ) → l' ≡ put l p (bytes_le w (get_or sets i 0)) → Emitted d at (join (set_bytes w sets) (i + 1)) l' (p + w)
  set_next l' q = joined_next (set_bytes w sets) w 5 5 d l at i p (set_lengths w sets) fits refl e h w l' refl q

pub sets_done : (w : ℕ) (sets d l : List ℕ) (at i p : ℕ) → Emitted d at (join (set_bytes w sets) i) l p → i ≤ 5 → 5 ≤ i
    → l ≡ put d at (sets_bytes w sets)
unfolding sets_bytes
sets_done w sets d l at i p e h g = joined_done (set_bytes w sets) 5 5 d l at i p e h g refl

pub ruleset sets_loop = (joined_none, set_room, set_small, set_next, sets_done)

-- ---- the whole device: five runs, each where the one before ends
sets_long : (w : ℕ) (sets : List ℕ) → length (sets_bytes w sets) ≡ 5 * w
unfolding sets_bytes
sets_long w sets = join_length (set_bytes w sets) w (λ j. bytes_length w (get_or sets j 0)) 0 5 ∙ mul_comm w 5

module _ (w : ℕ) (d : List ℕ) (at : ℕ) (v : Device) (room : at + fields_size w ≤ length d) (four : length v.sxd ≡ 4)
    (five : length v.sxw ≡ 5) where
  abbrev head : List ℕ
  head = v.parent ∷ v.ps ∷ v.pr ∷ v.flags ∷ []

  pub device_put : (a b c e l : List ℕ) → a ≡ put d at head → b ≡ put a (at + 4) (sets_bytes w v.sets)
      → c ≡ put b (at + 4 + 5 * w) v.sxd → e ≡ put c (at + 8 + 5 * w) v.sxw → l ≡ put e (at + 13 + 5 * w) (v.deepest ∷ [])
      → (l ≡ put d at (value_bytes w v)) × (length (value_bytes w v) ≡ fields_size w)
  unfolding value_bytes
  device_put a b c e l o p q r s =
      let sets = sets_bytes w v.sets in
      let n = sets_long w v.sets in
      let n1 = length-append head sets in
      let n2 = length-append (head ++ sets) v.sxd in
      let n3 = length-append (head ++ sets ++ v.sxd) v.sxw in
      let p1 : b ≡ put d at (head ++ sets) = put_then d b at (at + 4) head sets (omega arith) refl (rw o at p) in
      let p2 : c ≡ put d at (head ++ sets ++ v.sxd) =
      put_then d c at (at + 4 + 5 * w) (head ++ sets) v.sxd (omega (arith, n, n1)) (omega (arith, n, n1)) (rw p1 at q) in
      let p3 : e ≡ put d at (head ++ sets ++ v.sxd ++ v.sxw) =
      put_then d e at (at + 8 + 5 * w) (head ++ sets ++ v.sxd) v.sxw (omega (arith, n, n1, n2)) (omega (arith, n, n1, n2))
      (rw p2 at r) in (
        put_then d l at (at + 13 + 5 * w) (head ++ sets ++ v.sxd ++ v.sxw) (v.deepest ∷ []) (omega (arith, n, n1, n2, n3))
            (omega (arith, n, n1, n2, n3)) (rw p3 at s),
        length-append (head ++ sets ++ v.sxd ++ v.sxw) (v.deepest ∷ []) ∙ omega (arith, n, n1, n2, n3),
      )

-- ---- the record: the fields, then zeros as one number of w bytes and one of two
zero_bytes : (k m : ℕ) → bytes_le k 0 ++ replicate m 0 ≡ replicate (k + m) 0
unfolding bytes_le
zero_bytes zero m = rw (zero-add m) refl
zero_bytes (suc k) m = rw (suc-add k m) (ap (λ (l : List ℕ). 0 ∷ l) (zero_bytes k m))

zeros_long : (w : ℕ) → bytes_le w 0 ++ bytes_le 2 0 ≡ replicate (zeros_size w) 0
unfolding bytes_le
zeros_long w = let c : zeros_size w ≡ w + 2 = omega arith in rw c (zero_bytes w 2)

module _ (w : ℕ) (d : List ℕ) (at : ℕ) (v : Device) (room : at + record_size w ≤ length d) where
  pub record_put : (a b c : List ℕ) → (a ≡ put d at (value_bytes w v)) × (length (value_bytes w v) ≡ fields_size w)
      → b ≡ put a (at + 14 + 5 * w) (bytes_le w 0)
      → c ≡ put b (at + 14 + 6 * w) (bytes_le 2 0) → c ≡ put d at (value_bytes w v ++ replicate (zeros_size w) 0)
  record_put a b c o p q =
      let n = o.1 in
      let m = bytes_length w 0 in
      let n1 = length-append (value_bytes w v) (bytes_le w 0) in
      let p1 : b ≡ put d at (value_bytes w v ++ bytes_le w 0) =
      put_then d b at (at + 14 + 5 * w) (value_bytes w v) (bytes_le w 0) (omega (arith, n)) (omega (arith, n)) (rw o.0 at p) in
      let p2 : c ≡ put d at (value_bytes w v ++ bytes_le w 0 ++ bytes_le 2 0) =
      put_then d c at (at + 14 + 6 * w) (value_bytes w v ++ bytes_le w 0) (bytes_le 2 0) (omega (arith, n, n1, m)) (omega (arith, n, n1, m))
      (rw p1 at q) in
      p2 ∙ ap (put d at) (append_assoc (value_bytes w v) (bytes_le w 0) (bytes_le 2 0)
      ∙ ap (λ (l : List ℕ). value_bytes w v ++ l) (zeros_long w))
