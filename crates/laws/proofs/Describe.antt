-- What a good table describes can be said and makes this table, once over the width.
use mathlib.Core.Path.{◌≡◌, refl, sym, ap, ◌∙◌}
use mathlib.Core.Bool.{true}
use mathlib.Core.List.{List, [], ◌∷◌, ◌++◌}
use Prim.Native.Nat.{ℕ, ◌+◌, ◌*◌, ◌≤◌, ◌<◌}
use native.Mathlib.Nat.{add-zero, zero-add, mul-zero}
use native.Mathlib.Omega.{arith}
use borrow.Author.Tests.{eqb-true, leb-true, le-leb}
use lib.ListN.{length, get_or, take, drop, replicate, length-drop}
use lib.Seq.{take_all, length-take-le}
use Rattle.words.specs.Words.{read_le, bytes_le}
use Rattle.rules.specs.Index.{each_from, join_from}
use Rattle.rules.specs.Station.{version_good, version_of, width, record_size, fields_size, count_r, count_d, device_start, device_at, field_bytes}
use Rattle.rules.specs.Describe.{described_width, described_size, described_r, described_d, described_device, resources_of, devices_of}
use Rattle.rules.specs.Describe.{header_bytes, record_bytes, table_bytes}
use Rattle.rules.specs.Table.{header_good}
use Rattle.rules.specs.Write.{described_counts_good}
use Rattle.rules.proofs.Width.{width_wide}
use Rattle.laws.proofs.Tests.{both_true, and-true}
use Rattle.laws.proofs.Accepted.{Accepted, record_inside}
use Rattle.laws.specs.Inverse.{AllBytes, Representable}
use Rattle.laws.proofs.Parts.{parts_meet, each_part, zeros_part, join_part, join_same, join_length, get_join}
use Rattle.laws.proofs.Fields.{number_part, fields_back, fields_long, device_back, wider_fits}
use Rattle.laws.proofs.Same.{same_device}

-- what a good header says
pub header_says : (t : List ℕ) → header_good t ≡ true
    → (8 ≤ length t) × (get_or t 0 0 ≡ 0x50) × (get_or t 1 0 ≡ 0x57) × (get_or t 2 0 ≡ 0x54) × (version_good (version_of t) ≡ true)
    × (get_or t 7 0 ≡ 0)
unfolding header_good
header_says t e =
    let end = both_true _ _ e in
    let version = both_true _ _ end.0 in
    let third = both_true _ _ version.0 in
    let second = both_true _ _ third.0 in
    let first = both_true _ _ second.0 in (
      leb-true 8 (length t) first.0,
      eqb-true (get_or t 0 0) 0x50 first.1,
      eqb-true (get_or t 1 0) 0x57 second.1,
      eqb-true (get_or t 2 0) 0x54 third.1,
      version.1,
      eqb-true (get_or t 7 0) 0 end.1,
    )

-- ---- written after described
module _ (t : List ℕ) (b : AllBytes t) (a : Accepted t) where
  abbrev w : ℕ
  w = width t

  -- the byte at which device d's record starts
  abbrev start : ℕ → ℕ
  start d = device_start w t d

  abbrev described : ℕ → List ℕ
  described d = field_bytes described_width (device_at w t (start d))

  pub described_long : length (devices_of t) ≡ described_size * count_d t
  unfolding devices_of
  described_long = join_length described described_size (λ d. fields_long described_width (device_at w t (start d))) 0 (count_d t)

  pub resources_long : length (resources_of t) ≡ 4 * count_r t
  unfolding resources_of
  resources_long = length-take-le (4 * count_r t) (drop 8 t) (unfold device_start in omega (arith, length-drop 8 t, a.long))

  counts_r : described_r (resources_of t) ≡ count_r t
  counts_r = omega (arith, resources_long)

  counts_d : described_d (devices_of t) ≡ count_d t
  counts_d = omega (arith, described_long)

  -- the described device is the table's
  device_same : (d : ℕ) → d < count_d t → described_device (devices_of t) d ≡ device_at w t (start d)
  unfolding devices_of
  device_same d h =
      let v = device_at w t (start d) in
      same_device described_width (devices_of t) (field_bytes described_width v) (described_size * d) 0
      (λ i u. let z : 0 + i ≡ i = omega arith in
      rw z (get_join described described_size (λ j. fields_long described_width (device_at w t (start j))) (count_d t) d i h u))
      ∙ device_back described_width v (wider_fits w described_width t (start d) b (width_wide t).high)

  -- what it describes can be said
  pub described_representable : Representable (version_of t) (resources_of t) (devices_of t)
  unfolding width described_counts_good
  described_representable =
      record {
        known = (header_says t a.header).4;
        resources = rw counts_r resources_long;
        devices = rw counts_d described_long;
        counts = rw (counts_r, counts_d) (and-true _ _ (le-leb _ _ a.resources) (le-leb _ _ a.devices));
        sets = λ d u k l. rw (device_same d (omega (arith, counts_d))) ((wider_fits w w t (start d) b (omega arith)).sets k l);
      }

  record_back : (d : ℕ) → d < count_d t → record_bytes w (described_device (devices_of t) d) ≡ take (record_size w) (drop (start d) t)
  unfolding record_bytes
  record_back d h =
      let x = start d in
      let l = record_inside t d a.long h in
      let zeros : replicate (2 + w) 0 ≡ take (2 + w) (drop (x + fields_size w) t) =
      zeros_part t (x + fields_size w) (2 + w) (omega arith)
      (λ i u. let e : x + fields_size w + i ≡ x + 14 + 5 * w + i = omega arith in rw e (a.zeros d h i u)) in
      let size : record_size w ≡ fields_size w + (2 + w) = omega arith in
      rw (device_same d h, fields_back w t b x (omega arith), zeros, size) (parts_meet t x (fields_size w) (2 + w))

  header_back : header_bytes (version_of t) (count_r t) (count_d t) ≡ take 8 t
  unfolding header_bytes each_from
  header_back =
      let h = header_says t a.header in
      let pair : bytes_le 2 (read_le 2 t 4) ≡ get_or t 4 0 ∷ get_or t 5 0 ∷ [] =
      number_part 2 t b 4 (omega arith) ∙ sym (each_part t 4 0 2 (omega arith)) in
      let all : get_or t 0 0 ∷ get_or t 1 0 ∷ get_or t 2 0 ∷ get_or t 3 0 ∷ get_or t 4 0 ∷ get_or t 5 0 ∷ get_or t 6 0 ∷ get_or t 7 0 ∷ [] ≡ take 8 t =
      each_part t 0 0 8 (omega arith) in
      rw pair (rw (h.1, h.2, h.3, h.5) at all)

  pub table_back : table_bytes (version_of t) (resources_of t) (devices_of t) ≡ t
  unfolding width table_bytes resources_of device_start
  table_back =
      let n = record_size w * count_d t in
      let front = 8 + 4 * count_r t in
      let records : join_from (λ d. record_bytes w (described_device (devices_of t) d)) 0 (count_d t) ≡ take n (drop front t) =
      join_same (λ d. record_bytes w (described_device (devices_of t) d)) (λ d. take (record_size w) (drop (front + record_size w * d) t)) 0
      (count_d t) (λ d i u. record_back d (omega arith)) ∙ join_part t front (record_size w) 0 (count_d t)
      ∙ rw (mul-zero (record_size w), add-zero front) refl in
      let long : length t ≡ front + n = a.long in
      let whole : take 8 t ++ take (4 * count_r t) (drop 8 t) ++ take n (drop front t) ≡ t =
      ap (λ (l : List ℕ). l ++ take n (drop front t)) (parts_meet t 0 8 (4 * count_r t)) ∙ rw (zero-add front) at (parts_meet t 0 front n)
      ∙ take_all (front + n) t (omega arith) in
      rw (counts_r, counts_d, header_back, records) whole
