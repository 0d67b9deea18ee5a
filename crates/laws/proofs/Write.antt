-- The table that whole records make, their sets fitting in it: where its parts stand, and that it describes these records, once over the
-- width.
use mathlib.Core.Path.{◌≡◌, refl, ap, ◌∙◌}
use mathlib.Core.Bool.{true}
use mathlib.Core.List.{List, [], ◌∷◌, ◌++◌}
use Prim.Native.Nat.{ℕ, ◌+◌, ◌*◌, ◌^◌, ◌<◌}
use native.Mathlib.Nat.{mod-eq_of_lt}
use native.Mathlib.Omega.{arith}
use borrow.Author.Tests.{eqb-true}
use lib.Dec.{eqb}
use lib.ListN.{length, get_or, take, drop, replicate, length-append, get_or-replicate, get_or-append}
use lib.Seq.{take_at, take_all}
use Rattle.sets.proofs.Laws.{decide}
use Rattle.words.specs.Words.{bytes_le}
use Rattle.words.proofs.Laws.{read_bytes_at}
use Rattle.rules.specs.Index.{join}
use Rattle.rules.specs.Station.{version_good, version_width, version_of, width, record_size, fields_size, count_r, count_d, device_start}
use Rattle.rules.specs.Station.{device_at, field_bytes}
use Rattle.rules.specs.Table.{mark}
use Rattle.rules.specs.Describe.{described_width, described_size, described_r, described_d, described_device, resources_of, devices_of}
use Rattle.rules.specs.Describe.{header_bytes, record_bytes, table_bytes}
use Rattle.rules.specs.Write.{written_size}
use Rattle.laws.specs.Inverse.{AllBytes, Representable}
use Rattle.laws.proofs.Parts.{join_part, join_same, join_length, get_join, get_past}
use Rattle.laws.proofs.Fields.{record_long, fields_back, fields_long, device_back, read_fits}
use Rattle.laws.proofs.Same.{same_device}

-- a version that there is fits in its two bytes
known_version : (version : ℕ) → version_good version ≡ true → version < 256 ^ 2
unfolding version_good
known_version version e =
    decide (eqb version 1) (λ h. omega (arith, eqb-true version 1 h)) (λ h. omega (arith, eqb-true version 2 (rw h at e)))

-- ---- of any lists
module _ (version : ℕ) (rs ds : List ℕ) where
  abbrev w : ℕ
  w = version_width version

  abbrev t : List ℕ
  t = table_bytes version rs ds

  abbrev front : List ℕ
  front = header_bytes version (described_r rs) (described_d ds) ++ rs

  abbrev written : ℕ → List ℕ
  written d = record_bytes w (described_device ds d)

  front_byte : (d i : ℕ) → i < fields_size w → get_or (written d) i 0 ≡ get_or (field_bytes w (described_device ds d)) (0 + i) 0
  unfolding record_bytes
  front_byte d i u =
      let v = described_device ds d in
      let z : 0 + i ≡ i = omega arith in
      rw z (get_or-append (field_bytes w v) (replicate (2 + w) 0) 0 i (omega (arith, fields_long w v)))

  -- the header states the counts
  pub count_r_lem : count_r t ≡ described_r rs
  unfolding table_bytes header_bytes bytes_le
  count_r_lem = refl

  pub count_d_lem : count_d t ≡ described_d ds
  unfolding table_bytes header_bytes bytes_le
  count_d_lem = refl

  -- the resources follow it
  pub resource_byte : (i : ℕ) → i < length rs → get_or t (8 + i) 0 ≡ get_or rs i 0
  unfolding table_bytes header_bytes bytes_le
  resource_byte i h = get_past (header_bytes version (described_r rs) (described_d ds)) (rs ++ join written (described_d ds)) 8 i refl
      ∙ get_or-append rs (join written (described_d ds)) 0 i h

  -- ---- of those that a table of the version can say
  module _ (s : Representable version rs ds) where
    -- the header states the version
    pub version_there : version_of t ≡ version
    unfolding table_bytes header_bytes bytes_le
    version_there = read_bytes_at 2 version (mark ++ described_r rs ∷ []) (described_d ds ∷ 0 ∷ rs ++ join written (described_d ds)) 4 refl
        ∙ mod-eq_of_lt (known_version version s.known)

    pub width_there : width t ≡ w
    unfolding width
    width_there = ap version_width version_there

    pub resources_back : resources_of t ≡ rs
    unfolding resources_of table_bytes header_bytes bytes_le
    resources_back = take_at rs (join written (described_d ds)) (4 * described_r rs) s.resources

    -- where the records begin, and where they end
    front_long : length front ≡ 8 + 4 * described_r rs
    unfolding header_bytes bytes_le
    front_long = omega (arith, s.resources)

    pub table_long : length t ≡ written_size version rs ds
    unfolding table_bytes
    table_long = length-append front (join written (described_d ds))
        ∙ omega (arith, front_long, join_length written (record_size w) (λ d. record_long w (described_device ds d)) 0 (described_d ds))

    start_is : (d : ℕ) → device_start w t d ≡ 8 + 4 * described_r rs + record_size w * d
    unfolding device_start
    start_is d = rw count_r_lem refl

    -- device d's record stands at its start
    byte_there : (d i : ℕ) → d < described_d ds → i < record_size w → get_or t (device_start w t d + i) 0 ≡ get_or (written d) i 0
    unfolding table_bytes
    byte_there d i l u =
        let e : device_start w t d + i ≡ 8 + 4 * described_r rs + (record_size w * d + i) = rw (start_is d) (omega arith) in
        ap (λ (k : ℕ). get_or t k 0) e
        ∙ get_past front (join written (described_d ds)) (8 + 4 * described_r rs) (record_size w * d + i) front_long
        ∙ get_join written (record_size w) (λ j. record_long w (described_device ds j)) (described_d ds) d i l u

    -- zeros follow its fields
    pub zero_there : (d k : ℕ) → d < described_d ds → k < 2 + w → get_or t (device_start w t d + 14 + 5 * w + k) 0 ≡ 0
    unfolding record_bytes
    zero_there d k l u =
        let v = described_device ds d in
        let e : device_start w t d + 14 + 5 * w + k ≡ device_start w t d + (fields_size w + k) = omega arith in
        rw e (byte_there d (fields_size w + k) l (omega arith)
        ∙ get_past (field_bytes w v) (replicate (2 + w) 0) (fields_size w) k (fields_long w v) ∙ get_or-replicate (2 + w) k 0 0 u)

    -- the device that is read there is the described one
    pub device_there : (d : ℕ) → d < described_d ds → device_at w t (device_start w t d) ≡ described_device ds d
    device_there d l =
        let v = described_device ds d in
        same_device w t (field_bytes w v) (device_start w t d) 0
        (λ i u. byte_there d i l (omega arith) ∙ front_byte d i u)
        ∙ device_back w v (read_fits described_width w ds (described_size * d) (s.sets d l))

    pub devices_back : AllBytes ds → devices_of t ≡ ds
    unfolding devices_of
    devices_back b =
        let n = described_d ds in
        let l = s.devices in
        let each : (d : ℕ) → d < n → field_bytes described_width (device_at w t (device_start w t d)) ≡ take described_size
        (drop (0 + described_size * d) ds) =
        λ d u.
        let z : 0 + described_size * d ≡ described_size * d = omega arith in
        rw (z, device_there d u) (fields_back described_width ds b (described_size * d) (omega arith)) in
        let whole : take (described_size * n) (drop (0 + described_size * 0) ds) ≡ ds = take_all (described_size * n) ds (omega arith) in
        rw (width_there, count_d_lem) (join_same _ _ 0 n (λ d i u. each d (omega arith)) ∙ join_part ds 0 described_size 0 n ∙ whole)
