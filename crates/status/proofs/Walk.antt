-- A loop over the devices that goes from record to record: where the record of the device at hand starts.
use mathlib.Core.Path.{◌≡◌}
use mathlib.Core.List.{List}
use Prim.Native.Nat.{ℕ, ◌+◌, ◌^◌, ◌≤◌, ◌<◌}
use native.Mathlib.Omega.{arith}
use lib.ListN.{length}
use Rattle.rules.specs.Station.{width, Wide, record_size, fields_size, count_d, device_start}
use Rattle.table.specs.Layout.{WellSized, RecordAt}
use Rattle.table.proofs.Readers.{record_at, record_next}

-- the loop is at device i, whose record starts at a byte, and each has so many bytes
pub record Walking (t : List ℕ) (w size at i : ℕ) : Type 0 where
  pub sized : WellSized t
  pub bytes : w ≡ width t
  pub long : size ≡ record_size w
  pub start : at ≡ device_start (width t) t i

module _ (t : List ℕ) (w size at i : ℕ) where
  pub walk_starts : WellSized t → w ≡ width t → size ≡ record_size w → at ≡ device_start (width t) t i → Walking t w size at i
  walk_starts z e f g = record { sized = z; bytes = e; long = f; start = g }

  module _ (g : Walking t w size at i) where
    -- it is one of the n devices that the loop looks at
    pub walk_record : (n : ℕ) → i < n → n ≤ count_d t → RecordAt t i at w
    walk_record n h k = record_at t i at w g.sized (omega arith) g.start g.bytes

    pub walk_wide : Wide w
    walk_wide = rw g.bytes g.sized.wide

    pub walk_inside : (n : ℕ) → i < n → n ≤ count_d t → at + fields_size w ≤ length t
    walk_inside n h k = omega (arith, (walk_record n h k).inside)

    pub walk_next : Walking t w size (at + size) (i + 1)
    walk_next =
        record { sized = g.sized; bytes = g.bytes; long = g.long; start = record_next t i at w size g.start g.bytes g.long }

    pub walk_small : (n : ℕ) → i < n → n ≤ count_d t → length t < 2 ^ 64 → at + size < 2 ^ 64
    walk_small n h k u = omega (arith, (walk_record n h k).inside, g.long)

pub ruleset walks = (walk_starts, walk_record, walk_wide, walk_inside, walk_next, walk_small)
