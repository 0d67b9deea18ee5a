-- The loops over the devices: what a turn of writing their records, and of describing them, adds.
use mathlib.Core.Path.{◌≡◌, refl, ap, ◌∙◌}
use mathlib.Core.List.{List, ◌++◌}
use Prim.Native.Nat.{ℕ, ◌+◌, ◌*◌, ◌≤◌}
use native.Mathlib.Omega.{arith}
use lib.ListN.{length, replicate}
use Rattle.words.specs.Words.{put}
use Rattle.rules.specs.Index.{join}
use Rattle.rules.specs.Station.{width, record_size, fields_size, zeros_size, count_d, device_start, device_at, field_bytes}
use Rattle.rules.specs.Describe.{described_width, described_size, described_device, devices_of, record_bytes}
use Rattle.laws.proofs.Fields.{fields_long, record_long}
use Rattle.laws.proofs.Joined.{SameLength, joined_loop}
use Rattle.record.specs.declared.device.Device.{Device}
use Rattle.record.specs.Record.{device_of}
use Rattle.record.specs.Value.{device_value, value_bytes}
use Rattle.record.proofs.Values.{held_bytes}
use Rattle.table.specs.declared.fields.DeviceRecord.{DeviceRecord}

-- ---- records written
abbrev pub written : ℕ → List ℕ → ℕ → List ℕ
written w ds d = record_bytes w (described_device ds d)

pub written_lengths : (w : ℕ) (ds : List ℕ) → SameLength (written w ds) (record_size w)
written_lengths w ds = record { long = λ d. record_long w (described_device ds d) }

-- the record of the value of a described device is the described device's
pub record_written : (w : ℕ) (ds l l' : List ℕ) (i p : ℕ) (v : Device) → v ≡ device_value (described_device ds i)
    → l' ≡ put l p (value_bytes w v ++ replicate (zeros_size w) 0) → l' ≡ put l p (written w ds i)
unfolding record_bytes
record_written w ds l l' i p v e q =
    let same : value_bytes w v ≡ field_bytes w (described_device ds i) = ap (value_bytes w) e ∙ held_bytes w (described_device ds i) in
    rw same at q

pub ruleset writing = (written_lengths, record_written, joined_loop)

-- ---- devices described
abbrev pub described : List ℕ → ℕ → List ℕ
described t d = field_bytes described_width (device_at (width t) t (device_start (width t) t d))

pub described_lengths : (t : List ℕ) → SameLength (described t) described_size
described_lengths t = record { long = λ d. fields_long described_width (device_at (width t) t (device_start (width t) t d)) }

-- the first of them starts at 0
pub from_start : (t d : List ℕ) → described_size * count_d t ≤ length d → 0 + described_size * count_d t ≤ length d
from_start t d h = omega arith

-- the fields written of a device of the table
pub device_described : (t l l' : List ℕ) (i p : ℕ) (z : DeviceRecord) (v : Device) → z.record.bytes.now ≡ t → z.number ≡ i
    → v ≡ device_value (device_of z.record)
    → (l' ≡ put l p (value_bytes 8 v)) × (length (value_bytes 8 v) ≡ fields_size 8) → l' ≡ put l p (described t i)
device_described t l l' i p z v a b e q =
    let r = z.there in
    let of_t : device_of z.record ≡ device_at (width t) t (device_start (width t) t i) = rw (r.start, r.width, a, b) refl in
    let there : v ≡ device_value (device_at (width t) t (device_start (width t) t i)) = rw of_t at e in
    let same : value_bytes 8 v ≡ described t i = ap (value_bytes 8) there ∙ held_bytes 8 (device_at (width t) t (device_start (width t) t i)) in
    rw same at q.0

pub all_described : (t d l : List ℕ) → l ≡ put d 0 (join (described t) (count_d t)) → l ≡ put d 0 (devices_of t)
unfolding devices_of
all_described t d l e = e

pub ruleset describing = (described_lengths, from_start, device_described, joined_loop)
