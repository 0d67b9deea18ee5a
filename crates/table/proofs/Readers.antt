-- What the readers of a table cite: its width, where a record starts and that it ends inside the table, and each field of the station, from
-- what the readers of a record give.
use mathlib.Core.Path.{◌≡◌, refl, sym, ap, ◌∙◌}
use mathlib.Core.Bool.{true}
use mathlib.Core.List.{List}
use Prim.Native.Nat.{ℕ, ◌+◌, ◌*◌, ◌<◌, ◌≤◌}
use native.Mathlib.Nat.{mul-le-mul, mul-suc}
use native.Mathlib.Numerals.{add-one}
use native.Mathlib.Omega.{arith}
use borrow.Author.Tests.{eqb-true}
use lib.Dec.{eqb}
use lib.ListN.{length, get_or}
use Rattle.words.specs.Words.{read_le}
use Rattle.rules.specs.Station.{Device, version_good, version_of, width, Wide, record_size, table_size, count_r, count_d, device_start, resource_at, device_at, station}
use Rattle.sets.proofs.Laws.{decide}
use Rattle.rules.proofs.Width.{version_8, version_4, width_wide}
use Rattle.laws.proofs.Accepted.{record_inside, resource_at_lem, device_at_lem}
use Rattle.record.specs.Record.{device_of}
use Rattle.table.specs.Device.{device_in}
use Rattle.table.specs.declared.fields.DeviceRecord.{DeviceRecord}
use Rattle.table.specs.Layout.{WellSized, RecordAt}

-- ---- the width is that of the version which the header states, and in either version there are at most 64 of each
pub width_of : (t : List ℕ) (b : ℕ) → b ≡ get_or t 4 0 → version_good (version_of t) ≡ true → 4 * b ≡ width t
unfolding width read_le version_good
width_of t b e h =
    decide (eqb (version_of t) 1)
    (λ p. let one = eqb-true (version_of t) 1 p in
    let byte : b ≡ 1 = omega arith in
    rw (version_4 (version_of t) (λ q. omega arith), byte) refl)
    (λ p. let two = eqb-true (version_of t) 2 (rw p at h) in
    let byte : b ≡ 2 = omega arith in
    rw (version_8 (version_of t) two, byte) refl)

pub width_fits : (t : List ℕ) (b : ℕ) → b ≡ get_or t 4 0 → version_good (version_of t) ≡ true → Wide (4 * b)
width_fits t b e h = rw (width_of t b e h) (width_wide t)

pub resources_few : (t : List ℕ) → WellSized t → count_r t ≤ 64
resources_few t z = omega (arith, z.wide.high)

pub devices_few : (t : List ℕ) → WellSized t → count_d t ≤ 64
devices_few t z = omega (arith, z.wide.high)

-- ---- where a record starts, and that it ends inside the table; all records have at most 64 * 255 bytes
pub records_few : (w d : ℕ) → Wide w → d < 256 → (16 + 6 * w) * d ≤ 16320
records_few w d h k = mul-le-mul {n₂ = 64} {m₂ = 255} (omega (arith, h.high)) (omega arith)

pub start_is : (t : List ℕ) (d r w s : ℕ) → r ≡ count_r t → w ≡ width t → s ≡ table_size w r d → s ≡ device_start (width t) t d
unfolding device_start
start_is t d r w s e f g = rw (← f, ← e) g

pub inside : (t : List ℕ) (d s : ℕ) → s ≡ device_start (width t) t d → WellSized t → d < count_d t → s + record_size (width t) ≤ length t
inside t d s e z h = rw e (record_inside t d z.long h)

-- ---- a resource's two fields
pub level_is : (t : List ℕ) (r : ℕ) → r < count_r t → get_or t (8 + 4 * r) 0 ≡ ((station t).resource r).level
unfolding resource_at
level_is t r h = rw (resource_at_lem (width t) t r h) refl

pub order_is : (t : List ℕ) (r v : ℕ) → r < count_r t → v ≡ read_le 2 t (8 + 4 * r + 2) → v ≡ ((station t).resource r).order
unfolding resource_at
order_is t r v h e = rw (resource_at_lem (width t) t r h) e

-- ---- one law for every field f of a device
pub field : (f : Device → ℕ) (t : List ℕ) (d at w v : ℕ) → at ≡ device_start (width t) t d → d < count_d t → w ≡ width t
    → v ≡ f (device_at w t at) → v ≡ f ((station t).device d)
field f t d at w v e h g k = rw (device_at_lem (width t) t d h, ← e, ← g) k

-- ---- the same where the place of the record is handed on, and of every numbered field
pub field_here : (f : Device → ℕ) (t : List ℕ) (d at w v : ℕ) → RecordAt t d at w → v ≡ f (device_at w t at) → v ≡ f ((station t).device d)
field_here f t d at w v r k = field f t d at w v r.start r.device r.width k

pub field_here_at : (f : Device → ℕ → ℕ) (t : List ℕ) (d at w x v : ℕ) → RecordAt t d at w → v ≡ f (device_at w t at) x
    → v ≡ f ((station t).device d) x
field_here_at f t d at w x v r k = rw (device_at_lem (width t) t d r.device, ← r.start, ← r.width) k

-- what a device's record says is the station's device
pub device_is : (z : DeviceRecord) → device_of z.record ≡ device_in z
device_is z =
    let a = z.there in
    let t = z.record.bytes.now in
    sym (device_at_lem (width t) t z.number a.device ∙ rw (a.start, a.width) refl)

pub field_in : (f : Device → ℕ) (z : DeviceRecord) (v : ℕ) → v ≡ f (device_of z.record) → v ≡ f (device_in z)
field_in f z v e = e ∙ ap f (device_is z)

pub field_in_at : (f : Device → ℕ → ℕ) (z : DeviceRecord) (x v : ℕ) → v ≡ f (device_of z.record) x → v ≡ f (device_in z) x
field_in_at f z x v e = e ∙ ap (λ (u : Device). f u x) (device_is z)

-- a device's record, the first one, and the next
pub record_at : (t : List ℕ) (d at w : ℕ) → WellSized t → d < count_d t → at ≡ device_start (width t) t d → w ≡ width t → RecordAt t d at w
record_at t d at w z h e g =
    record { sized = z; device = h; start = e; width = g; wide = rw g z.wide; inside = rw g (inside t d at e z h) }

pub record_next : (t : List ℕ) (d at w size : ℕ) → at ≡ device_start (width t) t d → w ≡ width t → size ≡ record_size w
    → at + size ≡ device_start (width t) t (d + 1)
unfolding device_start
record_next t d at w size e g h = rw (e, h, g) (omega (arith, mul-suc (record_size (width t)) d, add-one d))

pub ruleset field_laws = (width_of, width_fits, resources_few, devices_few, start_is, inside, level_is, order_is)
