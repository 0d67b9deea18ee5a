-- RULES.md 11: a station as two lists of records, which an editor of stations works on, and the table that they make. A description is the
-- same for every version of table.
use Rattle.std.specs.Prelude.{ℕ, ◌+◌, ◌*◌, ◌/◌, ◌-◌, List, [], ◌∷◌, ◌++◌, length, take, drop, replicate}
use Rattle.words.specs.Words.{bytes_le}
use Rattle.rules.specs.Index.{join}
use Rattle.rules.specs.Station.{Device, version_width, width, count_r, count_d, device_start, fields_size, zeros_size, device_at}
use Rattle.rules.specs.Station.{field_bytes}
use Rattle.rules.specs.Table.{mark}

-- 11.1: a described resource is its record of 4 bytes; a described device is the fields of a record with sets of 8 bytes, 54 bytes in all
abbrev pub described_width : ℕ
described_width = 8

abbrev pub described_size : ℕ
described_size = fields_size described_width

-- how many records there are: one that is cut short counts
abbrev pub described_r : List ℕ → ℕ
described_r rs = (length rs + 3) / 4

abbrev pub described_d : List ℕ → ℕ
described_d ds = (length ds + (described_size - 1)) / described_size

-- device d of a list; a byte missing from a record that is cut short reads as zero
abbrev pub described_device : List ℕ → ℕ → Device
described_device ds d = device_at described_width ds (described_size * d)

-- 11.2: a table's resources as they stand in it, and its devices, each as its 54 bytes
unfoldable pub resources_of : List ℕ → List ℕ
resources_of t = take (4 * count_r t) (drop 8 t)

unfoldable pub devices_of : List ℕ → List ℕ
devices_of t = join (λ d. field_bytes described_width (device_at (width t) t (device_start (width t) t d))) (count_d t)

-- 11.3, the other way: the header of a table of R resources and D devices
unfoldable pub header_bytes : ℕ → ℕ → ℕ → List ℕ
header_bytes version resources devices = mark ++ (resources ∷ []) ++ bytes_le 2 version ++ devices ∷ 0 ∷ []

-- a device's record: its fields, and zeros to its end
unfoldable pub record_bytes : ℕ → Device → List ℕ
record_bytes w v = field_bytes w v ++ replicate (zeros_size w) 0

-- the table of a version made of whole records whose sets fit its width
unfoldable pub table_bytes : ℕ → List ℕ → List ℕ → List ℕ
table_bytes version rs ds =
    header_bytes version (described_r rs) (described_d ds)
    ++ rs
    ++ join (λ d. record_bytes (version_width version) (described_device ds d)) (described_d ds)
