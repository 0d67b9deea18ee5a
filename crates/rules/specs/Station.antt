-- RULES.md 2.2 to 2.4: what the bytes of a table say, as a station of numbered resources and devices.
-- Sets take w bytes each, and w fixes all sizes; `width` is a table's. The rules of Power, Request and Calls
-- speak of stations, entries and words, of no layout and no width.
use Rattle.std.specs.Prelude.{ℕ, ◌+◌, ◌*◌, ◌%◌, ◌≤◌, ◌≡◌, Bool, cond, ◌||◌, List, [], ◌∷◌, ◌++◌, get_or, eqb}
use Rattle.sets.specs.Sets.{member}
use Rattle.words.specs.Words.{read_le, bytes_le}
use Rattle.rules.specs.Index.{below, each, join}

-- a power resource: its systemlevel and its resourceorder
pub record Resource : Type 0 where
  pub level : ℕ
  pub order : ℕ

-- a device as its record states it
pub record Device : Type 0 where
  pub parent : ℕ
  -- `_PS` mask and `_PR` mask: bit x means `_PSx`, `_PRx`
  pub ps : ℕ
  pub pr : ℕ
  -- bit 0 `_PRW`, bit 1 `_DSW`
  pub flags : ℕ
  -- the five sets: 0 to 3 for `_PR0` to `_PR3`, 4 for `_PRW`
  pub sets : ℕ → ℕ
  -- `_SxD` and `_SxW` for x = 0 to 4
  pub sxd : ℕ → ℕ
  pub sxw : ℕ → ℕ
  -- the deepest sleep state of `_PRW`
  pub deepest : ℕ

-- R, D, and what each number below them stands for
pub record Station : Type 0 where
  pub resources : ℕ
  pub devices : ℕ
  pub resource : ℕ → Resource
  pub device : ℕ → Device

-- 255 stands for no parent and for an absent S value
abbrev pub absent : ℕ
absent = 255

-- which versions of table there are
unfoldable pub version_good : ℕ → Bool
version_good version = eqb version 1 || eqb version 2

-- the bytes of a set in a table of a version: 8 in version 2, for at most 64 resources; 4 in version 1, for at most 32
unfoldable pub version_width : ℕ → ℕ
version_width version = cond (eqb version 2) 8 4

-- the version that a table's header states
abbrev pub version_of : List ℕ → ℕ
version_of t = read_le 2 t 4

-- the bytes of a set in a table
unfoldable pub width : List ℕ → ℕ
width t = version_width (version_of t)

-- a width of 4 or 8, as facts on numbers
pub record Wide (w : ℕ) : Type 0 where
  pub low : 4 ≤ w
  pub high : w ≤ 8
  pub fours : w % 4 ≡ 0

-- at most 8w resources and devices, 32 or 64
abbrev pub limit : ℕ → ℕ
limit w = 8 * w

-- header, 8 bytes; then R records of 4 bytes; then D records of 16 + 6w bytes, 40 or 64
abbrev pub record_size : ℕ → ℕ
record_size w = 16 + 6 * w

-- a record's fields end here, at 34 or 54, and so many zeros follow to its end, 6 or 10
abbrev pub fields_size : ℕ → ℕ
fields_size w = 14 + 5 * w

abbrev pub zeros_size : ℕ → ℕ
zeros_size w = 2 + w

-- the bytes of a table of R resources and D devices; so device D's record would start there
abbrev pub table_size : ℕ → ℕ → ℕ → ℕ
table_size w resources devices = 8 + 4 * resources + record_size w * devices

abbrev pub count_r : List ℕ → ℕ
count_r t = get_or t 3 0

abbrev pub count_d : List ℕ → ℕ
count_d t = get_or t 6 0

abbrev pub resource_start : ℕ → ℕ
resource_start r = 8 + 4 * r

unfoldable pub device_start : ℕ → List ℕ → ℕ → ℕ
device_start w t d = table_size w (count_r t) d

unfoldable pub resource_at : List ℕ → ℕ → Resource
resource_at t at = record { level = get_or t at 0; order = read_le 2 t (at + 2) }

-- the device whose record starts at a byte; S0 has no `_SxD`
unfoldable pub device_at : ℕ → List ℕ → ℕ → Device
device_at w t at =
    record {
      parent = get_or t at 0;
      ps = get_or t (at + 1) 0;
      pr = get_or t (at + 2) 0;
      flags = get_or t (at + 3) 0;
      sets = below 5 0 (λ k. read_le w t (at + 4 + w * k));
      sxd = below 5 absent (λ x. cond (eqb x 0) absent (get_or t (at + 3 + 5 * w + x) 0));
      sxw = below 5 absent (λ x. get_or t (at + 8 + 5 * w + x) 0);
      deepest = get_or t (at + 13 + 5 * w) 0;
    }

-- the other way: a device's fields as bytes, each set as w of them
unfoldable pub field_bytes : ℕ → Device → List ℕ
field_bytes w v =
    (v.parent ∷ v.ps ∷ v.pr ∷ v.flags ∷ [])
    ++ join (λ k. bytes_le w (v.sets k)) 5
    ++ each (λ k. v.sxd (k + 1)) 4
    ++ each v.sxw 5
    ++ v.deepest ∷ []

-- values for numbers that stand for nothing
abbrev pub no_resource : Resource
no_resource = record { level = 0; order = 0 }

abbrev pub no_device : Device
no_device = record { parent = absent; ps = 0; pr = 0; flags = 0; sets = λ k. 0; sxd = λ x. absent; sxw = λ x. absent; deepest = 0 }

unfoldable pub station_of : ℕ → List ℕ → Station
station_of w t =
    record {
      resources = count_r t;
      devices = count_d t;
      resource = below (count_r t) no_resource (λ r. resource_at t (resource_start r));
      device = below (count_d t) no_device (λ d. device_at w t (device_start w t d));
    }

-- the station that a table says, read with its width
abbrev pub station : List ℕ → Station
station t = station_of (width t) t

-- bit x of a mask
abbrev pub has_ps : Device → ℕ → Bool
has_ps v x = member v.ps x

abbrev pub has_pr : Device → ℕ → Bool
has_pr v x = member v.pr x

abbrev pub has_prw : Device → Bool
has_prw v = member v.flags 0

abbrev pub has_dsw : Device → Bool
has_dsw v = member v.flags 1
