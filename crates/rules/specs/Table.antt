-- RULES.md 2.2 to 2.6: which bytes are a good table, answers 1 to 6.
use Rattle.std.specs.Prelude.{ℕ, ◌+◌, ◌*◌, ◌%◌, ◌^◌, Bool, true, false, ◌&&◌, ◌||◌, not, cond, List, [], ◌∷◌, ◌++◌, length, get_or, eqb, leb, ltb}
use Rattle.rules.specs.Verdict.{Verdict}
use Rattle.std.specs.Prelude.{Ok}
use Rattle.rules.specs.Verdict.{refuse}
use Rattle.rules.specs.declared.Reason.TheVariants.{NotATable, TooMany, WrongLength, BadResource, BadDevice, BadObjects}
use Rattle.rules.specs.Index.{each}
use Rattle.rules.specs.Answers.{first_of, unless, lowest}
use Rattle.rules.specs.Station.{Device, absent, version_good, version_of, width, limit, record_size, count_r, count_d, resource_start}
use Rattle.rules.specs.Station.{zeros_size, device_start, device_at}
use Rattle.rules.specs.Station.{has_ps, has_pr, has_prw, has_dsw}

-- the letters PWT
abbrev pub mark : List ℕ
mark = 0x50 ∷ 0x57 ∷ 0x54 ∷ []

-- 1: the table has its 8 bytes, the mark, a version that there is and a zero at byte 7
unfoldable pub header_good : List ℕ → Bool
header_good t =
    leb 8 (length t)
    && eqb (get_or t 0 0) (get_or mark 0 0)
    && eqb (get_or t 1 0) (get_or mark 1 0)
    && eqb (get_or t 2 0) (get_or mark 2 0)
    && version_good (version_of t)
    && eqb (get_or t 7 0) 0

-- 2: at most as many resources and devices as the width allows, 32 or 64
abbrev pub counts_fit : ℕ → ℕ → ℕ → Bool
counts_fit w resources devices = leb resources (limit w) && leb devices (limit w)

unfoldable pub counts_good : List ℕ → Bool
counts_good t = counts_fit (width t) (count_r t) (count_d t)

-- 3: the bytes end where a record D would start: 8 + 4R + 40D in version 1, 8 + 4R + 64D in version 2
unfoldable pub length_good : List ℕ → Bool
length_good t = eqb (length t) (device_start (width t) t (count_d t))

-- a field of a record: the byte of the record at which it starts, and whether it keeps its rule
pub record Field : Type 0 where
  pub at : ℕ
  pub good : Bool

abbrev pub field : ℕ → Bool → Field
field at good = record { at = at; good = good }

-- where the first bad one of fields in rising order starts, else the end
unfoldable pub first_bad : ℕ → List Field → ℕ
first_bad end [] = end
first_bad end (f ∷ fs) = elim f.good [ true ↦ first_bad end fs | false ↦ f.at ]

-- every field of a list is good
unfoldable pub all_good : List Field → Bool
all_good [] = true
all_good (f ∷ fs) = f.good && all_good fs

-- systemlevel 0 to 4; zero; any resourceorder
abbrev pub resource_fields : List ℕ → ℕ → List Field
resource_fields t at = field 0 (leb (get_or t at 0) 4) ∷ field 1 (eqb (get_or t (at + 1) 0) 0) ∷ []

-- 4: every field of the resource's record is good, which starts at a byte
unfoldable pub resource_good : List ℕ → ℕ → Bool
resource_good t at = eqb (first_bad 4 (resource_fields t at)) 4

-- a parent is lower than its child; 255 for none
unfoldable pub parent_good : ℕ → Device → Bool
parent_good d v = ltb v.parent d || eqb v.parent absent

-- set k's object is there: `_PR0` to `_PR3`, or `_PRW`
unfoldable pub present : Device → ℕ → Bool
present v k = cond (eqb k 4) (has_prw v) (has_pr v k)

-- no bit at or above R, and zero where the object is absent
unfoldable pub set_good : ℕ → Device → ℕ → Bool
set_good resources v k = ltb (v.sets k) (2 ^ resources) && (present v k || eqb (v.sets k) 0)

-- 0 to 3 or absent, and not larger than `_SxW` where both are present
unfoldable pub sxd_good : Device → ℕ → Bool
sxd_good v x = eqb (v.sxd x) absent || leb (v.sxd x) 3 && (eqb (v.sxw x) absent || leb (v.sxd x) (v.sxw x))

-- 0 to 4 or absent
unfoldable pub sxw_good : Device → ℕ → Bool
sxw_good v x = eqb (v.sxw x) absent || leb (v.sxw x) 4

-- 0 to 4; 0 without `_PRW`
unfoldable pub deepest_good : Device → Bool
deepest_good v = leb v.deepest 4 && (has_prw v || eqb v.deepest 0)

-- the fields of a device's record in the order of RULES.md 2.4: bytes 0 to 3
unfoldable pub head_fields : ℕ → Device → List Field
head_fields d v = field 0 (parent_good d v) ∷ field 1 (ltb v.ps 16) ∷ field 2 (ltb v.pr 16) ∷ field 3 (ltb v.flags 4) ∷ []

-- the five sets
unfoldable pub set_fields : ℕ → ℕ → Device → List Field
set_fields w resources v = each (λ k. field (4 + w * k) (set_good resources v k)) 5

-- `_S1D` to `_S4D`, `_S0W` to `_S4W`
unfoldable pub sxd_fields : ℕ → Device → List Field
sxd_fields w v = each (λ k. field (4 + 5 * w + k) (sxd_good v (k + 1))) 4

unfoldable pub sxw_fields : ℕ → Device → List Field
sxw_fields w v = each (λ x. field (8 + 5 * w + x) (sxw_good v x)) 5

-- the deepest sleep state
unfoldable pub deepest_fields : ℕ → Device → List Field
deepest_fields w v = field (13 + 5 * w) (deepest_good v) ∷ []

-- all that device d's own values decide, among R resources
unfoldable pub value_fields : ℕ → ℕ → ℕ → Device → List Field
value_fields w resources d v = head_fields d v ++ set_fields w resources v ++ sxd_fields w v ++ sxw_fields w v ++ deepest_fields w v

-- zeros to the record's end
unfoldable pub zero_fields : ℕ → List ℕ → ℕ → List Field
zero_fields w t at = each (λ k. field (14 + 5 * w + k) (eqb (get_or t (at + 14 + 5 * w + k) 0) 0)) (zeros_size w)

-- all fields of device d's record, which starts at a byte of a table of R resources
unfoldable pub device_fields : ℕ → ℕ → List ℕ → ℕ → ℕ → List Field
device_fields w resources t d at = value_fields w resources d (device_at w t at) ++ zero_fields w t at

-- where in device d's record the first bad field starts, else the record's size
unfoldable pub bad_field : List ℕ → ℕ → ℕ
bad_field t d = first_bad (record_size (width t)) (device_fields (width t) (count_r t) t d (device_start (width t) t d))

-- 5: every field of the device's record is good
unfoldable pub fields_good : List ℕ → ℕ → Bool
fields_good t d = eqb (bad_field t d) (record_size (width t))

-- 6 (RULES.md 2.5): any `_PS` needs `_PS0` and `_PS3`; any `_PR` needs `_PR0`; with both kinds, mask bits 0 to 2 agree; `_DSW` needs `_PRW`
unfoldable pub objects_good : Device → Bool
objects_good v =
    (eqb v.ps 0 || has_ps v 0 && has_ps v 3)
    && (eqb v.pr 0 || has_pr v 0)
    && (eqb v.ps 0 || eqb v.pr 0 || eqb (v.ps % 8) (v.pr % 8))
    && (not (has_dsw v) || has_prw v)

-- 5 or 6 of a device that is not good, 5 unless its fields are good
unfoldable pub fields_or_objects : Bool → ℕ → Verdict
fields_or_objects fields d = refuse (cond fields BadObjects BadDevice) d

abbrev pub device_refusal : List ℕ → ℕ → Verdict
device_refusal t d = fields_or_objects (fields_good t d) d

unfoldable pub device_good : List ℕ → ℕ → Bool
device_good t d = fields_good t d && objects_good (device_at (width t) t (device_start (width t) t d))

-- RULES.md 2.6: 1 to 6 in their order, 5 and 6 device by device
unfoldable pub table_verdict : List ℕ → Verdict
table_verdict t =
    first_of
    (unless (header_good t) NotATable 0
    ∷ unless (counts_good t) TooMany 0
    ∷ unless (length_good t) WrongLength 0
    ∷ lowest (λ r. not (resource_good t (resource_start r))) (count_r t) (refuse BadResource)
    ∷ lowest (λ d. not (device_good t d)) (count_d t) (device_refusal t)
    ∷ [])
    (Ok 0)
