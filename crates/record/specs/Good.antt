-- What a device's check asks of the fields of a record, where the first bad one's place is not asked for.
use Rattle.std.specs.Prelude.{ℕ, ◌+◌, ◌^◌, Bool, cond, not, ◌&&◌, ◌||◌, List, eqb, ltb}
use Rattle.rules.specs.Index.{every}
use Rattle.rules.specs.Station.{Device, absent, record_size, fields_size, device_at}
use Rattle.rules.specs.Table.{all_good, present, value_fields, zero_fields, objects_good}

-- the two halves of the rule of the five sets: no bit at or above R, and zero where the object is absent
unfoldable pub sets_fit : ℕ → Device → Bool
sets_fit resources v = every (λ k. ltb (v.sets k) (2 ^ resources)) 5

unfoldable pub sets_absent : Device → Bool
sets_absent v = every (λ k. present v k || eqb (v.sets k) 0) 5

-- set k where its object is absent, else none
unfoldable pub absent_set : Device → ℕ → ℕ
absent_set v k = cond (present v k) 0 (v.sets k)

-- the device says nothing of sleep states: no `_SxD`, no `_SxW`, and 0 for the deepest one from which it can wake the system
unfoldable pub no_sleep : Device → Bool
no_sleep v = every (λ k. eqb (v.sxd (k + 1)) absent) 4 && every (λ x. eqb (v.sxw x) absent) 5 && eqb v.deepest 0

-- the bytes of a device's record, with the zeros at its end as in a table, or without as in a list of described devices
abbrev pub size_with : Bool → ℕ → ℕ
size_with zeros w = cond zeros (record_size w) (fields_size w)

-- device d's record, which starts at a byte: its values are good, zeros follow them where there are any, and its objects agree
unfoldable pub good_with : Bool → ℕ → ℕ → List ℕ → ℕ → ℕ → Bool
good_with zeros w resources t d at =
    all_good (value_fields w resources d (device_at w t at))
    && (not zeros || all_good (zero_fields w t at))
    && objects_good (device_at w t at)
