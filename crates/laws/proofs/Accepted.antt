-- What an accepted table gives: header, counts and length, and of each resource and device the rules of RULES.md 2.3 to 2.5, most of them
-- read off the station.
use mathlib.Core.Path.{◌≡◌, refl, sym, ◌∙◌}
use mathlib.Core.Bool.{Bool, true, false}
use mathlib.Core.List.{List, ◌∷◌, ◌++◌}
use Prim.Native.Nat.{ℕ, ◌+◌, ◌*◌, ◌≤◌, ◌<◌}
use native.Mathlib.Omega.{arith}
use native.Mathlib.Nat.{mul-suc, mul-le-mul_left}
use borrow.Author.Tests.{eqb-true, eq-eqb, leb-true, ltb-true, not-false}
use lib.Dec.{eqb}
use lib.ListN.{length, get_or}
use Rattle.rules.specs.declared.Reason.TheVariants.{BadResource}
use Rattle.rules.specs.Index.{each_from}
use Rattle.rules.specs.Answers.{passes}
use Rattle.rules.specs.Station.{Device, width, limit, station, record_size, count_r, count_d, resource_start, device_start, resource_at}
use Rattle.rules.specs.Station.{device_at, station_of}
use Rattle.rules.specs.Table.{header_good, counts_good, length_good, Field, field, first_bad, resource_fields, resource_good, parent_good, set_good}
use Rattle.rules.specs.Table.{sxd_good, sxw_good, deepest_good, head_fields, set_fields, sxd_fields, sxw_fields, deepest_fields, value_fields}
use Rattle.rules.specs.Table.{zero_fields, device_fields, bad_field, fields_good, objects_good, fields_or_objects, device_good}
use Rattle.rules.specs.Table.{table_verdict}
use Rattle.rules.proofs.Index.{below_in}
use Rattle.rules.proofs.Answers.{first_both, unless_at, refused_stops, lowest_at}
use Rattle.laws.specs.Carried.{All}
use Rattle.laws.proofs.Tests.{both_true}
use Rattle.laws.proofs.Good.{none_bad, Good, good_each}
use Rattle.laws.proofs.All.{all_append, all_left, all_right, all_each, each_at}

-- ---- a good field is passed over, and the first bad one is the answer
pub field_good : (end : ℕ) (f : Field) (fs : List Field) → f.good ≡ true → first_bad end (f ∷ fs) ≡ first_bad end fs
unfolding first_bad
field_good end f fs e = rw (e, first_bad) refl

pub field_bad : (end : ℕ) (f : Field) (fs : List Field) → f.good ≡ false → first_bad end (f ∷ fs) ≡ f.at
unfolding first_bad
field_bad end f fs e = rw (e, first_bad) refl

-- no bad field: every field is good, since each starts inside the record
no_bad : (end : ℕ) (fs : List Field) → All (λ f. f.at < end) fs → first_bad end fs ≡ end → All Good fs
no_bad end fs a e = good_each fs (sym (none_bad end fs a) ∙ eq-eqb (first_bad end fs) end e)

-- ---- what the table's checks say of a device's record
pub record DeviceRules (resources d : ℕ) (v : Device) : Type 0 where
  pub parent : parent_good d v ≡ true
  pub ps : v.ps < 16
  pub pr : v.pr < 16
  pub flags : v.flags < 4
  pub sets : (k : ℕ) → k < 5 → set_good resources v k ≡ true
  pub sxd : (x : ℕ) → x < 4 → sxd_good v (x + 1) ≡ true
  pub sxw : (x : ℕ) → x < 5 → sxw_good v x ≡ true
  pub deepest : deepest_good v ≡ true

-- the values of a device
module _ (w resources d : ℕ) (v : Device) where
  -- every field starts inside its record
  pub values_inside : All (λ f. f.at < record_size w) (value_fields w resources d v)
  unfolding value_fields head_fields set_fields sxd_fields sxw_fields deepest_fields All each_from
  values_inside =
      let In : Field → Type 0 = λ f. f.at < record_size w in
      let a : All In (head_fields d v) = (omega arith, (omega arith, (omega arith, (omega arith, tt)))) in
      let b : All In (set_fields w resources v) = (omega arith, (omega arith, (omega arith, (omega arith, (omega arith, tt))))) in
      let c : All In (sxd_fields w v) = (omega arith, (omega arith, (omega arith, (omega arith, tt)))) in
      let e : All In (sxw_fields w v) = (omega arith, (omega arith, (omega arith, (omega arith, (omega arith, tt))))) in
      let f : All In (deepest_fields w v) = (omega arith, tt) in
      all_append In (head_fields d v ++ set_fields w resources v ++ sxd_fields w v ++ sxw_fields w v) (deepest_fields w v)
      (all_append In (head_fields d v ++ set_fields w resources v ++ sxd_fields w v) (sxw_fields w v)
      (all_append In (head_fields d v ++ set_fields w resources v) (sxd_fields w v)
      (all_append In (head_fields d v) (set_fields w resources v) a b) c) e) f

  -- where all of them are good, the device keeps every rule
  pub values_rules : All Good (value_fields w resources d v) → DeviceRules resources d v
  unfolding value_fields head_fields set_fields sxd_fields sxw_fields deepest_fields All
  values_rules all =
      let front3 = all_left Good (head_fields d v ++ set_fields w resources v ++ sxd_fields w v ++ sxw_fields w v) (deepest_fields w v) all in
      let front2 = all_left Good (head_fields d v ++ set_fields w resources v ++ sxd_fields w v) (sxw_fields w v) front3 in
      let front1 = all_left Good (head_fields d v ++ set_fields w resources v) (sxd_fields w v) front2 in
      let head : All Good (head_fields d v) = all_left Good (head_fields d v) (set_fields w resources v) front1 in
      record {
        parent = head.0;
        ps = ltb-true _ _ head.1.0;
        pr = ltb-true _ _ head.1.1.0;
        flags = ltb-true _ _ head.1.1.1.0;
        sets = λ k h. each_at Good (λ j. field (4 + w * j) (set_good resources v j)) 0 5
            (all_right Good (head_fields d v) (set_fields w resources v) front1) k (omega arith) (omega arith);
        sxd = λ k h. each_at Good (λ j. field (4 + 5 * w + j) (sxd_good v (j + 1))) 0 4
            (all_right Good (head_fields d v ++ set_fields w resources v) (sxd_fields w v) front2) k (omega arith) (omega arith);
        sxw = λ k h. each_at Good (λ j. field (8 + 5 * w + j) (sxw_good v j)) 0 5
            (all_right Good (head_fields d v ++ set_fields w resources v ++ sxd_fields w v) (sxw_fields w v) front3) k
            (omega arith) (omega arith);
        deepest = (all_right Good (head_fields d v ++ set_fields w resources v ++ sxd_fields w v ++ sxw_fields w v) (deepest_fields w v) all).0;
      }

-- a whole record: its values, then zeros
module _ (w resources : ℕ) (t : List ℕ) (d at : ℕ) where
  abbrev zero_field : ℕ → Field
  zero_field k = field (14 + 5 * w + k) (eqb (get_or t (at + 14 + 5 * w + k) 0) 0)

  pub fields_inside : All (λ f. f.at < record_size w) (device_fields w resources t d at)
  unfolding device_fields zero_fields
  fields_inside =
      let In : Field → Type 0 = λ f. f.at < record_size w in
      all_append In (value_fields w resources d (device_at w t at)) (zero_fields w t at) (values_inside w resources d (device_at w t at))
      (all_each In zero_field 0 (2 + w) (λ k x y. omega arith))

  good_fields : first_bad (record_size w) (device_fields w resources t d at) ≡ record_size w
      → All Good (value_fields w resources d (device_at w t at)) × All Good (zero_fields w t at)
  unfolding device_fields
  good_fields e =
      let all = no_bad (record_size w) (device_fields w resources t d at) fields_inside e in (
        all_left Good (value_fields w resources d (device_at w t at)) (zero_fields w t at) all,
        all_right Good (value_fields w resources d (device_at w t at)) (zero_fields w t at) all,
      )

  -- a record without a bad field keeps every rule, and its last bytes are zero
  pub fields_rules : first_bad (record_size w) (device_fields w resources t d at) ≡ record_size w → DeviceRules resources d (device_at w t at)
  fields_rules e = values_rules w resources d (device_at w t at) (good_fields e).0

  fields_zeros : first_bad (record_size w) (device_fields w resources t d at) ≡ record_size w → (k : ℕ) → k < 2 + w
      → get_or t (at + 14 + 5 * w + k) 0 ≡ 0
  unfolding zero_fields
  fields_zeros e k h =
      eqb-true _ 0 (each_at Good zero_field 0 (2 + w) (good_fields e).1 k (omega arith) (omega arith))

-- ---- what an accepted table gives
pub record Accepted (t : List ℕ) : Type 0 where
  pub header : header_good t ≡ true
  pub resources : count_r t ≤ limit (width t)
  pub devices : count_d t ≤ limit (width t)
  pub long : length t ≡ device_start (width t) t (count_d t)
  pub resource : (r : ℕ) → r < count_r t → ((station t).resource r).level ≤ 4
  pub device : (d : ℕ) → d < count_d t → DeviceRules (count_r t) d ((station t).device d)
  pub zeros : (d : ℕ) → d < count_d t → (k : ℕ) → k < 2 + width t
      → get_or t (device_start (width t) t d + 14 + 5 * width t + k) 0 ≡ 0
  pub objects : (d : ℕ) → d < count_d t → objects_good ((station t).device d) ≡ true

-- a device's record ends inside a table of the right length
pub record_inside : (t : List ℕ) (d : ℕ) → length t ≡ device_start (width t) t (count_d t) → d < count_d t
    → device_start (width t) t d + record_size (width t) ≤ length t
unfolding device_start
record_inside t d l h =
    let size = record_size (width t) in
    omega (arith, mul-suc size d, mul-le-mul_left size h, l)

-- the station's resource and device at a number below R and D
pub resource_at_lem : (w : ℕ) (t : List ℕ) (r : ℕ) → r < count_r t → (station_of w t).resource r ≡ resource_at t (resource_start r)
unfolding station_of
resource_at_lem w t r h = below_in (count_r t) _ _ r h

pub device_at_lem : (w : ℕ) (t : List ℕ) (d : ℕ) → d < count_d t → (station_of w t).device d ≡ device_at w t (device_start w t d)
unfolding station_of
device_at_lem w t d h = below_in (count_d t) _ _ d h

pub refuses : (fields : Bool) (d : ℕ) → passes (fields_or_objects fields d) ≡ false
unfolding fields_or_objects passes
refuses fields d = refl

level_good : (t : List ℕ) (at : ℕ) → resource_good t at ≡ true → (resource_at t at).level ≤ 4
unfolding resource_good resource_at All
level_good t at e = leb-true _ _ (no_bad 4 (resource_fields t at) (omega arith, (omega arith, tt)) (eqb-true _ _ e)).0

pub accepted : (t : List ℕ) → passes (table_verdict t) ≡ true → Accepted t
unfolding table_verdict counts_good length_good device_good fields_good bad_field
accepted t e =
    let a = first_both _ _ _ e in
    let b = first_both _ _ _ a.1 in
    let c = first_both _ _ _ b.1 in
    let f = first_both _ _ _ c.1 in
    let g = first_both _ _ _ f.1 in
    let counts = both_true _ _ (unless_at _ _ _ b.0) in
    let each : (d : ℕ) → d < count_d t → (fields_good t d ≡ true) × (objects_good (device_at (width t) t (device_start (width t) t d)) ≡ true) =
    λ d h. both_true _ _ (not-false (device_good t d) (lowest_at _ (count_d t) _ (λ i. refuses (fields_good t i) i) g.0 d h)) in
    record {
      header = unless_at _ _ _ a.0;
      resources = leb-true _ _ counts.0;
      devices = leb-true _ _ counts.1;
      long = eqb-true _ _ (unless_at _ _ _ c.0);
      resource = λ r h. rw (resource_at_lem (width t) t r h)
          (level_good t (resource_start r) (not-false _ (lowest_at _ (count_r t) _ (refused_stops BadResource) f.0 r h)));
      device = λ d h. rw (device_at_lem (width t) t d h) (fields_rules (width t) (count_r t) t d (device_start (width t) t d)
          (eqb-true _ _ (each d h).0));
      zeros = λ d h. fields_zeros (width t) (count_r t) t d (device_start (width t) t d) (eqb-true _ _ (each d h).0);
      objects = λ d h. rw (device_at_lem (width t) t d h) (each d h).1;
    }
