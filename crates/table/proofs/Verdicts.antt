-- The answers of a whole table: each check on its bytes, each way out of the chain of checks, and what an accepted table is known to have.
-- Where the code asks another function, that function's answer comes as b, with what it says.
use mathlib.Core.Path.{◌≡◌, refl, sym, ap, ◌∙◌}
use mathlib.Core.Bool.{Bool, true, false, not, ◌&&◌}
use mathlib.Core.List.{List, [], ◌∷◌}
use Prim.Native.Nat.{ℕ, ◌+◌, ◌*◌, ◌-◌, ◌<◌, ◌≤◌}
use native.Mathlib.Nat.{mul-zero, add-sub_cancel_left}
use native.Mathlib.Omega.{arith}
use borrow.Author.Tests.{eqb-true, leb-true, eq-eqb, lt-ltb, le-ltb, le-leb, lt-leb, not-true, not-false}
use lib.Dec.{eqb, leb}
use lib.ListN.{length, get_or, take, drop}
use Rattle.rules.specs.Verdict.{Verdict}
use Rattle.std.specs.Prelude.{Ok, Option, Some, None, is_some}
use Rattle.rules.specs.Verdict.{refuse}
use Rattle.rules.specs.declared.Reason.{Reason}
use Rattle.rules.specs.declared.Reason.TheVariants.{NotATable, TooMany, WrongLength, BadResource, BadDevice, BadObjects}
use Rattle.rules.specs.Index.{least_option}
use Rattle.rules.specs.Answers.{passes, first_of, unless, lowest}
use Rattle.rules.specs.Station.{version_good, version_of, width, limit, record_size, count_r, count_d, resource_start, device_start}
use Rattle.rules.specs.Table.{device_fields, header_good, counts_good, length_good, resource_good, bad_field, fields_good}
use Rattle.rules.specs.Table.{fields_or_objects, device_refusal, device_good, table_verdict}
use Rattle.rules.specs.Outcomes.{record_part}
use Rattle.rules.proofs.Answers.{answer_passed}
use Rattle.rules.proofs.Answers.{done_passes, refused_stops, first_pass, first_stop, first_none, first_through, unless_of, unless_stop}
use Rattle.rules.proofs.Answers.{lowest_some, lowest_no}
use Rattle.rules.proofs.Index.{least_of_some}
use Rattle.rules.proofs.Width.{width_wide}
use Rattle.laws.proofs.Accepted.{accepted, refuses}
use Rattle.laws.proofs.Describe.{header_says}
use Rattle.laws.proofs.Every.{least_ext}
use Rattle.laws.proofs.Tests.{both_true}
use Rattle.table.specs.Layout.{WellSized}
use Rattle.table.specs.declared.fields.DeviceRecord.{DeviceRecord}
use Rattle.record.specs.Bad.{bad_place}
use Rattle.record.specs.Good.{good_with}
use Rattle.record.proofs.FirstBad.{no_bad_field}
use Rattle.record.proofs.AllGood.{table_record}

turned : (a b : Bool) → a ≡ not b → b ≡ not a
turned a true e = rw e refl
turned a false e = rw e refl

-- ---- each check, on the bytes
module _ (t : List ℕ) where
  pub too_short : length t < 8 → false ≡ header_good t
  unfolding header_good
  too_short h = rw (lt-leb 8 (length t) h)

  abbrev marked : Bool
  marked = eqb (get_or t 0 0) 0x50 && eqb (get_or t 1 0) 0x57 && eqb (get_or t 2 0) 0x54

  pub no_mark : 8 ≤ length t → not marked ≡ true → false ≡ header_good t
  unfolding header_good
  no_mark h n = rw (le-leb 8 (length t) h, not-true marked n)

  pub header_test : (v : ℕ) (b : Bool) → 8 ≤ length t → not marked ≡ false → v ≡ version_of t → b ≡ version_good v
      → b && eqb (get_or t 7 0) 0 ≡ header_good t
  unfolding header_good
  header_test v b h n e f = rw (le-leb 8 (length t) h, not-false marked n, f, e)

  pub counts_test : (r d most : ℕ) → r ≡ count_r t → d ≡ count_d t → most ≡ limit (width t) → leb r most && leb d most ≡ counts_good t
  unfolding counts_good
  counts_test r d most e f g = rw (e, f, g) refl

  pub length_test : (d s : ℕ) → d ≡ count_d t → s ≡ device_start (width t) t d → eqb (length t) s ≡ length_good t
  unfolding length_good
  length_test d s e f = rw (f, e) refl

  pub fields_test : (d r : ℕ) (o : Option ℕ) (b : Bool) (z : DeviceRecord) → z.record.bytes.now ≡ t → z.number ≡ d → r ≡ count_r t
      → o ≡ bad_place (device_fields z.record.width r z.record.bytes.now d z.record.at) → is_some o ≡ not b → b ≡ fields_good t d
  unfolding fields_good bad_field
  fields_test d r o b z x y f g h =
      let a = z.there in
      turned (is_some o) b h ∙ ap (λ (x : Option ℕ). not (is_some x)) g ∙ sym (no_bad_field z.record.width r z.record.bytes.now d z.record.at)
      ∙ rw (a.start, a.width, x, y, f) refl

  pub refused_6 : (d : ℕ) (f : Bool) → f ≡ fields_good t d → f ≡ true → refuse BadObjects d ≡ device_refusal t d
  unfolding fields_or_objects
  refused_6 d f e p = rw (← e, p)

  pub refused_5 : (d : ℕ) (f : Bool) → f ≡ fields_good t d → f ≡ false → refuse BadDevice d ≡ device_refusal t d
  unfolding fields_or_objects
  refused_5 d f e p = rw (← e, p)

pub ruleset table_tests = (
  too_short,
  no_mark,
  header_test,
  counts_test,
  length_test,
  fields_test,
  refused_6,
  refused_5,
)

-- ---- the lowest bad record, from what the check of a run of records gives
pub lowest_4 : (t : List ℕ) (n : ℕ) (r : Option ℕ) → n ≡ count_r t → r ≡ least_option (λ i. not (resource_good t (8 + 4 * i))) n
    → r ≡ least_option (λ i. not (resource_good t (resource_start i))) (count_r t)
lowest_4 t n r e f = rw e at f

module _ (t : List ℕ) (first w n resources : ℕ) (e : first ≡ device_start (width t) t 0) (f : w ≡ width t) (g : n ≡ count_d t)
    (k : resources ≡ count_r t) where
  start_of : (i : ℕ) → first + record_size w * i ≡ device_start (width t) t i
  unfolding device_start
  start_of i = rw (e, f, mul-zero (record_size (width t))) (omega arith)

  pub lowest_5 : (d : Option ℕ) → d ≡ least_option (λ i. not (good_with true w resources t i (first + record_size w * i))) n
      → d ≡ least_option (λ i. not (device_good t i)) (count_d t)
  unfolding device_good fields_good bad_field least_option
  lowest_5 d h =
      let same : (i : ℕ) → good_with true w resources t i (first + record_size w * i) ≡ device_good t i =
      λ i. rw (start_of i, f, k) (table_record (width t) (count_r t) t i (device_start (width t) t i)) in
      h ∙ rw (g, least_ext (λ i. not (good_with true w resources t i (first + record_size w * i))) (λ i. not (device_good t i)) 0 (count_d t) (λ i a b. ap not (same i))) refl

  pub run_inside : WellSized t → first + record_size w * n ≤ length t
  run_inside z = rw (start_of n, g, z.long) (omega arith)

pub few_devices : (t : List ℕ) (n : ℕ) → (n ≡ count_d t) × (n ≤ 64) → n < 256
few_devices t n h = omega (arith, h.1)

pub few_resources : (t : List ℕ) (n w : ℕ) → (n ≡ count_r t) × (n ≤ 64) → WellSized t → w ≡ width t → n ≤ limit w
few_resources t n w h z e = rw (h.0, e) z.resources

pub ruleset lowest_bad = (lowest_4, lowest_5, run_inside, few_devices, few_resources)

-- ---- what the first three checks show
pub long_of : (t : List ℕ) → header_good t ≡ true → 8 ≤ length t
long_of t h = (header_says t h).0

pub version_of_lem : (t : List ℕ) → header_good t ≡ true → version_good (version_of t) ≡ true
version_of_lem t h = (header_says t h).4

pub header_passed : (t : List ℕ) (b : Bool) → b ≡ header_good t → not b ≡ false → header_good t ≡ true
header_passed t b e p = sym e ∙ not-false b p

records_inside : (t : List ℕ) → length t ≡ device_start (width t) t (count_d t) → 8 + 4 * count_r t ≤ length t
unfolding device_start
records_inside t e = omega arith

pub sized_by : (t : List ℕ) (c l : Bool) → header_good t ≡ true → c ≡ counts_good t → not c ≡ false → l ≡ length_good t → not l ≡ false
    → WellSized t × (header_good t ≡ true)
unfolding counts_good length_good
sized_by t c l header b y d z =
    let counts = both_true _ _ (sym b ∙ not-false c y) in
    let long = eqb-true _ _ (sym d ∙ not-false l z) in (
      record {
        head = long_of t header;
        version = version_of_lem t header;
        resources = leb-true _ _ counts.0;
        devices = leb-true _ _ counts.1;
        long = long;
        records = records_inside t long;
        wide = width_wide t;
      },
      header,
    )

-- ---- one check of a chain: passed, and refused
module _ (rest : List Verdict) (last : Verdict) where
  pub unless_passed : (good : Bool) (why : Reason) (at : ℕ) → good ≡ true → first_of (unless good why at ∷ rest) last ≡ first_of rest last
  unless_passed good why at p = first_pass (unless good why at) rest last (ap passes (unless_of good why at p) ∙ done_passes 0)

  pub unless_refused : (good : Bool) (why : Reason) (at : ℕ) → good ≡ false → refuse why at ≡ first_of (unless good why at ∷ rest) last
  unless_refused good why at p =
      let s = unless_stop good why at p in
      sym (first_stop (unless good why at) rest last (ap passes s ∙ refused_stops why at) ∙ s)

  -- o is the lowest bad one, if there is one
  module _ (bad : ℕ → Bool) (n : ℕ) (refusal : ℕ → Verdict) (o : Option ℕ) (e : o ≡ least_option bad n) where
    pub lowest_passed : o ≡ None → first_of (lowest bad n refusal ∷ rest) last ≡ first_of rest last
    lowest_passed h =
        first_pass (lowest bad n refusal) rest last (ap passes (lowest_no bad n refusal (sym h ∙ e)) ∙ done_passes 0)

    pub lowest_refused : (v : Verdict) (i : ℕ) → v ≡ refusal i → passes v ≡ false → o ≡ Some i
        → v ≡ first_of (lowest bad n refusal ∷ rest) last
    lowest_refused v i g r h =
        let s : lowest bad n refusal ≡ v = sym (g ∙ lowest_some bad n i refusal (sym h ∙ e)) in
        sym (first_stop (lowest bad n refusal) rest last (ap passes s ∙ r) ∙ s)

-- ---- each way out of the table's chain: what passed before, and the check that refuses
module _ (t : List ℕ) where
  abbrev devices_check : Verdict
  devices_check = lowest (λ d. not (device_good t d)) (count_d t) (device_refusal t)

  abbrev resources_check : Verdict
  resources_check = lowest (λ r. not (resource_good t (resource_start r))) (count_r t) (refuse BadResource)

  abbrev length_check : Verdict
  length_check = unless (length_good t) WrongLength 0

  abbrev counts_check : Verdict
  counts_check = unless (counts_good t) TooMany 0

  past_header : header_good t ≡ true → first_of (counts_check ∷ length_check ∷ resources_check ∷ devices_check ∷ []) (Ok 0) ≡ table_verdict t
  unfolding table_verdict
  past_header h = sym (unless_passed _ _ (header_good t) NotATable 0 h)

  past_counts : header_good t ≡ true → counts_good t ≡ true → first_of (length_check ∷ resources_check ∷ devices_check ∷ [])
      (Ok 0) ≡ table_verdict t
  past_counts h c = sym (unless_passed _ _ (counts_good t) TooMany 0 c) ∙ past_header h

  -- b is the answer of the function that checks
  pub no_table : (b : Bool) → b ≡ header_good t → not b ≡ true → refuse NotATable 0 ≡ table_verdict t
  unfolding table_verdict
  no_table b e p = unless_refused _ _ (header_good t) NotATable 0 (sym e ∙ not-true b p)

  pub too_many : (b : Bool) → header_good t ≡ true → b ≡ counts_good t → not b ≡ true → refuse TooMany 0 ≡ table_verdict t
  too_many b h e p = unless_refused _ _ (counts_good t) TooMany 0 (sym e ∙ not-true b p) ∙ past_header h

  pub wrong_length : (c b : Bool) → header_good t ≡ true → c ≡ counts_good t → not c ≡ false → b ≡ length_good t → not b ≡ true
      → refuse WrongLength 0 ≡ table_verdict t
  wrong_length c b h f y e p = unless_refused _ _ (length_good t) WrongLength 0 (sym e ∙ not-true b p)
      ∙ past_counts h (sym f ∙ not-false c y)

  -- from here on the first three have passed
  module _ (sized : WellSized t) (h : header_good t ≡ true) (r : Option ℕ)
      (e : r ≡ least_option (λ i. not (resource_good t (resource_start i))) (count_r t)) where
    past_length : first_of (resources_check ∷ devices_check ∷ []) (Ok 0) ≡ table_verdict t
    unfolding counts_good length_good
    past_length =
        let counts : counts_good t ≡ true = rw (
          le-leb (count_r t) (limit (width t)) sized.resources,
          le-leb (count_d t) (limit (width t))
              sized.devices,
        ) refl in
        sym (unless_passed _ _ (length_good t) WrongLength 0 (eq-eqb _ _ sized.long)) ∙ past_counts h counts

    pub bad_resource : (i : ℕ) → r ≡ Some i → refuse BadResource i ≡ table_verdict t
    bad_resource i p = lowest_refused _ _ _ (count_r t) (refuse BadResource) r e _ i refl (refused_stops BadResource i) p ∙ past_length

    module _ (p : r ≡ None) (q : Option ℕ) (g : q ≡ least_option (λ i. not (device_good t i)) (count_d t)) where
      past_resources : first_of (devices_check ∷ []) (Ok 0) ≡ table_verdict t
      past_resources = sym (lowest_passed _ _ _ (count_r t) (refuse BadResource) r e p) ∙ past_length

      pub some_device : (d : ℕ) → q ≡ Some d → d < count_d t
      some_device d u = (least_of_some _ (count_d t) d (sym u ∙ g)).1

      pub bad_device : (v : Verdict) (d : ℕ) → v ≡ device_refusal t d → q ≡ Some d → v ≡ table_verdict t
      bad_device v d o u =
          lowest_refused _ _ _ (count_d t) (device_refusal t) q g v d o (ap passes o ∙ refuses (fields_good t d) d) u ∙ past_resources

      pub all_pass : q ≡ None → Ok 0 ≡ table_verdict t
      all_pass u = sym (lowest_passed _ _ _ (count_d t) (device_refusal t) q g u ∙ first_none (Ok 0)) ∙ past_resources

pub ruleset table_answers = (long_of, version_of_lem, header_passed, no_table, too_many, wrong_length, bad_resource, some_device, bad_device, all_pass)

-- ---- what an accepted table is known to have: from the rules, and from what a caller knows of the answer v of the check, and b whether it
-- passes
pub sized_of : (t : List ℕ) → passes (table_verdict t) ≡ true → WellSized t
sized_of t e =
    let a = accepted t e in
    record {
      head = unfold device_start in omega (arith, a.long);
      version = version_of_lem t a.header;
      resources = a.resources;
      devices = a.devices;
      long = a.long;
      records = records_inside t a.long;
      wide = width_wide t;
    }

pub sized_done : (t : List ℕ) (n : ℕ) → table_verdict t ≡ Ok n → WellSized t
sized_done t n e = sized_of t (ap passes e ∙ done_passes n)

pub sized_told : (t : List ℕ) (b : Bool) → b ≡ passes (table_verdict t) → not b ≡ false → WellSized t
sized_told t b e p = sized_of t (sym e ∙ not-false b p)

-- and so its header is there
pub long_told : (t : List ℕ) (b : Bool) → b ≡ passes (table_verdict t) → not b ≡ false → 8 ≤ length t
long_told t b e p = (sized_told t b e p).head

pub version_told : (t : List ℕ) (b : Bool) → b ≡ passes (table_verdict t) → not b ≡ false → version_good (version_of t) ≡ true
version_told t b e p = (sized_told t b e p).version

-- a table that passes is done
table_done : (t : List ℕ) → passes (table_verdict t) ≡ true → table_verdict t ≡ Ok 0
unfolding table_verdict
table_done t e = first_through _ (Ok 0) e

pub table_passed : (t : List ℕ) (v : Verdict) → v ≡ table_verdict t → passes v ≡ true → table_verdict t ≡ Ok 0
table_passed t v e p = table_done t (answer_passed v _ e p)

pub sized_passed : (t : List ℕ) (v : Verdict) → v ≡ table_verdict t → passes v ≡ true → WellSized t
sized_passed t v e p = sized_done t 0 (table_passed t v e p)

-- ---- a device's record
module _ (t : List ℕ) (d : ℕ) (b : Bool) (e : b ≡ passes (table_verdict t)) where
  pub part_refused : not b ≡ true → [] ≡ record_part t d
  unfolding record_part
  part_refused p = rw (sym e ∙ not-true b p)

  pub part_past : (n : ℕ) → n ≡ count_d t → not b ≡ false → n ≤ d → [] ≡ record_part t d
  unfolding record_part
  part_past n f p h = rw (sym e ∙ not-false b p, le-ltb d (count_d t) (rw f at h))

  pub part_is : (n at w s : ℕ) → n ≡ count_d t → at ≡ device_start (width t) t d → w ≡ width t → s ≡ record_size w → not b ≡ false → d < n
      → take (at + s - at) (drop at t) ≡ record_part t d
  unfolding record_part
  part_is n at w s f g i j p h = rw (add-sub_cancel_left, sym e ∙ not-false b p, lt-ltb d (count_d t) (rw f at h), g, j, i) refl

pub ruleset record_part_lem = (part_refused, part_past, part_is)
