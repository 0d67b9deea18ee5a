-- The checks of two lists of records: of one record, and each way out of the chain of checks.
-- Where the code asks another function, that function's answer comes with what it says.
use mathlib.Core.Path.{◌≡◌, refl, sym, ap, ◌∙◌}
use mathlib.Core.Bool.{Bool, true, false, not, not-not, ◌&&◌, and-true}
use mathlib.Core.List.{List, [], ◌∷◌}
use Prim.Native.Nat.{ℕ, ◌+◌, ◌*◌, ◌/◌, ◌≤◌, ◌<◌}
use native.Mathlib.Nat.{zero-add}
use native.Mathlib.Omega.{arith}
use borrow.Author.Tests.{leb-true, ltb-true, ltb-false, le-leb, lt-leb, not-true, not-false}
use lib.Dec.{leb, ltb}
use lib.ListN.{length}
use Rattle.rules.specs.Verdict.{Verdict}
use Rattle.std.specs.Prelude.{Ok, Option, Some, None, is_some}
use Rattle.std.specs.Option.{option_or}
use Rattle.std.specs.Bool.{then_some}
use Rattle.rules.specs.Verdict.{refuse}
use Rattle.rules.specs.declared.Reason.TheVariants.{NotATable, TooMany, BadResource, BadDevice, BadObjects, NoRoom}
use Rattle.rules.specs.Index.{least, least_option}
use Rattle.rules.proofs.Index.{some_least, no_least, least_of_some, least_of_none, at_most}
use Rattle.sets.proofs.Laws.{decide}
use Rattle.rules.specs.Answers.{passes, first_of, unless, lowest}
use Rattle.rules.specs.Station.{limit, version_good, version_width, Wide, table_size, device_at}
use Rattle.rules.specs.Table.{all_good, resource_good, value_fields, fields_or_objects}
use Rattle.rules.specs.Describe.{described_width, described_size, described_r, described_d, described_device}
use Rattle.rules.specs.Write.{described_resource_good, described_fields_good, described_device_good, records_verdict, described_counts_good}
use Rattle.rules.specs.Write.{written_size, write_verdict}
use Rattle.rules.proofs.Answers.{answer_passed, answer_stopped}
use Rattle.rules.proofs.Answers.{refused_stops, first_pass, first_stop, first_none}
use Rattle.laws.proofs.Accepted.{refuses}
use Rattle.laws.proofs.Every.{least_part}
use Rattle.laws.proofs.Tests.{both_true}
use Rattle.record.specs.Good.{good_with}
use Rattle.record.specs.Bad.{bad_place}
use Rattle.record.proofs.FirstBad.{place_none}
use Rattle.table.proofs.Verdicts.{unless_passed, unless_refused, lowest_passed, lowest_refused}
use Rattle.writer.specs.WithinLimits.{WithinLimits}

-- ---- the lowest of m numbers where g tells of the first n, and n itself is a hit if there are more
pub lowest_or_next : (f g : ℕ → Bool) (n m : ℕ) → ((i : ℕ) → i < n → f i ≡ g i) → n ≤ m → (n < m → f n ≡ true)
    → option_or (least_option g n) (then_some (ltb n m) n) ≡ least_option f m
lowest_or_next f g n m h l c = go (least_option g n) refl
  where
    same : least g n ≡ least f m
    same = least_part f g n m h l c

    go : (o : Option ℕ) → o ≡ least_option g n → option_or o (then_some (ltb n m) n) ≡ least_option f m
    go (Some i) e = let k = least_of_some g n i e in some_least f m i (k.0 ∙ same) (omega (arith, k.1))
    go None e =
        let at_n : n ≡ least f m = omega (arith, least_of_none g n e, at_most g 0 n) ∙ same in
        decide (ltb n m) (λ q. rw q (some_least f m n at_n (ltb-true n m q))) (λ q. rw q (no_least f m n at_n (ltb-false n m q)))

-- ---- the lowest bad resource: where the last is cut short it is bad, and no whole one is past it
module _ (rs : List ℕ) where
  cut_resource : length rs / 4 < described_r rs → not (described_resource_good rs (length rs / 4)) ≡ true
  unfolding described_resource_good
  cut_resource h = rw (lt-leb (4 * (length rs / 4) + 4) (length rs) (omega arith)) refl

  whole_resource : (i : ℕ) → i < length rs / 4 → described_resource_good rs i ≡ resource_good rs (0 + 4 * i)
  unfolding described_resource_good
  whole_resource i h = rw (le-leb (4 * i + 4) (length rs) (omega arith), zero-add (4 * i)) refl

  pub lowest_resource_is : (n : ℕ) (r t o : Option ℕ) → r ≡ least_option (λ i. not (resource_good rs (0 + 4 * i))) (length rs / 4)
      → n ≡ described_r rs → t ≡ then_some (ltb (length rs / 4) n) (length rs / 4) → o ≡ option_or r t
      → o ≡ least_option (λ i. not (described_resource_good rs i)) (described_r rs)
  lowest_resource_is n r t o e f g h =
      h ∙ rw (e, g, f) (lowest_or_next (λ i. not (described_resource_good rs i)) (λ i. not (resource_good rs (0 + 4 * i))) (length rs / 4)
      (described_r rs) (λ i l. ap not (whole_resource i l)) (omega arith) cut_resource)

-- ---- one device among R resources
module _ (resources : ℕ) (ds : List ℕ) (d : ℕ) where
  pub fields_cut : length ds < described_size * d + described_size → false ≡ described_fields_good resources ds d
  unfolding described_fields_good
  fields_cut h = rw (lt-leb (described_size * d + described_size) (length ds) h) refl

  pub fields_whole : (o : Option ℕ) (b : Bool) → described_size * d + described_size ≤ length ds
      → o ≡ bad_place (value_fields 8 resources d (device_at 8 ds (described_size * d))) → is_some o ≡ not b
      → b ≡ described_fields_good resources ds d
  unfolding described_fields_good
  fields_whole o b h e f =
      rw (le-leb (described_size * d + described_size) (length ds) h, place_none (value_fields 8 resources d (described_device ds d)), ← e, f)
      (sym (not-not b))

  module _ (f : Bool) (e : f ≡ described_fields_good resources ds d) where
    pub refused_6 : f ≡ true → refuse BadObjects d ≡ fields_or_objects (described_fields_good resources ds d) d
    unfolding fields_or_objects
    refused_6 p = rw (← e, p) refl

    pub refused_5 : f ≡ false → refuse BadDevice d ≡ fields_or_objects (described_fields_good resources ds d) d
    unfolding fields_or_objects
    refused_5 p = rw (← e, p) refl

-- ---- the lowest bad device, likewise
module _ (resources : ℕ) (ds : List ℕ) where
  cut_device : length ds / 54 < described_d ds → not (described_device_good resources ds (length ds / 54)) ≡ true
  unfolding described_device_good
  cut_device h = rw (← fields_cut resources ds (length ds / 54) (omega arith)) refl

  whole_device : (i : ℕ) → i < length ds / 54 → described_device_good resources ds i ≡ good_with false 8 resources ds i (0 + 54 * i)
  unfolding described_device_good described_fields_good good_with
  whole_device i h =
      rw (
        le-leb (described_size * i + described_size) (length ds) (omega arith),
        zero-add (54 * i),
        and-true (all_good (value_fields 8 resources i (described_device ds i))),
      ) refl

  pub lowest_device_is : (n : ℕ) (r t o : Option ℕ)
      → r ≡ least_option (λ i. not (good_with false 8 resources ds i (0 + 54 * i))) (length ds / 54)
      → n ≡ described_d ds → t ≡ then_some (ltb (length ds / 54) n) (length ds / 54) → o ≡ option_or r t
      → o ≡ least_option (λ i. not (described_device_good resources ds i)) (described_d ds)
  lowest_device_is n r t o e f g h =
      h ∙ rw (e, g, f) (lowest_or_next (λ i. not (described_device_good resources ds i)) (λ i. not (good_with false 8 resources ds i (0 + 54 * i)))
      (length ds / 54) (described_d ds) (λ i l. ap not (whole_device i l)) (omega arith) cut_device)

pub ruleset refused = (refused_6, refused_5)

-- ---- a bad device is one of those that are there
pub device_in : (rs ds : List ℕ) (resources d : ℕ) (q : Option ℕ) → WithinLimits rs ds → resources ≡ described_r rs
    → q ≡ least_option (λ i. not (described_device_good resources ds i)) (described_d ds) → q ≡ Some d
    → (d < 256) × (resources ≤ limit described_width)
device_in rs ds resources d q h c g u = (omega (arith, (least_of_some _ (described_d ds) d (sym u ∙ g)).1, h.devices), rw c h.resources)

-- ---- the records: each way out, R as the code counts it
module _ (rs ds : List ℕ) (resources : ℕ) (r : Option ℕ) (c : resources ≡ described_r rs)
    (e : r ≡ least_option (λ i. not (described_resource_good rs i)) (described_r rs)) where
  abbrev refusal_of : ℕ → Verdict
  refusal_of d = fields_or_objects (described_fields_good (described_r rs) ds d) d

  abbrev devices_check : Verdict
  devices_check = lowest (λ d. not (described_device_good (described_r rs) ds d)) (described_d ds) refusal_of

  pub bad_resource : (i : ℕ) → r ≡ Some i → refuse BadResource i ≡ records_verdict rs ds
  unfolding records_verdict
  bad_resource i p = lowest_refused _ _ _ (described_r rs) (refuse BadResource) r e _ i refl (refused_stops BadResource i) p

  module _ (p : r ≡ None) (q : Option ℕ) (g : q ≡ least_option (λ i. not (described_device_good resources ds i)) (described_d ds)) where
    past_resources : first_of (devices_check ∷ []) (Ok 0) ≡ records_verdict rs ds
    unfolding records_verdict
    past_resources = sym (lowest_passed _ _ _ (described_r rs) (refuse BadResource) r e p)

    same : q ≡ least_option (λ i. not (described_device_good (described_r rs) ds i)) (described_d ds)
    same = rw c at g

    pub bad_device : (v : Verdict) (d : ℕ) → v ≡ fields_or_objects (described_fields_good resources ds d) d → q ≡ Some d
        → v ≡ records_verdict rs ds
    bad_device v d o u =
        let w = rw c at o in
        lowest_refused _ _ _ (described_d ds) refusal_of q same v d w (ap passes w ∙ refuses (described_fields_good (described_r rs) ds d) d) u
        ∙ past_resources

    pub all_records_good : q ≡ None → Ok 0 ≡ records_verdict rs ds
    all_records_good u = sym (lowest_passed _ _ _ (described_d ds) refusal_of q same u ∙ first_none (Ok 0)) ∙ past_resources

pub ruleset records_answers = (bad_resource, bad_device)

-- ---- two counts within the limit
within : (r d w : ℕ) → not (leb r (8 * w) && leb d (8 * w)) ≡ false → (r ≤ 8 * w) × (d ≤ 8 * w)
within r d w q = let h = both_true _ _ (not-false _ q) in (leb-true _ _ h.0, leb-true _ _ h.1)

pub small_r : (r d w : ℕ) → Wide w → not (leb r (8 * w) && leb d (8 * w)) ≡ false → r < 256
small_r r d w h q = omega (arith, (within r d w q).0)

pub small_d : (r d w : ℕ) → Wide w → not (leb r (8 * w) && leb d (8 * w)) ≡ false → d < 256
small_d r d w h q = omega (arith, (within r d w q).1)

pub few : (rs ds : List ℕ) (r d w : ℕ) → r ≡ described_r rs → d ≡ described_d ds → Wide w → not (leb r (8 * w) && leb d (8 * w)) ≡ false
    → WithinLimits rs ds
few rs ds r d w y z h q = record { resources = omega (arith, (within r d w q).0); devices = omega (arith, (within r d w q).1) }

-- ---- the whole check: each way out, with the width and the counts as the code has them
module _ (version : ℕ) (rs ds : List ℕ) (room : ℕ) (g : Bool) (e : g ≡ version_good version) where
  abbrev counts_check : Verdict
  counts_check = unless (described_counts_good version rs ds) TooMany 0

  abbrev room_check : Verdict
  room_check = unless (leb (written_size version rs ds) room) NoRoom 0

  abbrev done : Verdict
  done = Ok (written_size version rs ds)

  pub bad_version : not g ≡ true → refuse NotATable 0 ≡ write_verdict version rs ds room
  unfolding write_verdict
  bad_version p = unless_refused _ _ (version_good version) NotATable 0 (sym e ∙ not-true g p)

  module _ (p : not g ≡ false) (w r d : ℕ) (x : w ≡ version_width version) (y : r ≡ described_r rs) (z : d ≡ described_d ds) where
    past_version : first_of (counts_check ∷ room_check ∷ records_verdict rs ds ∷ []) done ≡ write_verdict version rs ds room
    unfolding write_verdict
    past_version = sym (unless_passed _ _ (version_good version) NotATable 0 (sym e ∙ not-false g p))

    counts_are : leb r (8 * w) && leb d (8 * w) ≡ described_counts_good version rs ds
    unfolding described_counts_good
    counts_are = rw (x, y, z) refl

    pub too_many : not (leb r (8 * w) && leb d (8 * w)) ≡ true → refuse TooMany 0 ≡ write_verdict version rs ds room
    too_many q = unless_refused _ _ (described_counts_good version rs ds) TooMany 0 (sym counts_are ∙ not-true _ q) ∙ past_version

    module _ (q : not (leb r (8 * w) && leb d (8 * w)) ≡ false) where
      past_counts : first_of (room_check ∷ records_verdict rs ds ∷ []) done ≡ write_verdict version rs ds room
      past_counts = sym (unless_passed _ _ (described_counts_good version rs ds) TooMany 0 (sym counts_are ∙ not-false _ q)) ∙ past_version

      module _ (size : ℕ) (s : size ≡ table_size w r d) where
        size_is : size ≡ written_size version rs ds
        size_is = s ∙ rw (x, y, z) refl

        pub no_room_lem : room < size → refuse NoRoom 0 ≡ write_verdict version rs ds room
        no_room_lem h =
            unless_refused _ _ (leb (written_size version rs ds) room) NoRoom 0 (lt-leb (written_size version rs ds) room (rw size_is at h))
            ∙ past_counts

        module _ (h : size ≤ room) (v : Verdict) (f : v ≡ records_verdict rs ds) where
          past_room : first_of (records_verdict rs ds ∷ []) done ≡ write_verdict version rs ds room
          past_room =
              sym (unless_passed _ _ (leb (written_size version rs ds) room) NoRoom 0 (le-leb (written_size version rs ds) room
              (rw size_is at h))) ∙ past_counts

          pub record_refused : passes v ≡ false → v ≡ write_verdict version rs ds room
          record_refused o = f ∙ sym (first_stop _ _ _ (answer_stopped v _ f o)) ∙ past_room

          pub all_pass : passes v ≡ true → Ok size ≡ write_verdict version rs ds room
          all_pass o = ap Ok size_is ∙ sym (first_pass _ _ _ (answer_passed v _ f o) ∙ first_none done) ∙ past_room

pub ruleset write_answers = (bad_version, too_many, small_r, small_d, few, no_room_lem, record_refused, all_pass)
