-- The verdict on records that a table can say is the verdict on the table that they make: its header, counts and length are good, and a
-- record in it is good exactly if the described one is.
use mathlib.Core.Path.{◌≡◌, refl, ap, ◌∙◌}
use mathlib.Core.Bool.{Bool, true, not, and-true}
use mathlib.Core.List.{List}
use Prim.Native.Nat.{ℕ, ◌+◌, ◌*◌, ◌<◌}
use native.Mathlib.Omega.{arith}
use borrow.Author.Tests.{eq-eqb, le-leb}
use lib.Dec.{eqb}
use lib.ListN.{length, get_or}
use Rattle.words.specs.Words.{bytes_le}
use Rattle.rules.specs.Verdict.{refuse}
use Rattle.rules.specs.declared.Reason.TheVariants.{BadResource}
use Rattle.rules.specs.Answers.{passes, first_of, unless}
use Rattle.rules.specs.Station.{version_width, record_size, resource_start, device_start, device_at}
use Rattle.rules.specs.Table.{header_good, counts_good, length_good, field, all_good, resource_good, value_fields, zero_fields, device_fields}
use Rattle.rules.specs.Table.{bad_field, fields_good, fields_or_objects, device_refusal, device_good, table_verdict}
use Rattle.rules.specs.Describe.{described_width, described_size, described_r, described_d, described_device, header_bytes, table_bytes}
use Rattle.rules.specs.Write.{described_resource_good, described_fields_good, described_device_good, records_verdict, described_counts_good}
use Rattle.laws.specs.Inverse.{Representable, SameVerdict}
use Rattle.laws.proofs.All.{all_each}
use Rattle.laws.proofs.Every.{lowest_ext}
use Rattle.laws.proofs.Accepted.{fields_inside}
use Rattle.laws.proofs.Good.{none_bad, joined, Good, good_all, values_same}
use Rattle.laws.proofs.Write.{count_r_lem, count_d_lem, resource_byte, version_there, width_there, table_long, zero_there, device_there}

module _ (version : ℕ) (rs ds : List ℕ) (s : Representable version rs ds) where
  abbrev w : ℕ
  w = version_width version

  abbrev t : List ℕ
  t = table_bytes version rs ds

  header_good_lem : header_good t ≡ true
  unfolding header_good table_bytes header_bytes bytes_le
  header_good_lem = rw (le-leb 8 (length t) (omega (arith, table_long version rs ds s)), version_there version rs ds s, s.known) refl

  counts_good_lem : counts_good t ≡ true
  unfolding counts_good described_counts_good
  counts_good_lem = rw (width_there version rs ds s, count_r_lem version rs ds, count_d_lem version rs ds) s.counts

  length_good_lem : length_good t ≡ true
  unfolding length_good device_start
  length_good_lem = rw (width_there version rs ds s, count_r_lem version rs ds, count_d_lem version rs ds) (eq-eqb _ _ (table_long version rs ds s))

  -- ---- a resource
  resource_same : (r : ℕ) → r < described_r rs → described_resource_good rs r ≡ resource_good t (resource_start r)
  unfolding described_resource_good resource_good
  resource_same r u =
      let l = s.resources in
      let level = resource_byte version rs ds (4 * r) (omega arith) in
      let byte = resource_byte version rs ds (4 * r + 1) (omega arith) in
      let next : 8 + 4 * r + 1 ≡ 8 + (4 * r + 1) = omega arith in
      rw (le-leb (4 * r + 4) (length rs) (omega arith), next, level, byte) refl

  -- ---- a device: its zeros are good
  fields_same : (d : ℕ) → d < described_d ds → described_fields_good (described_r rs) ds d ≡ fields_good t d
  unfolding described_fields_good fields_good bad_field device_fields zero_fields
  fields_same d u =
      let at = device_start w t d in
      let l = s.devices in
      let zeros : all_good (zero_fields w t at) ≡ true =
      good_all _ (all_each Good (λ k. field (14 + 5 * w + k) (eqb (get_or t (at + 14 + 5 * w + k) 0) 0)) 0 (2 + w)
      (λ k x y. eq-eqb _ _ (zero_there version rs ds s d k u (omega arith)))) in
      let read = none_bad (record_size w) (device_fields w (described_r rs) t d at) (fields_inside w (described_r rs) t d at)
      ∙ joined (value_fields w (described_r rs) d (device_at w t at)) (zero_fields w t at) in
      rw (
        le-leb (described_size * d + described_size) (length ds) (omega arith),
        width_there version rs ds s,
        count_r_lem version rs ds,
        read,
        device_there version rs ds s d u,
        zeros,
        and-true,
      ) (values_same described_width w (described_r rs) d (described_device ds d))

  device_same : (d : ℕ) → d < described_d ds → described_device_good (described_r rs) ds d ≡ device_good t d
  unfolding described_device_good device_good
  device_same d u = rw (width_there version rs ds s, device_there version rs ds s d u, fields_same d u) refl

pub same_verdict : (version : ℕ) (rs ds : List ℕ) → SameVerdict version rs ds
unfolding records_verdict table_verdict
same_verdict version rs ds s =
    let table = table_bytes version rs ds in
    let resources = lowest_ext (λ r. not (described_resource_good rs r)) (λ r. not (resource_good table (resource_start r))) (described_r rs)
    (refuse BadResource) (refuse BadResource) (λ r u. ap not (resource_same version rs ds s r u)) (λ r u. refl) in
    let devices = lowest_ext (λ d. not (described_device_good (described_r rs) ds d)) (λ d. not (device_good table d)) (described_d ds)
    (λ d. fields_or_objects (described_fields_good (described_r rs) ds d) d) (device_refusal table)
    (λ d u. ap not (device_same version rs ds s d u))
    (λ d u. ap (λ (good : Bool). fields_or_objects good d) (fields_same version rs ds s d u)) in
    rw (
      resources,
      devices,
      count_r_lem version rs ds,
      count_d_lem version rs ds,
      header_good_lem version rs ds s,
      counts_good_lem version rs ds s,
      length_good_lem version rs ds s,
    ) (unfold first_of unless passes in refl)
