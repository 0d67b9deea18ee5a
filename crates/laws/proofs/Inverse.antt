-- RULES.md 11.7: what was written describes the records that it was written from, and what a good table describes is written as that table,
-- for all buffers with room.
use mathlib.Core.Path.{◌≡◌, refl, sym, ap, ◌∙◌}
use mathlib.Core.Bool.{true}
use mathlib.Core.List.{List, [], ◌∷◌}
use Prim.Native.Nat.{ℕ, zero, suc, ◌+◌, ◌*◌, ◌≤◌, ◌<◌}
use native.Mathlib.Nat.{lt_of_lt_of_le}
use native.Mathlib.Omega.{arith}
use borrow.Author.Tests.{leb-true, le-leb, ltb-true, not-false}
use lib.Pow.{pow_mono}
use lib.Dec.{leb}
use lib.ListN.{length}
use Rattle.words.proofs.Put.{take_put}
use Rattle.std.specs.Prelude.{Ok}
use Rattle.rules.specs.declared.Reason.TheVariants.{BadResource}
use Rattle.rules.specs.Answers.{number_of, place_of, count_of, passes, first_of, unless}
use Rattle.rules.specs.Station.{version_width, version_of, limit, count_r, count_d}
use Rattle.rules.specs.Table.{all_good, set_good, value_fields, table_verdict}
use Rattle.rules.specs.Describe.{described_width, described_size, described_r, described_d, described_device, resources_of, devices_of}
use Rattle.rules.specs.Describe.{table_bytes}
use Rattle.rules.specs.Write.{described_resource_good, described_fields_good, described_device_good, records_verdict, described_counts_good}
use Rattle.rules.specs.Write.{written_size, write_verdict, write, describe_verdict, describe}
use Rattle.sets.proofs.Laws.{decide}
use Rattle.rules.proofs.Answers.{first_pass, first_stop, first_none, first_both, first_through, unless_at, refused_stops, lowest_at}
use Rattle.laws.specs.Inverse.{AllBytes, Describes, Makes, WrittenDescribes, DescribedMakes, Representable, AnswersAsReader}
use Rattle.laws.proofs.Tests.{both_true}
use Rattle.laws.proofs.Image.{bytes_bits}
use Rattle.laws.proofs.Accepted.{DeviceRules, values_rules, refuses, accepted}
use Rattle.laws.proofs.Good.{good_each}
use Rattle.laws.proofs.Write.{count_r_lem, count_d_lem, table_long, resources_back, devices_back}
use Rattle.laws.proofs.Describe.{described_long, resources_long, described_representable, table_back}
use Rattle.laws.proofs.Lists.{number_passes}
use Rattle.laws.proofs.Verdict.{same_verdict}

-- records that are each whole are all of a list that has no more than them
whole : (size n l : ℕ) → l ≤ size * n → ((i : ℕ) → i < n → size * i + size ≤ l) → l ≡ size * n
whole size zero l h each = omega arith
whole size (suc n) l h each = omega (arith, each n (omega arith))

-- a described device whose fields are good is whole, and keeps every rule
described_good : (resources : ℕ) (ds : List ℕ) (d : ℕ) → described_fields_good resources ds d ≡ true
    → (described_size * d + described_size ≤ length ds) × DeviceRules resources d (described_device ds d)
unfolding described_fields_good
described_good resources ds d e =
    let v = described_device ds d in
    let h = both_true (leb (described_size * d + described_size) (length ds)) (all_good (value_fields described_width resources d v)) e in
    (leb-true _ _ h.0, values_rules described_width resources d v (good_each _ h.1))

-- ---- described after written
module _ (version : ℕ) (rs ds : List ℕ) (room : ℕ) (e : passes (write_verdict version rs ds room) ≡ true) where
  abbrev w : ℕ
  w = version_width version

  abbrev t : List ℕ
  t = table_bytes version rs ds

  pub records_pass : passes (records_verdict rs ds) ≡ true
  unfolding write_verdict
  records_pass = (first_both _ _ _ (first_both _ _ _ (first_both _ _ _ (first_both _ _ _ e).1).1).1).0

  -- what is written can be said: no record below the count is cut short, and a set has no bit at or above R, which is at most 8w
  pub written_representable : Representable version rs ds
  unfolding write_verdict records_verdict described_counts_good described_resource_good described_device_good set_good
  written_representable =
      let a = first_both _ _ _ e in
      let b = first_both _ _ _ a.1 in
      let f = first_both _ _ _ records_pass in
      let g = first_both _ _ _ f.1 in
      let nameable = leb-true (described_r rs) (limit w) (both_true _ _ (unless_at _ _ _ b.0)).0 in
      let device : (d : ℕ) → d < described_d ds
      → (described_size * d + described_size ≤ length ds) × DeviceRules (described_r rs) d (described_device ds d) =
      λ d u. described_good (described_r rs) ds d
      (both_true _ _ (not-false (described_device_good (described_r rs) ds d) (lowest_at _ _ _ (λ i. refuses _ i) g.0 d u))).0 in
      record {
        known = unless_at _ _ _ a.0;
        resources = whole 4 (described_r rs) (length rs) (omega arith)
            (λ r u. leb-true _ _ (both_true _ _ (not-false _ (lowest_at _ _ _ (refused_stops BadResource) f.0 r u))).0);
        devices = whole described_size (described_d ds) (length ds) (omega arith) (λ d u. (device d u).0);
        counts = unless_at _ _ _ b.0;
        sets = λ d u k l. rw (bytes_bits w)
            (lt_of_lt_of_le (ltb-true _ _ (both_true _ _ ((device d u).1.sets k l)).0) (pow_mono (omega arith)));
      }

  -- so the table is good, and has the bytes that were counted
  pub written_good : table_verdict t ≡ Ok 0
  unfolding records_verdict
  written_good = sym (same_verdict version rs ds written_representable) ∙ first_through _ (Ok 0) records_pass

  -- the buffer has room for them
  pub written_room : written_size version rs ds ≤ room
  unfolding write_verdict
  written_room = leb-true _ _ (unless_at _ _ _ (first_both _ _ _ (first_both _ _ _ (first_both _ _ _ e).1).1).0)

  pub written_done : write_verdict version rs ds room ≡ Ok (written_size version rs ds)
  unfolding write_verdict records_verdict
  written_done =
      let records : records_verdict rs ds ≡ Ok 0 = first_through _ (Ok 0) records_pass in
      rw (written_representable.known, written_representable.counts, le-leb (written_size version rs ds) room written_room, records)
      (unfold first_of unless passes in refl)

  pub written_long : length t ≡ written_size version rs ds
  written_long = table_long version rs ds written_representable

pub written_describes : (version : ℕ) (rs ds : List ℕ) (room : ℕ) → AllBytes ds → passes (write_verdict version rs ds room) ≡ true
    → Describes (table_bytes version rs ds) rs ds
unfolding describe describe_verdict
written_describes version rs ds room bytes e a b l u =
    let s = written_representable version rs ds room e in
    let done : describe_verdict (table_bytes version rs ds) (length a) (length b) ≡ Ok (length rs + length ds) =
    rw (
      written_good version rs ds room e,
      count_r_lem version rs ds,
      count_d_lem version rs ds,
      ← s.resources,
      ← s.devices,
      le-leb (length rs) (length a) l,
      le-leb (length ds) (length b) u,
    ) (unfold first_of unless passes in refl) in
    rw (done, resources_back version rs ds s, devices_back version rs ds s bytes) (unfold passes in refl)

-- ---- written after described
pub described_makes : (t : List ℕ) → AllBytes t → passes (table_verdict t) ≡ true → Makes (version_of t) (resources_of t) (devices_of t) t
unfolding table_verdict write write_verdict
described_makes t bytes e a l =
    let version = version_of t in
    let rs = resources_of t in
    let ds = devices_of t in
    let s = described_representable t bytes (accepted t e) in
    let back = table_back t bytes (accepted t e) in
    let long : written_size version rs ds ≡ length t = sym (table_long version rs ds s) ∙ ap length back in
    let records : records_verdict rs ds ≡ Ok 0 = same_verdict version rs ds s ∙ ap table_verdict back ∙ first_through _ (Ok 0) e in
    let done : write_verdict version rs ds (length a) ≡ Ok (length t) =
    rw (s.known, s.counts, long, le-leb (length t) (length a) l, records) (unfold first_of unless passes in refl) in
    rw (done, back) (unfold passes in refl)

-- ---- as the functions leave their buffers, number and count being those of the answer
pub write_inverse : (version : ℕ) (rs ds table : List ℕ) → AllBytes ds
    → WrittenDescribes rs ds (number_of (write version rs ds table).verdict) (count_of (write version rs ds table).verdict)
    (write version rs ds table).table
unfolding write
write_inverse version rs ds table bytes z =
    let e = number_passes (write_verdict version rs ds (length table)) z in
    let count : count_of (write_verdict version rs ds (length table)) ≡ written_size version rs ds =
    ap count_of (written_done version rs ds (length table) e) in
    rw (e, count, take_put table (table_bytes version rs ds) (written_size version rs ds) (written_long version rs ds (length table) e))
    (written_describes version rs ds (length table) bytes e)

pub describe_inverse : (t rs ds : List ℕ) → AllBytes t
    → DescribedMakes t (number_of (describe t rs ds).verdict) (describe t rs ds).resources (describe t rs ds).devices
unfolding describe describe_verdict
describe_inverse t rs ds bytes z =
    let e = number_passes (describe_verdict t (length rs) (length ds)) z in
    let passed = (first_both _ _ _ e).0 in
    let a = accepted t passed in
    rw (
      e,
      take_put rs (resources_of t) (4 * count_r t) (resources_long t bytes a),
      take_put ds (devices_of t) (described_size * count_d t) (described_long t bytes a),
    )
    (described_makes t bytes passed)

-- ---- the writer's answer is the reader's
pub write_answers : (version : ℕ) (rs ds : List ℕ) (room : ℕ)
    → AnswersAsReader version rs ds room (number_of (write_verdict version rs ds room)) (place_of (write_verdict version rs ds room))
unfolding write_verdict records_verdict
write_answers version rs ds room s l =
    let v = records_verdict rs ds in
    let done = Ok (written_size version rs ds) in
    let past : write_verdict version rs ds room ≡ first_of (v ∷ []) done =
    rw (s.known, s.counts, le-leb (written_size version rs ds) room l) (unfold first_of unless passes in refl) in
    let same = same_verdict version rs ds s in
    decide (passes v)
    (λ e.
    let fine : v ≡ Ok 0 = first_through _ (Ok 0) e in
    let is : write_verdict version rs ds room ≡ done = past ∙ first_pass v [] done e ∙ first_none done in
    rw (is, ← same, fine) (refl, refl))
    (λ e. let is : write_verdict version rs ds room ≡ v = past ∙ first_stop v [] done e in rw (is, ← same) (refl, refl))
