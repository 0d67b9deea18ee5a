-- What the writer has made of two lists: the bytes of the table that they make, which is good, and says the same station whatever the
-- version.
use mathlib.Core.Path.{◌≡◌, refl, sym, ap, ◌∙◌}
use mathlib.Core.Bool.{true}
use mathlib.Core.List.{List}
use Prim.Native.Nat.{ℕ, ◌+◌, ◌*◌, ◌≤◌, ◌<◌}
use native.Mathlib.Omega.{arith}
use borrow.Author.Tests.{leb-true, le-leb}
use lib.Dec.{leb}
use lib.ListN.{length}
use Rattle.words.specs.Words.{put}
use Rattle.words.proofs.Put.{put_all}
use Rattle.std.specs.Prelude.{Ok}
use Rattle.rules.specs.Answers.{count_of, passes, first_of, unless}
use Rattle.rules.specs.Index.{below}
use Rattle.rules.specs.Station.{Station, version_good, version_width, width, resource_start, device_start, resource_at, device_at, no_resource, no_device}
use Rattle.rules.specs.Station.{station_of, station}
use Rattle.rules.specs.Table.{table_verdict}
use Rattle.rules.specs.Describe.{described_r, described_d, described_device, table_bytes}
use Rattle.rules.specs.Write.{records_verdict, written_size, described_counts_good, write_verdict, Written, write}
use Rattle.rules.proofs.Answers.{first_through, done_passes}
use Rattle.laws.specs.Inverse.{Makes, Representable}
use Rattle.laws.proofs.Tests.{both_true, and-true}
use Rattle.laws.proofs.Same.{read_same, below_same}
use Rattle.laws.proofs.Write.{count_r_lem, count_d_lem, resource_byte, width_there, device_there}
use Rattle.laws.proofs.Inverse.{records_pass, written_representable, written_good, written_done, written_long}

-- the station that two lists describe, of no version
unfoldable pub described_station : List ℕ → List ℕ → Station
described_station rs ds =
    record {
      resources = described_r rs;
      devices = described_d ds;
      resource = below (described_r rs) no_resource (λ r. resource_at rs (4 * r));
      device = below (described_d ds) no_device (described_device ds);
    }

-- ---- the table of a version that lists make which it can say
module _ (version : ℕ) (rs ds : List ℕ) (s : Representable version rs ds) where
  abbrev t : List ℕ
  t = table_bytes version rs ds

  abbrev w : ℕ
  w = version_width version

  -- its resources are the described ones
  resource_there : (r : ℕ) → r < described_r rs → resource_at t (resource_start r) ≡ resource_at rs (4 * r)
  unfolding resource_at
  resource_there r u =
      let l = s.resources in
      let level = resource_byte version rs ds (4 * r) (omega arith) in
      let order = read_same 2 t rs (8 + 4 * r + 2) (4 * r + 2)
      (λ i h. let e : 8 + 4 * r + 2 + i ≡ 8 + (4 * r + 2 + i) = omega arith in
      rw e (resource_byte version rs ds (4 * r + 2 + i) (omega arith))) in
      rw (level, order) refl

  -- and so is its station
  station_there : station t ≡ described_station rs ds
  unfolding station_of described_station
  station_there =
      let resources = below_same (described_r rs) no_resource (λ r. resource_at t (resource_start r)) (λ r. resource_at rs (4 * r))
      resource_there in
      let devices = below_same (described_d ds) no_device (λ d. device_at w t (device_start w t d)) (described_device ds)
      (device_there version rs ds s) in
      rw (width_there version rs ds s, count_r_lem version rs ds, count_d_lem version rs ds, resources, devices) refl

-- ---- what was made
module _ (version : ℕ) (rs ds t : List ℕ) (m : Makes version rs ds t) where
  -- into the table itself it would be written as it is
  again : write version rs ds t ≡ record { verdict = Ok (length t); table = put t 0 t }
  again = m t (omega arith)

  -- so the writer refuses nothing
  done : write_verdict version rs ds (length t) ≡ Ok (length t)
  unfolding write
  done = ap (λ (r : Written). r.verdict) again

  passed : passes (write_verdict version rs ds (length t)) ≡ true
  passed = ap passes done ∙ done_passes (length t)

  -- it is the table of the two lists
  pub made_is : t ≡ table_bytes version rs ds
  unfolding write
  made_is =
      let long : length (table_bytes version rs ds) ≡ length t =
      written_long version rs ds (length t) passed ∙ ap count_of (sym (written_done version rs ds (length t) passed) ∙ done) in
      let same : put t 0 (table_bytes version rs ds) ≡ put t 0 t = rw passed at (ap (λ (r : Written). r.table) again) in
      sym (put_all t t refl) ∙ sym same ∙ put_all t (table_bytes version rs ds) long

  -- which it can say
  can : Representable version rs ds
  can = written_representable version rs ds (length t) passed

  -- it is good
  pub made_good : table_verdict t ≡ Ok 0
  made_good = rw made_is (written_good version rs ds (length t) passed)

  -- its width is that of the version
  pub made_width : width t ≡ version_width version
  made_width = rw made_is (width_there version rs ds can)

  -- and it says the described station
  pub made_station : station t ≡ described_station rs ds
  made_station = rw made_is (station_there version rs ds can)

-- ---- what version 1 holds, version 2 can hold too: so there are two such tables of each description that fits in version 1
module _ (rs ds t : List ℕ) (m : Makes 1 rs ds t) where
  -- the counts fit
  counts_2 : described_counts_good 2 rs ds ≡ true
  unfolding described_counts_good version_width
  counts_2 =
      let c = both_true (leb (described_r rs) 32) (leb (described_d ds) 32) (can 1 rs ds t m).counts in
      let r = leb-true (described_r rs) 32 c.0 in
      let d = leb-true (described_d ds) 32 c.1 in
      and-true (leb (described_r rs) 64) (leb (described_d ds) 64) (le-leb (described_r rs) 64 (omega arith)) (le-leb (described_d ds) 64 (omega arith))

  -- with room the writer is done
  done_2 : (room : ℕ) → written_size 2 rs ds ≤ room → write_verdict 2 rs ds room ≡ Ok (written_size 2 rs ds)
  unfolding write_verdict records_verdict version_good
  done_2 room l =
      let records : records_verdict rs ds ≡ Ok 0 = first_through _ (Ok 0) (records_pass 1 rs ds (length t) (passed 1 rs ds t m)) in
      rw (counts_2, le-leb (written_size 2 rs ds) room l, records) (unfold first_of unless passes in refl)

  pub made_2 : Makes 2 rs ds (table_bytes 2 rs ds)
  unfolding write
  made_2 a l =
      let size = written_size 2 rs ds in
      let long : length (table_bytes 2 rs ds) ≡ size = written_long 2 rs ds size (ap passes (done_2 size (omega arith)) ∙ done_passes size) in
      rw (done_2 (length a) (omega (arith, long)), long) (unfold passes in refl)
