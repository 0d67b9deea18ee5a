-- Write and describe as wholes: each way out, and what the code asks of its parts once the checks have passed.
-- v is the answer of the checks, b whether it passes.
use mathlib.Core.Path.{◌≡◌, refl, sym, ap, ◌∙◌}
use mathlib.Core.Bool.{true, false, not, ◌&&◌}
use mathlib.Core.List.{List, [], ◌∷◌, ◌++◌}
use Prim.Native.Nat.{ℕ, ◌+◌, ◌*◌, ◌-◌, ◌≤◌, ◌<◌}
use native.Mathlib.Nat.{add-sub_cancel_left}
use native.Mathlib.Omega.{arith}
use borrow.Author.Tests.{leb-true, not-true, not-false}
use lib.Dec.{leb}
use lib.ListN.{length, take, drop, length-append}
use Rattle.words.specs.Words.{bytes_le, put}
use Rattle.words.proofs.Put.{length_put, put_then}
use Rattle.rules.specs.Verdict.{Verdict}
use Rattle.std.specs.Prelude.{Ok, Err, IsErrAnd}
use Rattle.rules.specs.declared.Refusal.{Refusal}
use Rattle.rules.specs.Verdict.{refuse}
use Rattle.rules.specs.declared.Reason.TheVariants.{NoRoom}
use Rattle.rules.specs.Index.{join}
use Rattle.rules.specs.Answers.{passes, first_of, unless}
use Rattle.rules.specs.Station.{version_width, Wide, record_size, count_r, count_d}
use Rattle.rules.specs.Table.{table_verdict}
use Rattle.rules.specs.Describe.{described_size, described_r, described_d, resources_of, devices_of, header_bytes, table_bytes}
use Rattle.rules.specs.Write.{described_counts_good, written_size, write_verdict, write, lists_size, describe_verdict, describe}
use Rattle.rules.proofs.Answers.{answer_passed, answer_stopped, ok_passed, err_stopped, handed_on}
use Rattle.rules.proofs.Answers.{done_passes, refused_stops, first_pass, first_stop, first_none}
use Rattle.rules.proofs.Width.{version_wide}
use Rattle.laws.specs.Inverse.{Representable}
use Rattle.laws.proofs.Tests.{both_true}
use Rattle.laws.proofs.Inverse.{written_representable, written_room}
use Rattle.table.specs.Layout.{WellSized}
use Rattle.table.proofs.Verdicts.{unless_passed, unless_refused, sized_passed}
use Rattle.writer.proofs.Lists.{written}

-- ---- write
module _ (version : ℕ) (rs ds table : List ℕ) (v : Verdict) (e : v ≡ write_verdict version rs ds (length table)) where
  pub write_refused : passes v ≡ false → (v ≡ (write version rs ds table).verdict) × (table ≡ (write version rs ds table).table)
  unfolding write
  write_refused p = let stops : passes (write_verdict version rs ds (length table)) ≡ false = answer_stopped v _ e p in
      (e, rw stops refl)

  module _ (p : passes v ≡ true) where
    passing : passes (write_verdict version rs ds (length table)) ≡ true
    passing = answer_passed v _ e p

    said : Representable version rs ds
    said = written_representable version rs ds (length table) passing

    room : written_size version rs ds ≤ length table
    room = written_room version rs ds (length table) passing

    counts : (described_r rs ≤ 8 * version_width version) × (described_d ds ≤ 8 * version_width version)
    unfolding described_counts_good
    counts = let h = both_true _ _ said.counts in (leb-true _ _ h.0, leb-true _ _ h.1)

    -- the header's two counts are bytes, and it has room
    pub header_asks : (r d : ℕ) → r ≡ described_r rs → d ≡ described_d ds → (r < 256) × (d < 256) × (8 ≤ length table)
    header_asks r d y z =
        let h = (version_wide version).high in
        (omega (arith, counts.0), omega (arith, counts.1), omega (arith, room))

    module _ (r d w : ℕ) (y : r ≡ described_r rs) (z : d ≡ described_d ds) (x : w ≡ version_width version) (a : List ℕ)
        (o : a ≡ put table 0 (header_bytes version r d)) where
      abbrev head : List ℕ
      head = header_bytes version (described_r rs) (described_d ds)

      head_long : length head ≡ 8
      unfolding header_bytes bytes_le
      head_long = refl

      -- the resources follow the header, all of them whole
      same_long : length a ≡ length table
      same_long = ap length (rw (y, z) at o) ∙ length_put table 0 head (omega (arith, room, head_long))

      pub resources_ask : 8 + length rs ≤ length a
      resources_ask = omega (arith, room, said.resources, same_long)

      pub devices_ask : (c : List ℕ) → c ≡ put a 8 rs → Wide w
          → Wide w × (length ds ≡ described_size * described_d ds) × (8 + 4 * r + record_size w * described_d ds ≤ length c)
      devices_ask c q h =
          let long : length c ≡ length table = ap length q ∙ length_put a 8 rs resources_ask ∙ same_long in
          (h, said.devices, rw (x, long) (omega (arith, room)))

      pub write_done : (c l : List ℕ) → c ≡ put a 8 rs → l ≡ put c (8 + 4 * r) (join (written w ds) (described_d ds))
          → (v ≡ (write version rs ds table).verdict) × (l ≡ (write version rs ds table).table)
      unfolding write table_bytes
      write_done c l q s =
          let records = join (written (version_width version) ds) (described_d ds) in
          let n = length-append head rs in
          let whole = said.resources in
          let p1 : c ≡ put table 0 (head ++ rs) =
          put_then table c 0 8 head rs (omega (arith, room, head_long)) (omega (arith, head_long)) (rw (o, y, z) at q) in
          let p2 : l ≡ put table 0 (head ++ rs ++ records) =
          put_then table l 0 (8 + 4 * r) (head ++ rs) records (omega (arith, room, n, whole, head_long))
          (omega (arith, n, whole, head_long)) (rw (p1, x) at s) in
          (e, p2 ∙ rw passing refl)

-- ---- write, by the arm that the answer of the checks was matched by
module _ (version : ℕ) (rs ds table : List ℕ) (v : Verdict) (e : v ≡ write_verdict version rs ds (length table)) where
  module _ (r : Refusal) (a : v ≡ Err r) where
    stopped : (Err r ≡ (write version rs ds table).verdict) × (table ≡ (write version rs ds table).table)
    stopped = let p = write_refused version rs ds table v e (err_stopped v r a) in (sym a ∙ p.0, p.1)

    pub write_err : Err r ≡ (write version rs ds table).verdict
    write_err = stopped.0

    pub write_err_table : table ≡ (write version rs ds table).table
    write_err_table = stopped.1

    pub write_handed : (u : Verdict) → IsErrAnd u (λ y. y ≡ r) → u ≡ (write version rs ds table).verdict
    write_handed u g = handed_on v u r a g ∙ a ∙ stopped.0

  module _ (n : ℕ) (a : v ≡ Ok n) (r d : ℕ) (y : r ≡ described_r rs) (z : d ≡ described_d ds) where
    pub header_fits : (r < 256) × (d < 256) × (8 ≤ length table)
    header_fits = header_asks version rs ds table v e (ok_passed v n a) r d y z

    module _ (w : ℕ) (x : w ≡ version_width version) (h : List ℕ) (o : h ≡ put table 0 (header_bytes version r d)) where
      pub resources_fit : 8 + length rs ≤ length h
      resources_fit = resources_ask version rs ds table v e (ok_passed v n a) r d w y z x h o

      pub write_whole : (c l : List ℕ) → c ≡ put h 8 rs → l ≡ put c (8 + 4 * r) (join (written w ds) (described_d ds))
          → (Ok n ≡ (write version rs ds table).verdict) × (l ≡ (write version rs ds table).table)
      write_whole c l q s =
          let p = write_done version rs ds table v e (ok_passed v n a) r d w y z x h o c l q s in
          (sym a ∙ p.0, p.1)

pub ruleset write_stops = (write_err, write_err_table, write_handed)

pub ruleset write_arms = (header_fits, resources_fit, write_whole)

-- ---- describe, v being the check of the table
module _ (t rs ds : List ℕ) (v : Verdict) (e : v ≡ table_verdict t) where
  pub describe_refused : passes v ≡ false
      → (v ≡ (describe t rs ds).verdict) × (rs ≡ (describe t rs ds).resources) × (ds ≡ (describe t rs ds).devices)
  unfolding describe describe_verdict
  describe_refused p =
      let stops : passes (table_verdict t) ≡ false = answer_stopped v _ e p in
      let is : describe_verdict t (length rs) (length ds) ≡ table_verdict t = first_stop (table_verdict t) _ _ stops in
      (e ∙ sym is, rw (is, stops) refl, rw (is, stops) refl)

  module _ (p : passes v ≡ true) where
    pub sized : WellSized t
    sized = sized_passed t v e p

    module _ (r d : ℕ) (y : r ≡ count_r t) (z : d ≡ count_d t) where
      past_table : first_of (unless (leb (4 * count_r t) (length rs) && leb (described_size * count_d t) (length ds)) NoRoom 0 ∷ [])
          (Ok (lists_size t)) ≡ describe_verdict t (length rs) (length ds)
      unfolding describe_verdict
      past_table = sym (first_pass (table_verdict t) _ _ (answer_passed v _ e p))

      pub describe_short : not (leb (4 * r) (length rs) && leb (54 * d) (length ds)) ≡ true
          → (refuse NoRoom 0 ≡ (describe t rs ds).verdict) × (rs ≡ (describe t rs ds).resources) × (ds ≡ (describe t rs ds).devices)
      unfolding describe
      describe_short q =
          let is : refuse NoRoom 0 ≡ describe_verdict t (length rs) (length ds) =
          unless_refused [] (Ok (lists_size t)) (leb (4 * count_r t) (length rs) && leb (described_size * count_d t) (length ds)) NoRoom 0
          (rw (y, z) at (not-true (leb (4 * r) (length rs) && leb (54 * d) (length ds)) q)) ∙ past_table in
          let stops : passes (describe_verdict t (length rs) (length ds)) ≡ false = ap passes (sym is) ∙ refused_stops NoRoom 0 in
          (is, rw stops refl, rw stops refl)

      -- the part of the table that its resources take
      pub part_inside : 8 + 4 * r ≤ length t
      part_inside = rw y sized.records

      module _ (q : not (leb (4 * r) (length rs) && leb (54 * d) (length ds)) ≡ false) where
        rooms : (4 * r ≤ length rs) × (54 * d ≤ length ds)
        rooms = let h = both_true _ _ (not-false _ q) in (leb-true _ _ h.0, leb-true _ _ h.1)

        pub devices_have_room : (n : ℕ) → n ≡ length ds → WellSized t × (described_size * count_d t ≤ n)
        devices_have_room n u = (sized, rw (← z, u) rooms.1)

        pub describe_done : (a l : List ℕ) → a ≡ put rs 0 (take (8 + 4 * r - 8) (drop 8 t)) → l ≡ put ds 0 (devices_of t)
            → (Ok (4 * r + 54 * d) ≡ (describe t rs ds).verdict) × (a ≡ (describe t rs ds).resources) × (l ≡ (describe t rs ds).devices)
        unfolding describe resources_of
        describe_done a l o u =
            let is : Ok (4 * r + 54 * d) ≡ describe_verdict t (length rs) (length ds) =
            rw (y, z) (sym (unless_passed [] (Ok (lists_size t))
            (leb (4 * count_r t) (length rs) && leb (described_size * count_d t) (length ds))
            NoRoom 0 (rw (y, z) at (not-false (leb (4 * r) (length rs) && leb (54 * d) (length ds)) q))
            ∙ first_none (Ok (lists_size t)))) ∙ past_table in
            let done : passes (describe_verdict t (length rs) (length ds)) ≡ true = ap passes (sym is) ∙ done_passes (4 * r + 54 * d) in
            (is, o ∙ rw (done, add-sub_cancel_left, y) refl, u ∙ rw done refl)
