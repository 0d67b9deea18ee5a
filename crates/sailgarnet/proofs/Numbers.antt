-- An answer as one number: from its three parts, read back, and handed on.
use mathlib.Core.Path.{◌≡◌, refl}
use mathlib.Core.Bool.{true, false}
use mathlib.Core.List.{List}
use Prim.Native.Nat.{ℕ, ◌+◌, ◌*◌, ◌/◌, ◌%◌, ◌≤◌, ◌<◌}
use native.Mathlib.Nat.{mul-le-mul_right}
use native.Mathlib.Omega.{arith}
use lib.Dec.{leb}
use lib.ListN.{length}
use Rattle.sets.proofs.Laws.{decide}
use Rattle.rules.specs.declared.Request.{Request}
use Rattle.rules.specs.Verdict.{Verdict}
use Rattle.std.specs.Prelude.{Ok, Err}
use Rattle.rules.specs.declared.Reason.{Reason}
use Rattle.rules.specs.declared.Reason.TheVariants.{NotATable, TooMany, WrongLength, BadResource, BadDevice, BadObjects, BadState}
use Rattle.rules.specs.declared.Reason.TheVariants.{Inconsistent, NoRoom, BadRequest, Unsupported, Shallower, ParentDeeper}
use Rattle.rules.specs.declared.Reason.TheVariants.{ChildShallower, TooDeepToWake, NoWake, WakeUnpowered, BadWakeState, NotConforming}
use Rattle.rules.specs.declared.Reason.TheVariants.{ArmedForOther, NoChoice}
use Rattle.rules.specs.Answers.{reason_number, number_of, place_of, count_of, passes}
use Rattle.rules.specs.Station.{version_width, width, Wide, limit, record_size}
use Rattle.rules.specs.Sleep.{is_sleep}
use Rattle.rules.specs.Outcomes.{outcome, list_room, fresh, planned, sleep_list, plan_verdict, plan_outcome, plan_bytes, check_bytes}
use Rattle.rules.specs.BringUp.{bring_up_list, bring_up_bytes, check_bring_up_bytes}
use Rattle.rules.specs.Write.{write, describe}
use Rattle.rules.proofs.Width.{version_wide, width_wide}
use Rattle.laws.specs.Inverse.{AllBytes, WrittenDescribes, DescribedMakes, AnswersAsReader}
use Rattle.laws.specs.Demand2.{Demand2Bytes}
use Rattle.laws.proofs.Demand2.{demand2_bytes}
use Rattle.laws.specs.Sleep.{SleepEntryBytes}
use Rattle.laws.proofs.Plans.{bytes_request, bytes_sleep}
use Rattle.laws.proofs.SleepStages.{sleep_of}
use Rattle.laws.proofs.Sleep.{sleeps_bytes}
use Rattle.laws.specs.BringUp.{BringsUpBytes}
use Rattle.laws.proofs.BringUp.{brings_up_bytes}
use Rattle.laws.proofs.Stages.{stages_of, bring_up_of}
use Rattle.laws.proofs.Bounds.{Bounded, fresh_bounded, stages_bounded, sleep_bounded, bring_up_bounded, plan_bounded, list_bounded}
use Rattle.laws.proofs.Bounds.{most_written, most_described, write_bounded, describe_bounded}
use Rattle.laws.proofs.Inverse.{write_inverse, describe_inverse, write_answers}
use Rattle.switching.proofs.Short.{planned_short, up_short}
use Rattle.planner.proofs.Room.{product_4160}
use Rattle.planner.proofs.Choices.{sleep_short}
use Rattle.sailgarnet.specs.Packed.{number_in, count_in, place_in, packed, Reads}

reason_small : (why : Reason) → reason_number why < 0x100
reason_small NotATable = omega arith
reason_small TooMany = omega arith
reason_small WrongLength = omega arith
reason_small BadResource = omega arith
reason_small BadDevice = omega arith
reason_small BadObjects = omega arith
reason_small BadState = omega arith
reason_small Inconsistent = omega arith
reason_small NoRoom = omega arith
reason_small BadRequest = omega arith
reason_small Unsupported = omega arith
reason_small Shallower = omega arith
reason_small ParentDeeper = omega arith
reason_small ChildShallower = omega arith
reason_small TooDeepToWake = omega arith
reason_small NoWake = omega arith
reason_small WakeUnpowered = omega arith
reason_small BadWakeState = omega arith
reason_small NotConforming = omega arith
reason_small ArmedForOther = omega arith
reason_small NoChoice = omega arith

number_small : (v : Verdict) → number_of v < 0x100
number_small (Ok n) = omega arith
number_small (Err r) = reason_small r.0

reads : (n c p : ℕ) → n < 0x100 → c < 0x1_0000 → ((n + 0x100 * c + 0x100_0000 * p) % 0x100 ≡ n)
    × ((n + 0x100 * c + 0x100_0000 * p) / 0x100 % 0x1_0000 ≡ c) × ((n + 0x100 * c + 0x100_0000 * p) / 0x100_0000 ≡ p)
reads n c p h k = (omega arith, omega arith, omega arith)

pub packed_reads : (v : Verdict) → count_of v < 0x1_0000 → Reads (packed v) v
unfolding packed
packed_reads v h =
    let r = reads (number_of v) (count_of v) (place_of v) (number_small v) h in
    record { number = r.0; count = r.1; place = r.2 }

pub pack_is : (v : Verdict) (n c p : ℕ) → n ≡ number_of v → c ≡ count_of v → p ≡ place_of v → count_of v < 0x1_0000
    → (n + 0x100 * c + 0x100_0000 * p ≡ packed v) × Reads (n + 0x100 * c + 0x100_0000 * p) v
pack_is v n c p e f g h =
    let is : n + 0x100 * c + 0x100_0000 * p ≡ packed v = unfold packed in rw (e, f, g) refl in
    (is, rw is (packed_reads v h))

-- ---- what each of the functions for C hands on is small enough, and is its definition's
abbrev pub Small : Verdict → Type 0
Small v = (count_of v < 0x1_0000) × (place_of v < 0x100_0000_0000)

small : (w most : ℕ) (v : Verdict) → Wide w → most < 0x1_0000 → Bounded w most v → Small v
small w most v h m b = (omega (arith, b.count), omega (arith, b.place))

pub fits : (v w : Verdict) → v ≡ w → Small w → Small v
fits v w e s = rw e s

pub packs : (v w : Verdict) (r : ℕ) → v ≡ w → (r ≡ packed v) × Reads r v → (r ≡ packed w) × Reads r w
packs v w r e f = rw (← e) f

module _ (t : List ℕ) where
  pub fresh_fits : (b : List ℕ) → Small (fresh t b).verdict
  unfolding fresh outcome
  fresh_fits b = small (width t) 0 _ (width_wide t) (omega arith) (fresh_bounded t 0 b)

  -- a plan, with any stages, and a list
  plan_small : (most : ℕ) (stages : Verdict) (words : List ℕ) → most ≤ 4160 → Bounded (width t) most stages
      → (passes stages ≡ true → length words ≤ most) → Small (plan_verdict stages words)
  plan_small most stages words m h short =
      small (width t) most _ (width_wide t) (omega arith) (plan_bounded t most stages h words short)

  -- the room of one list, and of sleep entry
  list_most : list_room (width t) ≤ 4160
  list_most = omega (arith, (width_wide t).high)

  sleep_most : limit (width t) * list_room (width t) ≤ 4160
  sleep_most = product_4160 (limit (width t)) (list_room (width t)) (omega (arith, (width_wide t).high)) (omega (arith, (width_wide t).high))

  pub plan_fits : (b : List ℕ) (q : Request) (plan : List ℕ) → Small (plan_bytes t b q plan).verdict
  unfolding plan_outcome outcome
  plan_fits b q plan =
      let room = leb (4 * list_room (width t)) (length plan) in
      let sleep = leb (4 * (limit (width t) * list_room (width t))) (length plan) in
      decide (is_sleep q)
      (λ k. rw (bytes_sleep t b q plan k) (plan_small _ _ (sleep_list t b q.a) sleep_most (sleep_bounded t _ b q sleep)
      (λ e. sleep_short t b q (sleep_of sleep t b q e).0)))
      (λ k. rw (bytes_request t b q plan k) (plan_small _ _ (planned t b q) list_most (stages_bounded t _ b q room)
      (λ e. planned_short t b q (stages_of room t b q e))))

  pub check_fits : (b : List ℕ) (q : Request) (list : List ℕ) → Small (check_bytes t b q list)
  unfolding check_bytes
  check_fits b q list = small (width t) 0 _ (width_wide t) (omega arith) (list_bounded t 0 _ (stages_bounded t 0 b q true) _)

  pub bring_up_fits : (b plan : List ℕ) → Small (bring_up_bytes t b plan).verdict
  unfolding bring_up_bytes plan_outcome outcome
  bring_up_fits b plan =
      let room = leb (4 * list_room (width t)) (length plan) in
      plan_small _ _ (bring_up_list t b) list_most (bring_up_bounded t _ b room) (λ e. up_short t b (bring_up_of room t b e).0)

  pub check_bring_up_fits : (b list : List ℕ) → Small (check_bring_up_bytes t b list)
  unfolding check_bring_up_bytes
  check_bring_up_fits b list = small (width t) 0 _ (width_wide t) (omega arith) (list_bounded t 0 _ (bring_up_bounded t 0 b true) _)

  pub describe_fits : (rs ds : List ℕ) → Small (describe t rs ds).verdict
  unfolding describe
  describe_fits rs ds =
      let h = width_wide t in
      small (width t) (most_described (width t)) _ h (omega arith) (describe_bounded t (length rs) (length ds))

pub write_fits : (version : ℕ) (rs ds table : List ℕ) → Small (write version rs ds table).verdict
unfolding write
write_fits version rs ds table =
    let w = version_width version in
    let h = version_wide version in
    let n : record_size w * (8 * w) ≤ 64 * (8 * w) = mul-le-mul_right (8 * w) (omega arith) in
    small w (most_written w) _ h (omega (arith, n)) (write_bounded version rs ds (length table))

-- ---- what write and describe leave, with number and count as they are read from the packed answer
pub written_inverse : (version : ℕ) (rs ds table : List ℕ) (r : ℕ) (table' : List ℕ) → AllBytes ds
    → Reads r (write version rs ds table).verdict
    → table' ≡ (write version rs ds table).table → WrittenDescribes rs ds (number_in r) (count_in r) table'
written_inverse version rs ds table r table' bytes a e = rw (a.number, a.count, e) (write_inverse version rs ds table bytes)

pub answers_as_reader : (version : ℕ) (rs ds table : List ℕ) (r : ℕ) → Reads r (write version rs ds table).verdict
    → AnswersAsReader version rs ds (length table) (number_in r) (place_in r)
unfolding write
answers_as_reader version rs ds table r a = rw (a.number, a.place) (write_answers version rs ds (length table))

pub described_inverse : (t rs ds : List ℕ) (r : ℕ) (rs' ds' : List ℕ) → AllBytes t → Reads r (describe t rs ds).verdict
    → rs' ≡ (describe t rs ds).resources → ds' ≡ (describe t rs ds).devices → DescribedMakes t (number_in r) rs' ds'
described_inverse t rs ds r rs' ds' bytes a e f = rw (a.number, e, f) (describe_inverse t rs ds bytes)

-- ---- what the planner on bytes leaves keeps demand 2, or what sleep entry promises, with number and count as they are read from the
-- packed answer
module _ (t b : List ℕ) (q : Request) (plan : List ℕ) (r : ℕ) (b' plan' : List ℕ) (a : Reads r (plan_bytes t b q plan).verdict)
    (s : b' ≡ (plan_bytes t b q plan).state) (p : plan' ≡ (plan_bytes t b q plan).plan) where
  pub bytes_demand : is_sleep q ≡ false → Demand2Bytes t b q plan (number_in r) (count_in r) b' plan'
  bytes_demand k = rw (a.number, a.count, s, p) (demand2_bytes t b q plan k)

  pub bytes_sleeps : is_sleep q ≡ true → SleepEntryBytes t b q plan (number_in r) (count_in r) b' plan'
  bytes_sleeps k = rw (a.number, a.count, s, p) (sleeps_bytes t b q plan k)

-- and what bring-up leaves keeps what it promises
pub bytes_brings : (t b plan : List ℕ) (r : ℕ) (b' plan' : List ℕ) → Reads r (bring_up_bytes t b plan).verdict
    → b' ≡ (bring_up_bytes t b plan).state → plan' ≡ (bring_up_bytes t b plan).plan
    → BringsUpBytes t b plan (number_in r) (count_in r) b' plan'
bytes_brings t b plan r b' plan' a s p = rw (a.number, a.count, s, p) (brings_up_bytes t b plan)
