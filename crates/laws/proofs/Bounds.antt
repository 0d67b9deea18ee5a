-- How large an answer can be: its place is below 8w, for it is a resource or a device, and the checks themselves count nothing, so that a
-- count is at most what a done answer counts.
use mathlib.Core.Path.{◌≡◌, refl, sym, ◌∙◌}
use mathlib.Core.Bool.{Bool, true, false, true≢false}
use mathlib.Core.List.{List, [], ◌∷◌}
use mathlib.Core.Logic.{⊎_elim}
use Prim.Native.Nat.{ℕ, ◌+◌, ◌*◌, ◌≤◌, ◌<◌}
use native.Mathlib.Nat.{mul-le-mul_left}
use native.Mathlib.Omega.{arith}
use borrow.Author.Tests.{ltb-true, ltb-false, leb-true}
use lib.Dec.{ltb}
use lib.ListN.{length}
use Rattle.sets.proofs.Laws.{decide}
use Rattle.rules.specs.declared.Entry.{Entry}
use Rattle.rules.specs.declared.Request.{Request}
use Rattle.rules.specs.Verdict.{Verdict}
use Rattle.std.specs.Prelude.{Ok}
use Rattle.rules.specs.Verdict.{refuse}
use Rattle.rules.specs.declared.Reason.{Reason}
use Rattle.rules.specs.declared.Reason.TheVariants.{BadResource, ParentDeeper, ChildShallower}
use Rattle.rules.specs.Index.{least}
use Rattle.rules.specs.Answers.{place_of, count_of, passes, first_of, unless, lowest}
use Rattle.rules.specs.Station.{Station, version_width, width, limit, record_size, table_size, count_r, count_d, station_of, station}
use Rattle.rules.specs.Table.{counts_good, parent_good, fields_good, fields_or_objects, table_verdict}
use Rattle.rules.specs.Describe.{described_size, described_r, described_d}
use Rattle.rules.specs.Write.{described_fields_good, records_verdict, described_counts_good, write_verdict, describe_verdict}
use Rattle.rules.specs.Status.{status, parent_allows, values_verdict, consistency_verdict, state_verdict}
use Rattle.rules.specs.Request.{is_move, is_arm, move_verdict, arm_verdict, kind_verdict, request_verdict}
use Rattle.rules.specs.Sleep.{armed_verdict, sleep_verdict}
use Rattle.rules.specs.Outcomes.{ready_verdict, request_stage, fresh_verdict, stages_verdict, sleep_stage, sleep_stages, plan_verdict, list_verdict}
use Rattle.rules.specs.BringUp.{but_power_verdict, state_but_power_verdict, bring_up_stages}
use Rattle.rules.proofs.Width.{version_wide, width_wide}
use Rattle.rules.proofs.Answers.{first_pass, first_stop, first_none, unless_of, unless_stop, unless_at, lowest_stop, lowest_none}
use Rattle.laws.proofs.Tests.{both_true, or_cases, or_left}
use Rattle.laws.proofs.Accepted.{Accepted, accepted}
use Rattle.laws.proofs.Kept.{StationRules}
use Rattle.laws.proofs.States.{station_rules, form_device}
use Rattle.laws.proofs.Stages.{ready_at}

-- ---- what holds of each answer that a chain of checks can come to holds of the chain
module _ (P : Verdict → Type 0) where
  pub chain_holds : (v : Verdict) (vs : List Verdict) (last : Verdict) → P v → (passes v ≡ true → P (first_of vs last))
      → P (first_of (v ∷ vs) last)
  chain_holds v vs last p rest = decide (passes v) (λ e. rw (first_pass v vs last e) (rest e)) (λ e. rw (first_stop v vs last e) p)

  pub last_holds : (last : Verdict) → P last → P (first_of [] last)
  last_holds last p = rw (first_none last) p

  pub unless_holds : (good : Bool) (why : Reason) (at : ℕ) → P (Ok 0) → (good ≡ false → P (refuse why at)) → P (unless good why at)
  unless_holds good why at p r = decide good (λ e. rw (unless_of good why at e) p) (λ e. rw (unless_stop good why at e) (r e))

  pub lowest_holds : (bad : ℕ → Bool) (n : ℕ) (refusal : ℕ → Verdict) → P (Ok 0) → ((i : ℕ) → i < n → P (refusal i))
      → P (lowest bad n refusal)
  lowest_holds bad n refusal p r =
      decide (ltb (least bad n) n)
      (λ e. let h = ltb-true (least bad n) n e in rw (lowest_stop bad n (least bad n) refusal refl h) (r (least bad n) h))
      (λ e. rw (lowest_none bad n (least bad n) refusal refl (ltb-false (least bad n) n e)) p)

-- ---- the bound
pub record Bounded (w most : ℕ) (v : Verdict) : Type 0 where
  pub place : place_of v < limit w
  pub count : count_of v ≤ most

module _ (w most : ℕ) (h : 4 ≤ w) where
  done : Bounded w most (Ok 0)
  done = record { place = omega arith; count = omega arith }

  refused : (why : Reason) (n i : ℕ) → n ≤ limit w → i < n → Bounded w most (refuse why i)
  refused why n i l u = record { place = omega arith; count = omega arith }

  -- a check whose refusal has no place, and the checks after it
  next : (good : Bool) (why : Reason) (vs : List Verdict) (last : Verdict) → (passes (unless good why 0) ≡ true
      → Bounded w most (first_of vs last))
      → Bounded w most (first_of (unless good why 0 ∷ vs) last)
  next good why vs last rest =
      chain_holds (Bounded w most) (unless good why 0) vs last (unless_holds (Bounded w most) good why 0 done
      (λ _. refused why 1 0 (omega arith) (omega arith))) rest

  -- 4 to 6: a resource or a device, of which there are at most 8w
  records : (bad worse fields : ℕ → Bool) (resources devices : ℕ) → resources ≤ limit w → devices ≤ limit w
      → Bounded w most (first_of (lowest bad resources (refuse BadResource) ∷ lowest worse devices (λ d. fields_or_objects (fields d) d) ∷ [])
      (Ok 0))
  unfolding fields_or_objects
  records bad worse fields resources devices many more =
      chain_holds (Bounded w most) _ _ _ (lowest_holds (Bounded w most) bad resources (refuse BadResource) done
      (λ i u. refused BadResource resources i many u))
      (λ _. chain_holds (Bounded w most) _ _ _ (lowest_holds (Bounded w most) worse devices (λ d. fields_or_objects (fields d) d) done
      (λ i u. refused _ devices i more u))
      (λ _. last_holds (Bounded w most) (Ok 0) done))

  module _ (s : Station) (nameable : s.devices ≤ limit w) (rules : StationRules s) (entries : ℕ → Entry) where
    -- 13: a parent that bars the move is there, so it is lower than its child
    parent_bounded : (d x : ℕ) → d < s.devices → parent_allows s entries d x ≡ false
        → Bounded w most (refuse ParentDeeper (s.device d).parent)
    unfolding parent_allows parent_good
    parent_bounded d x u e =
        ⊎_elim
        (λ (a : ltb (s.device d).parent d ≡ true). refused _ s.devices (s.device d).parent nameable
        (omega (arith, ltb-true (s.device d).parent d a)))
        (λ a. absurd (true≢false (sym (or_left _ _ a) ∙ e)))
        (or_cases _ _ (rules.parents d u))

    move_bounded : (d x : ℕ) → d < s.devices → Bounded w most (move_verdict s entries d x)
    unfolding move_verdict
    move_bounded d x u =
        next _ _ _ _
        (λ _. next _ _ _ _
        (λ _. chain_holds (Bounded w most) _ _ _
        (unless_holds (Bounded w most) _ ParentDeeper (s.device d).parent done (parent_bounded d x u))
        (λ _. chain_holds (Bounded w most) _ _ _ (lowest_holds (Bounded w most) _ s.devices (refuse ChildShallower) done
        (λ i v. refused ChildShallower s.devices i nameable v))
        (λ _. next _ _ _ _ (λ _. last_holds (Bounded w most) (Ok 0) done)))))

    arm_bounded : (d x y : ℕ) → Bounded w most (arm_verdict s entries d x y)
    unfolding arm_verdict
    arm_bounded d x y = next _ _ _ _ (λ _. next _ _ _ _ (λ _. next _ _ _ _ (λ _. last_holds (Bounded w most) (Ok 0) done)))

    -- 10 to 18
    pub request_bounded : (q : Request) → Bounded w most (request_verdict s entries q)
    unfolding request_verdict kind_verdict
    request_bounded q =
        next _ _ _ _
        (λ e.
        let u = form_device s q (unless_at _ _ _ e) in
        chain_holds (Bounded w most) _ _ _
        (decide (is_move q) (λ m. rw m (move_bounded q.device q.a u))
        (λ m. decide (is_arm q) (λ a. rw (m, a) (arm_bounded q.device q.a q.b)) (λ a. rw (m, a) done)))
        (λ _. last_holds (Bounded w most) (Ok 0) done))

-- ---- a table's answers, at its own width
module _ (t : List ℕ) (most : ℕ) where
  low : 4 ≤ width t
  low = (width_wide t).low

  -- 1 to 6
  pub table_bounded : Bounded (width t) most (table_verdict t)
  unfolding table_verdict counts_good
  table_bounded =
      next _ _ low _ _ _ _
      (λ _. next _ _ low _ _ _ _
      (λ e.
      let counts = both_true _ _ (unless_at _ _ _ e) in
      next _ _ low _ _ _ _
      (λ _. records _ _ low _ _ (fields_good t) (count_r t) (count_d t) (leb-true _ _ counts.0) (leb-true _ _ counts.1))))

  -- no check is left
  end : Bounded (width t) most (first_of [] (Ok 0))
  end = last_holds (Bounded (width t) most) (Ok 0) (done _ _ low)

  -- any checks, then one whose refusal has no place
  more_bounded : (v : Verdict) (good : Bool) (why : Reason) → Bounded (width t) most v
      → Bounded (width t) most (first_of (v ∷ unless good why 0 ∷ []) (Ok 0))
  more_bounded v good why bound = chain_holds (Bounded (width t) most) _ _ _ bound (λ _. next _ _ low _ _ _ _ (λ _. end))

  -- such a check, then the lowest device that a test finds
  lowest_bounded : (station t).devices ≤ limit (width t) → (good : Bool) (why : Reason) (bad : ℕ → Bool) (worse : Reason)
      → Bounded (width t) most (first_of (unless good why 0 ∷ lowest bad (station t).devices (refuse worse) ∷ []) (Ok 0))
  lowest_bounded nameable good why bad worse =
      next _ _ low _ _ _ _
      (λ _. chain_holds (Bounded (width t) most) _ _ _
      (lowest_holds (Bounded (width t) most) bad (station t).devices (refuse worse) (done _ _ low)
      (λ i u. refused _ _ low worse (station t).devices i nameable u))
      (λ _. end))

  pub fresh_bounded : (b : List ℕ) → Bounded (width t) most (fresh_verdict t b)
  unfolding fresh_verdict
  fresh_bounded b = more_bounded (table_verdict t) _ _ table_bounded

  -- 7 and 8
  state_bounded : (b : List ℕ) → (station t).devices ≤ limit (width t) → Bounded (width t) most (state_verdict t b)
  unfolding state_verdict values_verdict consistency_verdict
  state_bounded b nameable = lowest_bounded nameable _ _ _ _

  -- 1 to 9
  ready_bounded : (b : List ℕ) (room : Bool) → Bounded (width t) most (ready_verdict room t b)
  unfolding ready_verdict
  ready_bounded b room =
      chain_holds (Bounded (width t) most) _ _ _ table_bounded
      (λ e. more_bounded _ _ _ (state_bounded b (unfold station_of in (accepted t e).devices)))

  -- 1 to 9, then a stage of an accepted table
  staged_bounded : (b : List ℕ) (room : Bool) (stage : Verdict) → (Accepted t → Bounded (width t) most stage)
      → Bounded (width t) most (first_of (ready_verdict room t b ∷ stage ∷ []) (Ok 0))
  staged_bounded b room stage bound =
      chain_holds (Bounded (width t) most) _ _ _ (ready_bounded b room)
      (λ e. chain_holds (Bounded (width t) most) _ _ _ (bound (accepted t (ready_at room t b e).table)) (λ _. end))

  -- 1 to 9, then 10 to 18
  pub stages_bounded : (b : List ℕ) (q : Request) (room : Bool) → Bounded (width t) most (stages_verdict room t b q)
  unfolding stages_verdict request_stage
  stages_bounded b q room =
      staged_bounded b room _
      (λ a. request_bounded _ _ low (station t) (unfold station_of in a.devices) (station_rules t a) (status t b).entries q)

  -- 1 to 9, then 10, 20 and 21 of sleep entry
  pub sleep_bounded : (b : List ℕ) (q : Request) (room : Bool) → Bounded (width t) most (sleep_stages room t b q)
  unfolding sleep_stages sleep_stage sleep_verdict armed_verdict
  sleep_bounded b q room =
      staged_bounded b room _ (λ a. more_bounded _ _ _ (lowest_bounded (unfold station_of in a.devices) _ _ _ _))

  -- 1 to 9 of bring-up
  pub bring_up_bounded : (b : List ℕ) (room : Bool) → Bounded (width t) most (bring_up_stages room t b)
  unfolding bring_up_stages state_but_power_verdict values_verdict but_power_verdict
  bring_up_bounded b room =
      chain_holds (Bounded (width t) most) _ _ _ table_bounded
      (λ e. more_bounded _ _ _ (lowest_bounded (unfold station_of in (accepted t e).devices) _ _ _ _))

  -- a plan, and a list, of any checks
  module _ (checks : Verdict) (bound : Bounded (width t) most checks) where
    pub plan_bounded : (words : List ℕ) → (passes checks ≡ true → length words ≤ most) → Bounded (width t) most (plan_verdict checks words)
    unfolding plan_verdict
    plan_bounded words short =
        chain_holds (Bounded (width t) most) _ _ _ bound
        (λ e. last_holds (Bounded (width t) most) _ (record { place = omega (arith, low); count = short e }))

    pub list_bounded : (conforms : Bool) → Bounded (width t) most (list_verdict checks conforms)
    unfolding list_verdict
    list_bounded conforms = more_bounded checks conforms _ bound

-- ---- 11: the bytes of the largest table of a width, and of the lists that it describes
abbrev pub most_written : ℕ → ℕ
most_written w = table_size w (limit w) (limit w)

abbrev pub most_described : ℕ → ℕ
most_described w = 4 * limit w + described_size * limit w

pub write_bounded : (version : ℕ) (rs ds : List ℕ) (room : ℕ)
    → Bounded (version_width version) (most_written (version_width version)) (write_verdict version rs ds room)
unfolding write_verdict described_counts_good records_verdict
write_bounded version rs ds room =
    let w = version_width version in
    let wide = (version_wide version).low in
    next w _ wide _ _ _ _
    (λ _. next w _ wide _ _ _ _
    (λ e.
    let counts = both_true _ _ (unless_at _ _ _ e) in
    let many = leb-true (described_r rs) (limit w) counts.0 in
    let more = leb-true (described_d ds) (limit w) counts.1 in
    next w _ wide _ _ _ _
    (λ _. chain_holds (Bounded w (most_written w)) _ _ _
    (records w _ wide _ _ (described_fields_good (described_r rs) ds) (described_r rs) (described_d ds) many more)
    (λ _. last_holds (Bounded w (most_written w)) _
    (record { place = omega arith; count = omega (arith, mul-le-mul_left (record_size w) more) })))))

pub describe_bounded : (t : List ℕ) (roomR roomD : ℕ) → Bounded (width t) (most_described (width t)) (describe_verdict t roomR roomD)
unfolding describe_verdict
describe_bounded t roomR roomD =
    let w = width t in
    let wide = (width_wide t).low in
    chain_holds (Bounded w (most_described w)) _ _ _ (table_bounded t (most_described w))
    (λ e.
    let a = accepted t e in
    next w _ wide _ _ _ _ (λ _. last_holds (Bounded w (most_described w)) _ (record { place = omega arith; count = omega arith })))
