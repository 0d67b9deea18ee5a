-- The chain of checks of sleep entry: it passes exactly if its stages do, and its number is 21 exactly if all stages before pass and there
-- is no choice.
use mathlib.Core.Path.{◌≡◌, ap, ◌∙◌}
use mathlib.Core.Bool.{Bool, true, false, not}
use mathlib.Core.List.{List, [], ◌∷◌}
use Prim.Native.Nat.{ℕ, ◌<◌}
use native.Mathlib.Omega.{arith}
use Rattle.sets.proofs.Laws.{decide}
use Rattle.rules.specs.declared.Request.{Request}
use Rattle.rules.specs.Verdict.{Verdict}
use Rattle.std.specs.Prelude.{Ok}
use Rattle.rules.specs.Verdict.{refuse}
use Rattle.rules.specs.declared.Reason.{Reason}
use Rattle.rules.specs.declared.Reason.TheVariants.{BadResource, Inconsistent, ArmedForOther, NoChoice}
use Rattle.rules.specs.Answers.{reason_number, number_of, passes, first_of, unless, lowest}
use Rattle.rules.specs.Station.{count_r, count_d, resource_start, station}
use Rattle.rules.specs.Table.{resource_good, fields_good, fields_or_objects, device_refusal, device_good, table_verdict}
use Rattle.rules.specs.Status.{status, values_verdict, consistency_verdict, state_verdict}
use Rattle.rules.specs.Sleep.{sleep_form_good, armed_for_other, has_choice, armed_verdict, sleep_verdict}
use Rattle.rules.specs.Outcomes.{ready_verdict, sleep_stage, sleep_stages}
use Rattle.rules.proofs.Answers.{first_both, first_pass, first_stop, first_none, first_alone, unless_at, unless_stop, refused_stops}
use Rattle.rules.proofs.Answers.{lowest_at, lowest_of_lem, done_passes}
use Rattle.laws.specs.Carried.{All}
use Rattle.laws.specs.Sleep.{MayChoose}
use Rattle.laws.proofs.Stages.{ready_at, ready_pass}
use Rattle.laws.proofs.Lists.{number_passes}
use Rattle.laws.proofs.Moves.{unless_passes}
use Rattle.laws.proofs.Bounds.{chain_holds, last_holds, unless_holds, lowest_holds}

-- the stages that sleep entry has passed
pub record SleepPassed (t b : List ℕ) (q : Request) : Type 0 where
  pub table : passes (table_verdict t) ≡ true
  pub state : passes (state_verdict t b) ≡ true
  pub form : sleep_form_good q ≡ true
  pub armed : (d : ℕ) → d < (station t).devices → armed_for_other ((status t b).entries d) q.a ≡ false
  pub choice : has_choice (station t) (status t b).entries q.a ≡ true

module _ (room : Bool) (t b : List ℕ) (q : Request) where
  -- what passes has passed each stage
  pub sleep_of : passes (sleep_stages room t b q) ≡ true → SleepPassed t b q × (room ≡ true)
  unfolding sleep_stages sleep_stage sleep_verdict armed_verdict
  sleep_of e =
      let x = first_both _ _ _ e in
      let r = ready_at room t b x.0 in
      let y = first_both _ _ _ (first_both _ _ _ x.1).0 in
      let a = first_both _ _ _ y.0 in (
        record {
          table = r.table;
          state = r.state;
          form = unless_at _ _ _ a.0;
          armed = lowest_at _ (station t).devices (refuse ArmedForOther) (refused_stops ArmedForOther) (first_both _ _ _ a.1).0;
          choice = unless_at _ _ _ (first_both _ _ _ y.1).0;
        },
        r.room,
      )

  -- and where each stage passes, it is done
  pub sleep_pass : SleepPassed t b q → room ≡ true → sleep_stages room t b q ≡ Ok 0
  unfolding sleep_stages sleep_stage sleep_verdict armed_verdict
  sleep_pass g e =
      let ready = ready_pass room t b (record { table = g.table; state = g.state; room = e }) in
      let others = lowest_of_lem (λ d. armed_for_other ((status t b).entries d) q.a) (station t).devices (refuse ArmedForOther) g.armed in
      let armed = first_pass _ _ (Ok 0) (unless_passes (sleep_form_good q) _ 0 g.form)
      ∙ first_pass _ _ _ (ap passes others ∙ done_passes 0) ∙ first_none (Ok 0) in
      let stage = first_pass _ _ (Ok 0) (ap passes armed ∙ done_passes 0)
      ∙ first_pass _ _ _ (unless_passes (has_choice (station t) (status t b).entries q.a) _ 0 g.choice) ∙ first_none (Ok 0) in
      first_pass _ _ _ (ap passes ready ∙ done_passes 0) ∙ first_pass _ _ _ (ap passes stage ∙ done_passes 0) ∙ first_none (Ok 0)

-- ---- 21: no check before that of the choice has this number; and those before the request or sleep entry have none above 9
abbrev pub Below : ℕ → Verdict → Type 0
Below n v = number_of v < n

-- a chain of such checks
first_below : (n : ℕ) → 0 < n → (vs : List Verdict) → All (Below n) vs → Below n (first_of vs (Ok 0))
unfolding All
first_below n k [] h = last_holds (Below n) (Ok 0) k
first_below n k (v ∷ vs) h = chain_holds (Below n) v vs (Ok 0) h.0 (λ _. first_below n k vs h.1)

-- one check
unless_below : (n : ℕ) (good : Bool) (why : Reason) → reason_number why < n → Below n (unless good why 0)
unless_below n good why h = unless_holds (Below n) good why 0 (omega arith) (λ _. h)

-- one of resources or devices
lowest_below : (n : ℕ) (bad : ℕ → Bool) (m : ℕ) (why : Reason) → reason_number why < n → Below n (lowest bad m (refuse why))
lowest_below n bad m why h = lowest_holds (Below n) bad m (refuse why) (omega arith) (λ i _. h)

-- 5 and 6
device_below : (t : List ℕ) (d : ℕ) → Below 10 (device_refusal t d)
unfolding fields_or_objects
device_below t d = decide (fields_good t d) (λ e. rw e (omega arith)) (λ e. rw e (omega arith))

-- 1 to 6
table_below : (t : List ℕ) → Below 10 (table_verdict t)
unfolding table_verdict All
table_below t =
    let resources = lowest_below 10 (λ r. not (resource_good t (resource_start r))) (count_r t) BadResource (omega arith) in
    let devices =
    lowest_holds (Below 10) (λ d. not (device_good t d)) (count_d t) (device_refusal t) (omega arith) (λ d _. device_below t d) in
    first_below 10 (omega arith) _ (
      unless_below 10 _ _ (omega arith),
      (unless_below 10 _ _ (omega arith), (unless_below 10 _ _ (omega arith), (resources, (devices, tt)))),
    )

-- 7 and 8
state_below : (t b : List ℕ) → Below 10 (state_verdict t b)
unfolding state_verdict values_verdict consistency_verdict All
state_below t b =
    first_below 10 (omega arith) _
    (unless_below 10 _ _ (omega arith), (lowest_below 10 _ (station t).devices Inconsistent (omega arith), tt))

module _ (room : Bool) (t b : List ℕ) (q : Request) where
  -- 1 to 9
  pub ready_below : Below 10 (ready_verdict room t b)
  unfolding ready_verdict All
  ready_below = first_below 10 (omega arith) _ (table_below t, (state_below t b, (unless_below 10 _ _ (omega arith), tt)))

  -- 10 and 20
  armed_below : Below 21 (armed_verdict (station t) (status t b).entries q)
  unfolding armed_verdict All
  armed_below =
      first_below 21 (omega arith) _
      (unless_below 21 _ _ (omega arith), (lowest_below 21 _ (station t).devices ArmedForOther (omega arith), tt))

  -- 21 has come after the others, and without a choice
  abbrev OnlyThen : Verdict → Type 0
  OnlyThen v = number_of v ≡ 21 → MayChoose room t b q × (has_choice (station t) (status t b).entries q.a ≡ false)

  -- so 21 says that they pass and there is no choice
  pub none_of : OnlyThen (sleep_stages room t b q)
  unfolding sleep_stages sleep_stage sleep_verdict
  none_of =
      let end : OnlyThen (first_of [] (Ok 0)) = last_holds OnlyThen (Ok 0) (λ e. absurd (omega arith)) in
      chain_holds OnlyThen _ _ _ (λ e. absurd (omega (arith, ready_below)))
      (λ r. chain_holds OnlyThen _ _ _
      (chain_holds OnlyThen _ _ _ (λ e. absurd (omega (arith, armed_below)))
      (λ a. chain_holds OnlyThen _ _ _
      (unless_holds OnlyThen _ NoChoice 0 (λ e. absurd (omega arith))
      (λ c e. (ap number_of (first_pass _ _ _ r ∙ first_pass _ _ _ a ∙ first_none (Ok 0)), c)))
      (λ _. end)))
      (λ _. end))

  -- and it is the number then
  pub none_is : MayChoose room t b q → has_choice (station t) (status t b).entries q.a ≡ false → number_of (sleep_stages room t b q) ≡ 21
  unfolding sleep_stages sleep_stage sleep_verdict
  none_is m c =
      let x = first_both _ _ _ (number_passes _ m) in
      let stop = unless_stop (has_choice (station t) (status t b).entries q.a) NoChoice 0 c in
      ap number_of (first_pass _ _ _ x.0 ∙ first_alone _ ∙ first_pass _ _ _ (first_both _ _ _ x.1).0
      ∙ first_stop _ _ _ (ap passes stop ∙ refused_stops NoChoice 0) ∙ stop)

  -- the table is accepted where they pass
  pub choice_table : MayChoose room t b q → passes (table_verdict t) ≡ true
  choice_table m = (ready_at room t b (first_both _ _ _ (number_passes _ m)).0).table
