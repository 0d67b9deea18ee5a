-- Answers 10, 20 and 21 of sleep entry, and its stages: a law for each way out of the code.
use mathlib.Core.Path.{◌≡◌, refl, sym, ap, ◌∙◌}
use mathlib.Core.Bool.{Bool, true, false, not, ◌&&◌, and-false}
use mathlib.Core.List.{List, [], ◌∷◌}
use Prim.Native.Nat.{ℕ, ◌<◌}
use native.Mathlib.Omega.{arith}
use borrow.Author.Tests.{eqb-true, leb-true, not-true, not-false}
use lib.Dec.{eqb, leb, ltb}
use Rattle.sets.proofs.Laws.{decide}
use Rattle.rules.specs.declared.Entry.{Entry}
use Rattle.rules.specs.declared.Request.{Request}
use Rattle.rules.specs.Verdict.{Verdict}
use Rattle.std.specs.Prelude.{Option, Some, None, Ok}
use Rattle.rules.specs.Verdict.{refuse}
use Rattle.rules.specs.declared.Reason.{Reason}
use Rattle.rules.specs.declared.Reason.TheVariants.{BadRequest, ArmedForOther, NoChoice}
use Rattle.rules.specs.Index.{every, least_option}
use Rattle.rules.specs.Answers.{number_of, passes, first_of, unless, lowest}
use Rattle.rules.specs.Station.{Station, count_d, station_of, station}
use Rattle.rules.specs.Table.{table_verdict}
use Rattle.rules.specs.Status.{entries, status_of, status}
use Rattle.rules.specs.Request.{numbers_good, form_good, request_verdict}
use Rattle.rules.specs.Sleep.{is_sleep, sleep_form_good, has_choice, armed_verdict, sleep_verdict}
use Rattle.rules.specs.Outcomes.{ready_verdict, request_stage, stages_verdict, sleep_stage, sleep_stages}
use Rattle.rules.proofs.Answers.{done_passes, refused_stops, first_pass, first_stop, first_none, first_alone, unless_of, unless_stop}
use Rattle.rules.proofs.Answers.{first_both, lowest_some, lowest_no}
use Rattle.laws.proofs.Tests.{both_true}
use Rattle.laws.proofs.Every.{every_ext}
use Rattle.status.proofs.Filled.{filled_at}
use Rattle.laws.proofs.Stages.{ready_at}
use Rattle.laws.proofs.SleepStages.{ready_below}
use Rattle.status.specs.Ready.{Ready}
use Rattle.request.proofs.Chain.{ready_of, ready_stops, ready_table}
use Rattle.sleep.specs.Chosen.{states_in, least_each, states_left, stages_left}
use Rattle.sleep.proofs.Choosing.{other}

-- f is what the test of the form returned
pub form_small : (q : Request) (f : Bool) → f ≡ sleep_form_good q → not f ≡ false → q.a < 5
unfolding sleep_form_good
form_small q f form n =
    let e = sym form ∙ not-false f n in
    let low = leb 1 q.a && leb q.a 4 in
    let x = both_true (low && eqb q.device 0) (eqb q.b 0) e in
    let y = both_true low (eqb q.device 0) x.0 in
    omega (arith, leb-true q.a 4 (both_true (leb 1 q.a) (leb q.a 4) y.0).1)

module _ (t b : List ℕ) (q : Request) (why : Reason) (at : ℕ) (armed : armed_verdict (station t) (entries t b) q ≡ refuse why at) where
  armed_stops : refuse why at ≡ sleep_verdict (station t) (entries t b) q
  unfolding sleep_verdict
  armed_stops = sym (first_stop _ _ (Ok 0) (ap passes armed ∙ refused_stops why at) ∙ armed)

  left_stops : (chosen : List ℕ) → chosen ≡ states_left t b q chosen
  unfolding states_left
  left_stops chosen = rw (ap passes armed ∙ refused_stops why at) refl

module _ (t b : List ℕ) (q : Request) (f : Bool) (form : f ≡ sleep_form_good q) where
  armed_10 : not f ≡ true → armed_verdict (station t) (entries t b) q ≡ refuse BadRequest 0
  unfolding armed_verdict
  armed_10 n =
      let stop = unless_stop (sleep_form_good q) BadRequest 0 (sym form ∙ not-true f n) in
      first_stop (unless (sleep_form_good q) BadRequest 0) _ (Ok 0) (ap passes stop ∙ refused_stops BadRequest 0) ∙ stop

  pub answer_10 : not f ≡ true → refuse BadRequest 0 ≡ sleep_verdict (station t) (entries t b) q
  answer_10 n = armed_stops t b q BadRequest 0 (armed_10 n)

  pub left_10 : not f ≡ true → (chosen : List ℕ) → chosen ≡ states_left t b q chosen
  left_10 n chosen = left_stops t b q BadRequest 0 (armed_10 n) chosen

  -- k is the lowest device that is armed for another sleep state
  module _ (good : not f ≡ false) (k : Option ℕ) (low : k ≡ least_option (other t b q.a) (count_d t)) where
    to_armed : armed_verdict (station t) (entries t b) q
        ≡ first_of (lowest (other t b q.a) (count_d t) (refuse ArmedForOther) ∷ []) (Ok 0)
    unfolding armed_verdict station_of
    to_armed = first_pass _ _ (Ok 0) (ap passes (unless_of _ BadRequest 0 (sym form ∙ not-false f good)) ∙ done_passes 0)

    armed_20 : (d : ℕ) → k ≡ Some d → armed_verdict (station t) (entries t b) q ≡ refuse ArmedForOther d
    armed_20 d some =
        let stop = sym (lowest_some (other t b q.a) (count_d t) d (refuse ArmedForOther) (sym some ∙ low)) in
        to_armed ∙ first_stop _ _ (Ok 0) (ap passes stop ∙ refused_stops ArmedForOther d) ∙ stop

    pub answer_20 : (d : ℕ) → k ≡ Some d → refuse ArmedForOther d ≡ sleep_verdict (station t) (entries t b) q
    answer_20 d some = armed_stops t b q ArmedForOther d (armed_20 d some)

    pub left_20 : (d : ℕ) → k ≡ Some d → (chosen : List ℕ) → chosen ≡ states_left t b q chosen
    left_20 d some chosen = left_stops t b q ArmedForOther d (armed_20 d some) chosen

    armed_0 : k ≡ None → passes (armed_verdict (station t) (entries t b) q) ≡ true
    armed_0 none =
        let pass = lowest_no (other t b q.a) (count_d t) (refuse ArmedForOther) (sym none ∙ low) in
        ap passes (to_armed ∙ first_pass _ _ (Ok 0) (ap passes pass ∙ done_passes 0) ∙ first_none (Ok 0)) ∙ done_passes 0

    pub left_chosen : k ≡ None → (chosen chosen' : List ℕ) → chosen' ≡ least_each t b q.a chosen → chosen' ≡ states_left t b q chosen
    unfolding states_left
    left_chosen none chosen chosen' e = rw (armed_0 none) e

    -- c is whether every device has a state
    module _ (none : k ≡ None) (chosen₀ chosen : List ℕ) (least : chosen ≡ least_each t b q.a chosen₀) (c : Bool)
        (test : c ≡ every (λ k. ltb (states_in chosen k) 5) (count_d t)) where
      choice_is : c ≡ has_choice (station t) (entries t b) q.a
      unfolding has_choice station_of
      choice_is = test ∙ every_ext _ _ (count_d t) (λ k l. ap (λ (y : ℕ). ltb y 5) (filled_at _ chosen₀ chosen (count_d t) k least l))

      to_choice : sleep_verdict (station t) (entries t b) q
          ≡ first_of (unless (has_choice (station t) (entries t b) q.a) NoChoice 0 ∷ []) (Ok 0)
      unfolding sleep_verdict
      to_choice = first_pass _ _ (Ok 0) (armed_0 none)

      pub answer_21 : not c ≡ true → refuse NoChoice 0 ≡ sleep_verdict (station t) (entries t b) q
      answer_21 y =
          let stop = unless_stop (has_choice (station t) (entries t b) q.a) NoChoice 0 (sym choice_is ∙ not-true c y) in
          sym (to_choice ∙ first_stop _ _ (Ok 0) (ap passes stop ∙ refused_stops NoChoice 0) ∙ stop)

      pub answer_0 : not c ≡ false → Ok 0 ≡ sleep_verdict (station t) (entries t b) q
      answer_0 y =
          let pass = unless_of (has_choice (station t) (entries t b) q.a) NoChoice 0 (sym choice_is ∙ not-false c y) in
          sym (to_choice ∙ first_pass _ _ (Ok 0) (ap passes pass ∙ done_passes 0) ∙ first_none (Ok 0))

pub ruleset answers = (answer_10, answer_20, answer_21, answer_0)

pub ruleset lefts = (left_10, left_20, left_chosen)

-- where all of them pass, the least choice stands in the lent bytes
pub passed_least : (t b : List ℕ) (q : Request) (room : Bool) (chosen chosen' : List ℕ) → passes (sleep_stages room t b q) ≡ true
    → chosen' ≡ stages_left room t b q chosen → chosen' ≡ least_each t b q.a chosen
unfolding stages_left states_left sleep_stages sleep_stage sleep_verdict status_of
passed_least t b q room chosen chosen' e g =
    let x = first_both _ _ _ e in
    let y = first_both _ _ _ (first_both _ _ _ x.1).0 in
    rw (x.0, y.0) at g

-- ---- the table's answer
module _ (t b : List ℕ) (q : Request) (room : Bool) where
  pub sleep_table : (v : Verdict) → v ≡ table_verdict t → passes v ≡ false → v ≡ sleep_stages room t b q
  unfolding sleep_stages
  sleep_table v e n = ready_stops room t b _ v (ready_table t v e b room n) n

-- ---- 1 to 9, then these. The checks of requests answer 10 to kind 4 exactly where 1 to 9 pass
sleep_bad : (s : Station) (entries : ℕ → Entry) (q : Request) → is_sleep q ≡ true → request_verdict s entries q ≡ refuse BadRequest 0
unfolding request_verdict form_good numbers_good
sleep_bad s entries q k =
    let bad : form_good s q ≡ false = rw (eqb-true q.kind 4 k) (and-false (ltb q.device s.devices)) in
    let stop = unless_stop (form_good s q) BadRequest 0 bad in
    first_stop _ _ (Ok 0) (ap passes stop ∙ refused_stops BadRequest 0) ∙ stop

module _ (t b : List ℕ) (room : Bool) (q : Request) (k : is_sleep q ≡ true) (v : Verdict) (e : v ≡ stages_verdict room t b q) (n : ℕ)
    (f : n ≡ number_of v) where
  ready_ten : passes (ready_verdict room t b) ≡ true → n ≡ 10
  unfolding stages_verdict request_stage
  ready_ten p =
      let bad = sleep_bad (station t) (status t b).entries q k in
      let all : v ≡ refuse BadRequest 0 =
      e ∙ first_pass _ _ (Ok 0) p ∙ first_stop _ [] (Ok 0) (ap passes bad ∙ refused_stops BadRequest 0) ∙ bad in
      f ∙ ap number_of all

  ten_ready : n ≡ 10 → passes (ready_verdict room t b) ≡ true
  unfolding stages_verdict
  ten_ready z =
      decide (passes (ready_verdict room t b)) (λ p. p)
      (λ p.
      let same : v ≡ ready_verdict room t b = e ∙ first_stop _ _ (Ok 0) p in
      absurd (omega (arith, z, f, ap number_of same, ready_below room t b q)))

  not_ready : (n ≡ 10 → ⊥) → passes (ready_verdict room t b) ≡ false
  not_ready z = decide (passes (ready_verdict room t b)) (λ p. absurd (z (ready_ten p))) (λ p. p)

  pub sleep_stop : (n ≡ 10 → ⊥) → v ≡ sleep_stages room t b q
  unfolding sleep_stages stages_verdict
  sleep_stop z = e ∙ first_stop _ _ (Ok 0) (not_ready z) ∙ sym (first_stop _ _ (Ok 0) (not_ready z))

  pub stages_stop : (n ≡ 10 → ⊥) → (chosen : List ℕ) → chosen ≡ stages_left room t b q chosen
  unfolding stages_left
  stages_stop z chosen = rw (not_ready z) refl

  module _ (z : n ≡ 10) where
    -- the lists that the verdict is handed stand apart, so that the search compares them with t and b once
    pub sleep_asks : (table image : List ℕ) → t ≡ table → b ≡ image → Ready table image
    sleep_asks table image x y = let g = ready_at room t b (ten_ready z) in rw (← x, ← y) (ready_of t b g.table g.state)

    pub sleep_last : (x : Verdict) → x ≡ sleep_verdict (station t) (entries t b) q → x ≡ sleep_stages room t b q
    unfolding sleep_stages sleep_stage status_of sleep_verdict
    sleep_last x i = i ∙ sym (first_pass _ _ (Ok 0) (ten_ready z) ∙ first_alone _)

    pub stages_last : (chosen chosen' : List ℕ) → chosen' ≡ states_left t b q chosen → chosen' ≡ stages_left room t b q chosen
    unfolding stages_left
    stages_last chosen chosen' g = rw (ten_ready z) g

pub ruleset sleeping = (sleep_stop, stages_stop, sleep_asks, sleep_last, stages_last)
