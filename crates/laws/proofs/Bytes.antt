-- Demand 3 of byte lists: their words get the same answer, a length that is no multiple of four never passes, and the planner's own bytes
-- pass, since each of its words fits four bytes.
use mathlib.Core.Path.{◌≡◌, refl, ap, ◌∙◌}
use mathlib.Core.Bool.{Bool, true, false}
use mathlib.Core.List.{List, map}
use Prim.Native.Nat.{ℕ, ◌*◌, ◌/◌, ◌^◌, ◌≤◌, ◌<◌}
use native.Mathlib.Omega.{arith}
use lib.Dec.{eqb, leb}
use lib.ListN.{length, get_or, take}
use Rattle.sets.proofs.Laws.{decide}
use Rattle.words.specs.Words.{word_bytes, byte_words}
use Rattle.rules.specs.declared.Request.{Request}
use Rattle.rules.specs.declared.Wake.TheVariants.{Enable, Disable}
use Rattle.rules.specs.declared.Call.{Call}
use Rattle.rules.specs.declared.Call.TheVariants.{SetState, SetWake}
use Rattle.rules.specs.Answers.{number_of, count_of, passes}
use Rattle.rules.specs.Station.{Station, width, limit, station_of, station}
use Rattle.rules.specs.declared.Entry.{Entry}
use Rattle.rules.specs.Status.{status}
use Rattle.rules.specs.Request.{is_move, is_arm, form_good}
use Rattle.rules.specs.Calls.{word_of, list_of, only, method_for, move_call, wake_call, own_call, own_calls, own_last}
use Rattle.rules.specs.Check.{conforming_to}
use Rattle.rules.specs.Sleep.{is_sleep}
use Rattle.rules.specs.Outcomes.{list_room, stages_verdict, permitted_verdict, planned, state_after, plan_bytes, check_words, check_bytes}
use Rattle.rules.proofs.Answers.{done_passes}
use Rattle.rules.proofs.Width.{width_wide}
use Rattle.laws.specs.Carried.{All}
use Rattle.laws.specs.Demand3.{needed_after, Demand3Bytes}
use Rattle.laws.proofs.Accepted.{accepted}
use Rattle.laws.proofs.States.{small, form_passed, form_device}
use Rattle.laws.proofs.Stages.{Stages, stages_of, stages_pass}
use Rattle.laws.proofs.Lists.{number_passes, plan_passes, own_bytes, bytes_words, bytes_multiple}
use Rattle.laws.proofs.Plans.{bytes_request}
use Rattle.laws.proofs.Arrange.{Fits, all_fit, conforms_fits}
use Rattle.laws.proofs.Demand3.{able, test_iff, planner_conforms, demand3}

-- ---- a word of the planner's list fits four bytes
only_fits : (b : Bool) (c : Call) → Fits (word_of c) → All Fits (map word_of (list_of (only b c)))
unfolding only list_of All
only_fits true c h = (h, tt)
only_fits false c h = tt

method_small : (x : ℕ) → x ≤ 4 → method_for x ≤ 4
unfolding method_for
method_small x h = decide (eqb x 4) (λ e. rw e (omega arith)) (λ e. rw e h)

own_fits : (s : Station) (e : Entry) (q : Request) → q.device < 256 → q.a ≤ 4 → q.b ≤ 4 → All Fits (map word_of (list_of (own_call s e q)))
unfolding own_call move_call wake_call
own_fits s e q d a b =
    decide (is_move q)
    (λ m. rw m (only_fits _ (SetState q.device (method_for q.a)) (omega (arith, method_small q.a a))))
    (λ m. decide (is_arm q)
    (λ n. rw (m, n) (only_fits _ (SetWake q.device (Enable q.a q.b)) (omega arith)))
    (λ n. rw (m, n) (only_fits _ (SetWake q.device Disable) (omega arith))))

module _ (t b : List ℕ) (q : Request) (g : Stages t b q) where
  form : form_good (station t) q ≡ true
  form = form_passed (station t) _ q g.request

  own : All Fits (map word_of (own_calls (station t) (status t b) q))
  own =
      let most : (station t).devices ≤ limit (width t) = unfold station_of in (accepted t g.table).devices in
      let n = small (station t) q form in
      own_fits (station t) ((status t b).entries q.device) q
      (omega (arith, form_device (station t) q form, (width_wide t).high)) n.0 n.1

  words_fit : (i : ℕ) → get_or (planned t b q) i 0 < 2 ^ 32
  words_fit =
      all_fit _ (conforms_fits (station t) (own_calls (station t) (status t b) q) (own_last q) (status t b).on (needed_after t b q)
      (able t b q g)
      (planned t b q) (planner_conforms t b q g) own)

-- ---- demand 3
planner_bytes : (t b : List ℕ) (q : Request) → is_sleep q ≡ false → (plan : List ℕ) → number_of (plan_bytes t b q plan).verdict ≡ 0
    → number_of (check_bytes t b q (take (4 * count_of (plan_bytes t b q plan).verdict) (plan_bytes t b q plan).plan)) ≡ 0
unfolding check_bytes
planner_bytes t b q kind plan e =
    let room = leb (4 * list_room (width t)) (length plan) in
    let stages = stages_verdict room t b q in
    let done = rw (bytes_request t b q plan kind) at e in
    let g = stages_of room t b q (plan_passes word_bytes stages b plan (state_after t b q) (planned t b q) done) in
    rw (bytes_request t b q plan kind)
    (own_bytes stages (permitted_verdict t b q) (conforming_to (station t) (status t b) q) b plan (state_after t b q) (planned t b q)
    (ap passes (stages_pass true t b q g refl) ∙ done_passes 0) ((test_iff t b q g _).1 (planner_conforms t b q g)) (words_fit t b q g) done)

pub demand3_bytes : (t b : List ℕ) (q : Request) (list : List ℕ) → Demand3Bytes t b q list
unfolding check_bytes check_words
demand3_bytes t b q list =
    let test = conforming_to (station t) (status t b) q in
    record {
      multiple = λ e. bytes_multiple (permitted_verdict t b q) test list (number_passes _ e);
      words = bytes_words (permitted_verdict t b q) test list;
      demand = demand3 t b q (byte_words (length list / 4) list);
      planner = planner_bytes t b q;
    }
