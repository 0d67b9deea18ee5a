-- The planner whole: the words and the state of an accepted request, and the outcome.
use mathlib.Core.Path.{◌≡◌, refl, sym, ap, ◌∙◌}
use mathlib.Core.Bool.{Bool, true, false}
use mathlib.Core.List.{List}
use Prim.Native.Nat.{ℕ, ◌*◌, ◌≤◌, ◌<◌}
use native.Mathlib.Nat.{one-mul, mul-zero}
use native.Mathlib.Omega.{arith}
use borrow.Author.Tests.{leb-true}
use lib.Dec.{leb}
use lib.ListN.{length}
use Rattle.words.specs.Words.{put, word_bytes}
use Rattle.rules.specs.declared.Change.{Change}
use Rattle.rules.specs.declared.Request.{Request}
use Rattle.rules.specs.Verdict.{Verdict}
use Rattle.std.specs.Prelude.{Ok}
use Rattle.rules.specs.Answers.{number_of, count_of, passes}
use Rattle.rules.specs.Station.{width, limit, station}
use Rattle.rules.specs.Status.{Status, status, image_of}
use Rattle.rules.specs.Calls.{own_call, own_last, calls, switching_words, change_of}
use Rattle.rules.specs.Sleep.{is_sleep}
use Rattle.rules.specs.Outcomes.{Outcome, list_room, planned, stages_verdict, state_after, plan_outcome, plan_room, plan_stages, plan_state, plan_list, plan_words, plan_bytes}
use Rattle.table.specs.Layout.{WellSized}
use Rattle.status.specs.Ready.{status_with, entry_with}
use Rattle.status.proofs.Written.{after_image}
use Rattle.request.specs.Permitted.{PermittedRequest}
use Rattle.request.proofs.Changes.{status_with_lem, on_small}
use Rattle.laws.specs.Demand2.{Demand2Words}
use Rattle.laws.specs.Sleep.{SleepEntryWords}
use Rattle.laws.proofs.Stages.{room_passed}
use Rattle.laws.proofs.Demand2.{demand2_words}
use Rattle.laws.proofs.Sleep.{sleeps_words}
use Rattle.switching.proofs.Made.{words_are}
use Rattle.switching.proofs.Answered.{Answered, outcome_refused, outcome_written}
use Rattle.planner.specs.Plan.{Written, plan_elements}
use Rattle.planner.specs.Moves.{WrittenFrom}

-- ---- the words and the state of a permitted request, from the values as the code has them
module _ (t b : List ℕ) (q : Request) (on : ℕ) (c : Change) (h : on ≡ (status t b).on)
    (i : c ≡ change_of (station t) (status_with t b on) q) where
  change_is : c ≡ change_of (station t) (status t b) q
  change_is = i ∙ ap (λ (st : Status). change_of (station t) st q) (status_with_lem t b on h)

  pub list_is : switching_words (station t) c.switching ≡ planned t b q
  unfolding planned calls
  list_is = rw change_is (words_are (own_call (station t) ((status t b).entries q.device) q) (own_last q) (status t b).on _ (station t))

-- what is known of each value comes before what it is made of, so that the search finds the values in turn
pub plan_written : (t b : List ℕ) (q : Request) (n : ℕ) (b' plan plan' : List ℕ) (c : Change)
    → b' ≡ image_of (width t) (entry_with t b q.device c.entry c.needed)
    → (on : ℕ) → c ≡ change_of (station t) (status_with t b on) q → on ≡ (status t b).on
    → n ≡ length (switching_words (station t) c.switching) → plan' ≡ put plan 0 (switching_words (station t) c.switching)
    → Written t b q plan n b' plan'
plan_written t b q n b' plan plan' c s on i h k w =
    let same = change_is t b q on c h i in
    let image = after_image t b q c.entry c.needed (ap (λ (x : Change). x.entry) same) (ap (λ (x : Change). x.needed) same) in
    let are = list_is t b q on c h i in
    record { count = k ∙ ap length are; state = s ∙ image; words = w ∙ ap (put plan 0) are }

-- ---- what the code asks of its parts
module _ (t b : List ℕ) (q : Request) (g : PermittedRequest t b q) where
  pub sized_table : WellSized t
  sized_table = g.ready.sized

  pub device_inside : q.device < limit (width t)
  device_inside = omega (arith, g.device, g.ready.sized.devices)

pub ruleset writing = (sized_table, device_inside, on_small)

-- ---- the outcome

pub answered : {v : Verdict} {b plan : List ℕ} {o : Outcome} → (v ≡ o.verdict) × (b ≡ o.state) × (plan ≡ o.plan) → Answered v b plan o
answered e = record { verdict = e.0; state = e.1; plan = e.2 }

-- the parts of an outcome of words keep demand 2, and those of sleep entry what it promises
module _ {v : Verdict} {b' plan' : List ℕ} (t b : List ℕ) (q : Request) (plan : List ℕ)
    (a : Answered v b' plan' (plan_words t b q plan)) where
  pub words_demand : is_sleep q ≡ false → Demand2Words t b q plan (number_of v) (count_of v) b' plan'
  words_demand k = rw (a.verdict, a.state, a.plan) (demand2_words t b q plan k)

  pub words_sleeps : is_sleep q ≡ true → SleepEntryWords t b q plan (number_of v) (count_of v) b' plan'
  words_sleeps k = rw (a.verdict, a.state, a.plan) (sleeps_words t b q plan k)

-- an outcome o of checks that ask for so much room: v is their answer, and n the room as the code has it
module _ (written : List ℕ → List ℕ) (stages : Bool → Verdict) (room : ℕ) (b plan after list : List ℕ) (o : Outcome)
    (is : o ≡ plan_outcome written (stages (leb room (length plan))) b plan after list) (n : ℕ) (i : n ≡ room) (v : Verdict) (e : v ≡ stages (leb n (length plan))) where
  pub outcome_stops : passes v ≡ false → Answered v b plan o
  outcome_stops k = rw is (outcome_refused _ v (rw i at e) written b plan after list k)

  pub outcome_done : passes v ≡ true → (k : ℕ) (b' plan' : List ℕ) → k ≡ length list → b' ≡ after → plan' ≡ put plan 0 (written list)
      → Answered (Ok k) b' plan' o
  outcome_done h k b' plan' count state elements =
      rw is (outcome_written _ v (rw i at e) written b plan after list h k b' plan' count state elements)

-- the planner of RULES.md 9 on words
pub elements_words : (t b : List ℕ) (q : Request) (plan : List ℕ) → plan_elements 1 (λ ws. ws) t b q plan ≡ plan_words t b q plan
unfolding plan_elements plan_words
elements_words t b q plan = rw (one-mul (plan_room (width t) q)) refl

-- and on bytes
pub elements_bytes : (t b : List ℕ) (q : Request) (plan : List ℕ) → plan_elements 4 word_bytes t b q plan ≡ plan_bytes t b q plan
unfolding plan_elements plan_bytes
elements_bytes t b q plan = refl

-- a plan of which a word takes `size` elements; n and s: the room of a list and the size, as the code has them; m: the elements of the plan
module _ (size : ℕ) (written : List ℕ → List ℕ) (t b : List ℕ) (q : Request) (plan : List ℕ) where
  module _ (kind : is_sleep q ≡ false) where
    elements_request : plan_elements size written t b q plan
        ≡ plan_outcome written (stages_verdict (leb (size * list_room (width t)) (length plan)) t b q) b plan (state_after t b q) (planned t b q)
    unfolding plan_elements plan_room plan_stages plan_state plan_list
    elements_request = rw kind refl

    module _ (n : ℕ) (i : n ≡ list_room (width t)) (s : ℕ) (j : s ≡ size) (m : ℕ) (l : length plan ≡ m) (v : Verdict)
        (e : v ≡ stages_verdict (leb (s * n) m) t b q) where
      pub request_room_there : passes v ≡ true → size * list_room (width t) ≤ length plan
      request_room_there k = rw (i, j, ← l) at (leb-true (s * n) m (room_passed (leb (s * n) m) t b q (sym (ap passes e) ∙ k)))

      pub request_refused : passes v ≡ false → Answered v b plan (plan_elements size written t b q plan)
      request_refused k =
          outcome_stops _ (λ r. stages_verdict r t b q) _ b plan _ _ _ elements_request (s * n) (rw (i, j) refl) v (rw (← l) at e) k

      pub request_planned : passes v ≡ true → (k : ℕ) (b' plan' : List ℕ)
          → WrittenFrom size written (planned t b q) (state_after t b q) plan 0 k b' plan'
          → Answered (Ok k) b' plan' (plan_elements size written t b q plan)
      request_planned h k b' plan' w =
          outcome_done _ (λ r. stages_verdict r t b q) _ b plan _ _ _ elements_request (s * n) (rw (i, j) refl) v (rw (← l) at e) h
          k b' plan' w.count w.state (rw (mul-zero size) at w.elements)
