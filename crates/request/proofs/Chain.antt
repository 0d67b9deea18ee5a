-- The stages from their answers: the first refusal ends them, and what has passed gives what the next stage asks.
use mathlib.Core.Path.{◌≡◌, sym, ap, ◌∙◌}
use mathlib.Core.Bool.{Bool, true, false, not}
use mathlib.Core.List.{List, [], ◌∷◌}
use Prim.Native.Nat.{ℕ}
use native.Mathlib.Omega.{arith}
use borrow.Author.Tests.{not-true, not-false}
use Rattle.rules.specs.declared.Entry.{Entry}
use Rattle.rules.specs.declared.Request.{Request}
use Rattle.rules.specs.Verdict.{Verdict}
use Rattle.std.specs.Prelude.{Ok}
use Rattle.rules.specs.Verdict.{refuse}
use Rattle.rules.specs.declared.Reason.TheVariants.{NotATable, NoRoom}
use Rattle.rules.specs.Answers.{passes, first_of, unless}
use Rattle.rules.specs.Station.{Station, station}
use Rattle.rules.specs.Table.{header_good, table_verdict}
use Rattle.rules.specs.Status.{status_of, entries, state_verdict}
use Rattle.rules.specs.Request.{request_verdict}
use Rattle.rules.specs.Outcomes.{ready_verdict, request_stage, stages_verdict}
use Rattle.rules.proofs.Answers.{done_passes, refused_stops, first_pass, first_stop, first_none, first_alone, unless_of, unless_stop}
use Rattle.rules.proofs.Answers.{answer_passed, answer_stopped}
use Rattle.laws.proofs.Accepted.{accepted}
use Rattle.laws.proofs.States.{consistent_of}
use Rattle.table.proofs.Verdicts.{sized_of, no_table, table_passed}
use Rattle.status.specs.Ready.{Ready}

-- an accepted table and an accepted state
pub ready_of : (t b : List ℕ) → passes (table_verdict t) ≡ true → passes (state_verdict t b) ≡ true → Ready t b
unfolding status_of
ready_of t b e f =
    let a = accepted t e in
    let s = consistent_of t b f in
    record { sized = sized_of t e; parents = λ d h. (a.device d h).parent; long = omega (arith, s.0); good = s.1.entries }

request_alone : (s : Station) (entries : ℕ → Entry) (q : Request) → first_of (request_verdict s entries q ∷ [])
    (Ok 0) ≡ request_verdict s entries q
unfolding request_verdict
request_alone s entries q = first_alone _

-- ---- 1 to 9, then a last stage, whatever that is
module _ (room : Bool) (t b : List ℕ) (last v : Verdict) (e : v ≡ ready_verdict room t b) where
  pub ready_stops : passes v ≡ false → v ≡ first_of (ready_verdict room t b ∷ last ∷ []) (Ok 0)
  ready_stops f = e ∙ sym (first_stop (ready_verdict room t b) _ (Ok 0) (sym (ap passes e) ∙ f))

  pub ready_leads : passes v ≡ true → first_of (ready_verdict room t b ∷ last ∷ []) (Ok 0) ≡ first_of (last ∷ []) (Ok 0)
  ready_leads f = first_pass (ready_verdict room t b) _ (Ok 0) (sym (ap passes e) ∙ f)

-- ---- the table's answer
module _ (t : List ℕ) (v : Verdict) (e : v ≡ table_verdict t) where
  pub ready_table : (b : List ℕ) (room : Bool) → passes v ≡ false → v ≡ ready_verdict room t b
  unfolding ready_verdict
  ready_table b room n = rw e (sym (first_stop (table_verdict t) _ (Ok 0) (answer_stopped v _ e n)))

  pub stop_table : (b : List ℕ) (q : Request) (room : Bool) → passes v ≡ false → v ≡ stages_verdict room t b q
  unfolding stages_verdict
  stop_table b q room n = ready_stops room t b _ v (ready_table b room n) n

-- h: whether the header is good
pub stop_header : (t b : List ℕ) (q : Request) (room h : Bool) → h ≡ header_good t → not h ≡ true
    → refuse NotATable 0 ≡ stages_verdict room t b q
stop_header t b q room h e n = stop_table t (refuse NotATable 0) (no_table t h e n) b q room (refused_stops NotATable 0)

-- ---- after it, the state's, and the room
module _ (t b : List ℕ) (done : table_verdict t ≡ Ok 0) (u : Verdict) (g : u ≡ state_verdict t b) where
  on_table : passes (table_verdict t) ≡ true
  on_table = ap passes done ∙ done_passes 0

  pub stop_state : (room : Bool) → passes u ≡ false → u ≡ ready_verdict room t b
  unfolding ready_verdict
  stop_state room n =
      rw g (sym (first_pass (table_verdict t) _ (Ok 0) on_table ∙ first_stop (state_verdict t b) _ (Ok 0) (answer_stopped u _ g n)))

  module _ (yes : passes u ≡ true) (room : Bool) where
    to_room : ready_verdict room t b ≡ first_of (unless room NoRoom 0 ∷ []) (Ok 0)
    unfolding ready_verdict
    to_room = first_pass (table_verdict t) _ (Ok 0) on_table ∙ first_pass (state_verdict t b) _ (Ok 0) (answer_passed u _ g yes)

    pub stop_room : not room ≡ true → refuse NoRoom 0 ≡ ready_verdict room t b
    stop_room n =
        sym (to_room ∙ rw (unless_stop room NoRoom 0 (not-true room n)) (first_stop (refuse NoRoom 0) _ (Ok 0) (refused_stops NoRoom 0)))

    pub with_room : not room ≡ false → Ok 0 ≡ ready_verdict room t b
    with_room n =
        sym (to_room ∙ rw (unless_of room NoRoom 0 (not-false room n)) (first_pass (Ok 0) _ (Ok 0) (done_passes 0))
        ∙ first_none (Ok 0))

pub ruleset in_turn = (stop_state, stop_room, with_room)

-- ---- after these, the request
module _ (t b : List ℕ) (done : table_verdict t ≡ Ok 0) (u : Verdict) (g : u ≡ state_verdict t b) where
  pub request_state : (q : Request) (room : Bool) → passes u ≡ false → u ≡ stages_verdict room t b q
  unfolding stages_verdict
  request_state q room n = ready_stops room t b _ u (stop_state t b done u g room n) n

  module _ (yes : passes u ≡ true) where
    -- the lists that the request's stage is handed stand apart, so that the search compares them with t and b once
    pub request_asks : (table image : List ℕ) → t ≡ table → b ≡ image → Ready table image
    request_asks table image x y =
        rw (← x, ← y) (ready_of t b (ap passes done ∙ done_passes 0) (answer_passed u _ g yes))

    module _ (q : Request) (room : Bool) where
      pub request_room : not room ≡ true → refuse NoRoom 0 ≡ stages_verdict room t b q
      unfolding stages_verdict
      request_room n = ready_stops room t b _ (refuse NoRoom 0) (stop_room t b done u g yes room n) (refused_stops NoRoom 0)

      pub last_request : not room ≡ false → (x : Verdict) → x ≡ request_verdict (station t) (entries t b) q → x ≡ stages_verdict room t b q
      unfolding stages_verdict request_stage status_of
      last_request n x k =
          k ∙ sym (ready_leads room t b _ (Ok 0) (with_room t b done u g yes room n) (done_passes 0)
          ∙ request_alone (station t) (entries t b) q)

pub ruleset to_request = (stop_table, table_passed, request_state, request_asks, request_room, last_request)
