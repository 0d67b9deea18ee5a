-- The chain of checks that planner and checker share, and that of bring-up: each passes exactly if its stages do.
use mathlib.Core.Path.{◌≡◌, ap, ◌∙◌}
use mathlib.Core.Bool.{Bool, true}
use mathlib.Core.List.{List}
use Prim.Native.Nat.{ℕ}
use Rattle.rules.specs.declared.Request.{Request}
use Rattle.std.specs.Prelude.{Ok}
use Rattle.rules.specs.declared.Reason.TheVariants.{NoRoom}
use Rattle.rules.specs.Answers.{passes}
use Rattle.rules.specs.Station.{station}
use Rattle.rules.specs.Table.{table_verdict}
use Rattle.rules.specs.Status.{status, values_verdict, state_verdict}
use Rattle.rules.specs.Request.{request_verdict}
use Rattle.rules.specs.Outcomes.{ready_verdict, request_stage, stages_verdict}
use Rattle.rules.specs.BringUp.{but_power_verdict, state_but_power_verdict, bring_up_stages}
use Rattle.rules.proofs.Answers.{first_both, first_pass, first_none, unless_of, unless_at, done_passes}

-- table, state and room have passed
pub record ReadyPassed (fits : Bool) (t b : List ℕ) : Type 0 where
  pub table : passes (table_verdict t) ≡ true
  pub state : passes (state_verdict t b) ≡ true
  pub room : fits ≡ true

module _ (room : Bool) (t b : List ℕ) where
  pub ready_at : passes (ready_verdict room t b) ≡ true → ReadyPassed room t b
  unfolding ready_verdict
  ready_at e =
      let x = first_both _ _ _ e in
      let y = first_both _ _ _ x.1 in
      record { table = x.0; state = y.0; room = unless_at room NoRoom 0 (first_both _ _ _ y.1).0 }

  pub ready_pass : ReadyPassed room t b → ready_verdict room t b ≡ Ok 0
  unfolding ready_verdict
  ready_pass g =
      first_pass _ _ _ g.table ∙ first_pass _ _ _ g.state
      ∙ first_pass _ _ _ (rw (unless_of room NoRoom 0 g.room) (done_passes 0)) ∙ first_none (Ok 0)

-- the stages that a permitted request has passed
pub record Stages (t b : List ℕ) (q : Request) : Type 0 where
  pub table : passes (table_verdict t) ≡ true
  pub state : passes (state_verdict t b) ≡ true
  pub request : passes (request_verdict (station t) (status t b).entries q) ≡ true

module _ (room : Bool) (t b : List ℕ) (q : Request) where
  pub stages_of : passes (stages_verdict room t b q) ≡ true → Stages t b q
  unfolding stages_verdict request_stage
  stages_of e =
      let x = first_both _ _ _ e in
      let r = ready_at room t b x.0 in
      record { table = r.table; state = r.state; request = (first_both _ _ _ x.1).0 }

  pub stages_pass : Stages t b q → room ≡ true → stages_verdict room t b q ≡ Ok 0
  unfolding stages_verdict request_stage
  stages_pass g e =
      let ready = ready_pass room t b (record { table = g.table; state = g.state; room = e }) in
      first_pass _ _ _ (ap passes ready ∙ done_passes 0) ∙ first_pass _ _ _ g.request ∙ first_none (Ok 0)

  -- without room they refuse
  pub room_passed : passes (stages_verdict room t b q) ≡ true → room ≡ true
  unfolding stages_verdict
  room_passed e = (ready_at room t b (first_both _ _ _ e).0).room

-- the stages that bring-up asks for
pub record BringUpPassed (t b : List ℕ) : Type 0 where
  pub table : passes (table_verdict t) ≡ true
  pub values : passes (values_verdict t b) ≡ true
  pub apart : passes (but_power_verdict (station t) (status t b).entries) ≡ true

module _ (room : Bool) (t b : List ℕ) where
  pub bring_up_of : passes (bring_up_stages room t b) ≡ true → BringUpPassed t b × (room ≡ true)
  unfolding bring_up_stages state_but_power_verdict
  bring_up_of e =
      let x = first_both _ _ _ e in
      let y = first_both _ _ _ x.1 in
      let z = first_both _ _ _ y.0 in (
        record { table = x.0; values = z.0; apart = (first_both _ _ _ z.1).0 },
        unless_at room NoRoom 0 (first_both _ _ _ y.1).0,
      )

  pub bring_up_pass : BringUpPassed t b → room ≡ true → bring_up_stages room t b ≡ Ok 0
  unfolding bring_up_stages state_but_power_verdict
  bring_up_pass g e =
      let kept = first_pass _ _ (Ok 0) g.values ∙ first_pass _ _ (Ok 0) g.apart ∙ first_none (Ok 0) in
      first_pass _ _ _ g.table ∙ first_pass _ _ _ (ap passes kept ∙ done_passes 0)
      ∙ first_pass _ _ _ (rw (unless_of room NoRoom 0 e) (done_passes 0)) ∙ first_none (Ok 0)
