use native.Mathlib.Omega.{arith}
use Rattle.rules.proofs.Answers.{ok_passed, err_stopped, handed_on}
use Rattle.table.proofs.Verdicts.{sized_done}
use Rattle.request.proofs.Changes.{permitted_by}
use Rattle.switching.proofs.Answered.{parts}
use Rattle.planner.proofs.Whole.{request_room_there, request_refused, request_planned}
use Rattle.planner.proofs.Room.{elements_fit}
use borrow.Author.Rules.{rules}
use Rattle.planner.proofs.plan.request_elements.Goals as goal

pub room-requires : goal.room-requires
room-requires g c = search (rules, sized_done)

pub overflow_mul-fits : goal.overflow_mul-fits
overflow_mul-fits g c = elements_fit _ _ 65 (rw c.SIZE.ensures g.met.E.Element.narrow) c.room.ensures.1 (omega arith)

-- A refusal leaves state and plan; otherwise the calls and the state of the request are written.
pub returns-in_err-past_table : goal.returns-in_err-past_table
returns-in_err-past_table g c =
    rw (handed_on _ _ _ c.in_err-past_table.was c.from_residual.ensures.1)
    (parts (request_refused _ _ _ _ _ _ c.requires.0 _ c.room.ensures.0 _ c.SIZE.ensures _ (g.met.E.Element.each _) _ c.past_table.ensures
    (err_stopped _ _ c.in_err-past_table.was)))

pub write_plan-requires : goal.write_plan-requires
write_plan-requires g c =
    let yes = ok_passed _ _ c.in_ok-past_table.was in (
      permitted_by _ _ _ _ _ c.past_table.ensures yes,
      request_room_there _ g.E.Element.written _ _ _ _ c.requires.0 _ c.room.ensures.0 _ c.SIZE.ensures _ (g.met.E.Element.each _) _ c.past_table.ensures yes,
    )

pub returns : goal.returns
returns g c =
    parts (request_planned _ _ _ _ _ _ c.requires.0 _ c.room.ensures.0 _ c.SIZE.ensures _ (g.met.E.Element.each _) _ c.past_table.ensures
    (ok_passed _ _ c.in_ok-past_table.was) _ _ _ c.write_plan.ensures)
