use native.Mathlib.Omega.{arith}
use mathlib.Core.Path.{refl}
use Rattle.rules.proofs.Answers.{ok_passed, err_stopped, handed_on}
use Rattle.table.proofs.Verdicts.{sized_done}
use Rattle.switching.proofs.Answered.{parts}
use Rattle.planner.proofs.Choices.{states_64, choice_given, sleep_room, sleep_refused, sleep_planned}
use Rattle.planner.proofs.Room.{elements_fit}
use borrow.Author.Rules.{rules}
use Rattle.planner.proofs.plan.sleep_elements.Goals as goal

pub room-requires : goal.room-requires
room-requires g c = search (rules, sized_done)

pub overflow_mul-fits : goal.overflow_mul-fits
overflow_mul-fits g c = elements_fit _ _ 4160 (rw c.SIZE.ensures g.met.E.Element.narrow) c.room.ensures.1 (omega arith)

pub past_table-requires : goal.past_table-requires
past_table-requires g c = (search rules, search rules, search (rules, states_64))

-- A refusal leaves state and plan; otherwise the calls that bring the devices to the least choice, and the state after them, are written.
-- Where the values are too many for a search, each is named by the call that gave it, from the last one back.
pub returns-in_err-past_table : goal.returns-in_err-past_table
returns-in_err-past_table g c =
    rw (handed_on _ _ _ c.in_err-past_table.was c.from_residual.ensures.1)
    (parts (sleep_refused _ _ _ _ _ _ c.requires.0 _ c.room.ensures.0 _ c.SIZE.ensures _ (g.met.E.Element.each _) _ c.past_table.ensures.0
    (err_stopped _ _ c.in_err-past_table.was)))

pub write_choice-requires : goal.write_choice-requires
write_choice-requires g c =
    let e = c.past_table.ensures in
    let yes = ok_passed _ _ c.in_ok-past_table.was in (
      choice_given _ _ _ _ _ _ c.room.ensures.0 _ _ e.0 e.1 yes (search (rules, states_64)),
      rw (g.met.E.Element.each _) (sleep_room _ _ _ _ _ _ c.room.ensures.0 _ _ e.0 e.1 yes _ _ _ c.SIZE.ensures refl),
    )

pub returns : goal.returns
returns g c =
    let e = c.past_table.ensures in
    parts (sleep_planned _ _ _ _ _ _ c.requires.0 _ c.room.ensures.0 _ c.SIZE.ensures _ (g.met.E.Element.each _) _ e.0 (ok_passed _ _ c.in_ok-past_table.was) _ _
    e.1 _ _ _ c.write_choice.ensures)
