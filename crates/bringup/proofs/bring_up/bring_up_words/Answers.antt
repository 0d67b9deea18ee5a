use mathlib.Core.Path.{refl}
use Rattle.rules.proofs.Answers.{ok_passed, err_stopped, handed_on}
use Rattle.table.proofs.Verdicts.{sized_passed, table_passed}
use Rattle.switching.proofs.Answered.{parts}
use Rattle.bringup.proofs.Whole.{stop_table, passed_by, room_there, words_refused, words_brought, words_brings}
use Rattle.bringup.proofs.bring_up.bring_up_words.Goals as goal

-- A refusal leaves state and plan; otherwise the calls and the state of bring-up are written.
pub returns-in_err-check_table : goal.returns-in_err-check_table
returns-in_err-check_table c =
    let no = err_stopped _ _ c.in_err-check_table.was in
    let a = words_refused _ _ _ _ refl _ (stop_table _ _ _ _ c.check_table.ensures no) no in
    rw (handed_on _ _ _ c.in_err-check_table.was c.from_residual.ensures.1) (record { answer = parts a; brings = words_brings _ _ _ a })

pub room-requires : goal.room-requires
room-requires c = sized_passed _ _ c.check_table.ensures (ok_passed _ _ c.in_ok-check_table.was)

pub past_table-requires : goal.past_table-requires
past_table-requires c = table_passed _ _ c.check_table.ensures (ok_passed _ _ c.in_ok-check_table.was)

pub returns-in_err-past_table : goal.returns-in_err-past_table
returns-in_err-past_table c =
    let a = words_refused _ _ _ _ c.room.ensures.0 _ c.past_table.ensures (err_stopped _ _ c.in_err-past_table.was) in
    rw (handed_on _ _ _ c.in_err-past_table.was c.from_residual-in_err-past_table.ensures.1) (record { answer = parts a; brings = words_brings _ _ _ a })

pub write_bring_up-requires : goal.write_bring_up-requires
write_bring_up-requires c =
    let yes = ok_passed _ _ c.in_ok-past_table.was in (
      passed_by _ _ _ _ c.past_table.ensures yes,
      room_there _ _ _ _ c.room.ensures.0 _ c.past_table.ensures yes,
    )

pub returns : goal.returns
returns c =
    let a = words_brought _ _ _ _ c.room.ensures.0 _ c.past_table.ensures (ok_passed _ _ c.in_ok-past_table.was) _ _ _
    c.write_bring_up.ensures in
    record { answer = parts a; brings = words_brings _ _ _ a }
