use mathlib.Core.Path.{refl}
use Rattle.rules.proofs.Answers.{ok_passed, err_stopped, handed_on}
use Rattle.table.proofs.Verdicts.{table_passed, sized_passed}
use Rattle.switching.proofs.Answered.{parts}
use Rattle.bringup.proofs.Whole.{stop_table, passed_by, room_bytes, bytes_refused, bytes_brought}
use Rattle.sailgarnet.proofs.buffers.bring_up_bytes.Goals as goal

pub returns-in_err-check_table : goal.returns-in_err-check_table
returns-in_err-check_table c =
    let no = err_stopped _ _ c.in_err-check_table.was in
    rw (handed_on _ _ _ c.in_err-check_table.was c.from_residual.ensures.1)
    (parts (bytes_refused _ _ _ _ refl _ (stop_table _ _ _ _ c.check_table.ensures no) no))

pub room-requires : goal.room-requires
room-requires c = sized_passed _ _ c.check_table.ensures (ok_passed _ _ c.in_ok-check_table.was)

pub past_table-requires : goal.past_table-requires
past_table-requires c = table_passed _ _ c.check_table.ensures (ok_passed _ _ c.in_ok-check_table.was)

pub returns-in_err-past_table : goal.returns-in_err-past_table
returns-in_err-past_table c =
    rw (handed_on _ _ _ c.in_err-past_table.was c.from_residual-in_err-past_table.ensures.1)
    (parts (bytes_refused _ _ _ _ c.room.ensures.0 _ c.past_table.ensures (err_stopped _ _ c.in_err-past_table.was)))

pub write_bring_up-requires : goal.write_bring_up-requires
write_bring_up-requires c =
    let e = c.past_table.ensures in
    let yes = ok_passed _ _ c.in_ok-past_table.was in
    (passed_by _ _ _ _ e yes, room_bytes _ _ _ _ c.room.ensures.0 _ e yes)

pub returns : goal.returns
returns c =
    let w = c.write_bring_up.ensures in
    parts (bytes_brought _ _ _ _ c.room.ensures.0 _ c.past_table.ensures (ok_passed _ _ c.in_ok-past_table.was) _ _ _ w.count
    w.state w.elements)
