use Rattle.rules.proofs.Answers.{ok_passed, err_stopped, handed_on}
use mathlib.Core.Bool.{not}
use mathlib.Core.Path.{ap}
use mathlib.Core.List.{[]}
use Rattle.writer.proofs.Whole.{describe_refused, sized, describe_short, part_inside, devices_have_room, describe_done}
use borrow.Author.Rules.{rules}
use Rattle.writer.proofs.describe.describe.Goals as goal

-- The checks decide; then the resources are copied and the devices described.
pub returns-in_err-check_table : goal.returns-in_err-check_table
returns-in_err-check_table c =
    rw (handed_on _ _ _ c.in_err-check_table.was c.from_residual.ensures.1)
    (describe_refused _ _ _ _ c.check_table.ensures (err_stopped _ _ c.in_err-check_table.was))

pub resources-r-requires : goal.resources-r-requires
resources-r-requires c = sized _ [] [] _ c.check_table.ensures (ok_passed _ _ c.in_ok-check_table.was)

pub devices-d-requires : goal.devices-d-requires
devices-d-requires c = sized _ [] [] _ c.check_table.ensures (ok_passed _ _ c.in_ok-check_table.was)

pub returns-then-not-room : goal.returns-then-not-room
returns-then-not-room c =
    describe_short _ c.args.resources.now c.args.devices.now _ c.check_table.ensures (ok_passed _ _ c.in_ok-check_table.was) _ _
    c.resources-r.ensures.0 c.devices-d.ensures.0 (ap not c.if-not-room.true)

pub slice_bounds-copy-end : goal.slice_bounds-copy-end
slice_bounds-copy-end c =
    part_inside _ [] [] _ c.check_table.ensures (ok_passed _ _ c.in_ok-check_table.was) _ _
    c.resources-r.ensures.0 c.devices-d.ensures.0

pub describe_devices-requires : goal.describe_devices-requires
describe_devices-requires c =
    devices_have_room _ c.args.resources.now c.args.devices.now _ c.check_table.ensures (ok_passed _ _ c.in_ok-check_table.was) _ _
    c.resources-r.ensures.0 c.devices-d.ensures.0 (ap not c.if-not-room.false) _ (search rules)

pub returns : goal.returns
returns c =
    describe_done _ _ _ _ c.check_table.ensures (ok_passed _ _ c.in_ok-check_table.was) _ _
    c.resources-r.ensures.0 c.devices-d.ensures.0 (ap not c.if-not-room.false) _ _ c.copy.ensures
    c.describe_devices.ensures
