use Rattle.table.proofs.Verdicts.{sized_told, long_told, version_told, record_part_lem}
use borrow.Author.Rules.{rules}
use Rattle.table.proofs.record.Goals as goal

pub returns-then-not-accepted : goal.returns-then-not-accepted
returns-then-not-accepted c = search (rules, record_part_lem)

pub devices-requires : goal.devices-requires
devices-requires c = search sized_told

pub returns-then-d-devices : goal.returns-then-d-devices
returns-then-d-devices c = search (rules, record_part_lem)

-- refuse bytes and numbers past D have no record; else the part is the device's own bytes.
pub start-at-requires : goal.start-at-requires
start-at-requires c = (search sized_told, search rules)

pub width-requires : goal.width-requires
width-requires c = search (rules, long_told, version_told)

pub returns : goal.returns
returns c = search (rules, record_part_lem)
