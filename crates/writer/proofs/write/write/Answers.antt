use Rattle.rules.proofs.Answers.{ok_passed}
use Rattle.writer.proofs.Whole.{devices_ask, write_arms}
use borrow.Author.Rules.{rules}
use Rattle.writer.proofs.write.write.Goals as goal

-- The checks decide; then three runs make the table.
pub write_header-requires : goal.write_header-requires
write_header-requires c = search (rules, write_arms)

pub copy-requires : goal.copy-requires
copy-requires c = search (rules, write_arms)

pub write_devices-requires : goal.write_devices-requires
write_devices-requires c =
    devices_ask _ _ _ c.args.table.now _ c.verdict.ensures (search (rules, ok_passed)) _ _ _
    c.resources-r.ensures c.devices-d.ensures c.version_width-w.ensures.0 _ c.write_header.ensures _
    c.copy.ensures c.version_width-w.ensures.1

pub returns : goal.returns
returns c = search (rules, write_arms)
