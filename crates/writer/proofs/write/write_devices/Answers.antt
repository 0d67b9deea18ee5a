use Rattle.writer.proofs.Lists.{writing}
use borrow.Author.Rules.{rules}
use Rattle.writer.proofs.write.write_devices.Goals as goal

pub loop-d-init : goal.loop-d-init
loop-d-init c = search (rules, writing)

pub write_record-requires : goal.write_record-requires
write_record-requires c = search (rules, writing)

pub overflow_add-p : goal.overflow_add-p
overflow_add-p c = search (rules, writing)

pub loop-d-preserved : goal.loop-d-preserved
loop-d-preserved c = search (rules, writing)
