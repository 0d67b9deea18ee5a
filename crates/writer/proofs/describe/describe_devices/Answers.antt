use Rattle.writer.proofs.Lists.{describing, all_described}
use Rattle.laws.proofs.Joined.{joined_loop}
use borrow.Author.Rules.{rules}
use Rattle.writer.proofs.describe.describe_devices.Goals as goal

pub loop-d-init : goal.loop-d-init
loop-d-init c = search (rules, describing)

pub write-requires : goal.write-requires
write-requires c = search (rules, describing)

pub overflow_add-p : goal.overflow_add-p
overflow_add-p c = search (rules, describing)

pub loop-d-preserved : goal.loop-d-preserved
loop-d-preserved c = search (rules, describing)

pub returns : goal.returns
returns c = all_described _ _ _ (search (rules, joined_loop))
