use Rattle.words.proofs.Put.{Emitted}
use Rattle.rules.specs.Index.{join}
use Rattle.writer.proofs.Lists.{described}
use Rattle.writer.proofs.describe.describe_devices.Given as goal

abbrev pub invariant-loop-d : goal.invariant-loop-d
invariant-loop-d l = Emitted l.initial.out 0 (join (described l.table) l.d) l.out l.p
