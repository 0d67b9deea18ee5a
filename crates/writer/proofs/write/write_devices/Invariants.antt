use Rattle.words.proofs.Put.{Emitted}
use Rattle.rules.specs.Index.{join}
use Rattle.writer.proofs.Lists.{written}
use Rattle.writer.proofs.write.write_devices.Given as goal

abbrev pub invariant-loop-d : goal.invariant-loop-d
invariant-loop-d l = Emitted l.initial.table l.at (join (written l.w l.ds) l.d) l.table l.p
