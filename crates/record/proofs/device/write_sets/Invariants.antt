use Rattle.words.proofs.Put.{Emitted}
use Rattle.rules.specs.Index.{join}
use Rattle.record.proofs.Values.{set_bytes}
use Rattle.record.proofs.device.write_sets.Given as goal

abbrev pub invariant-loop-s : goal.invariant-loop-s
invariant-loop-s l = Emitted l.initial.out l.at (join (set_bytes l.w l.fn.sets) l.s-index) l.out l.p
