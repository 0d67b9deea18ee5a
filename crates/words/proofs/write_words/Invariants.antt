use Prim.Native.Nat.{◌+◌, ◌*◌}
use lib.ListN.{take}
use Rattle.words.specs.Words.{word_bytes}
use Rattle.words.proofs.Put.{Emitted}
use Rattle.words.proofs.write_words.Given as goal

abbrev pub invariant-loop-i : goal.invariant-loop-i
invariant-loop-i l = Emitted l.initial.out (4 * l.at) (word_bytes (take l.i l.from)) l.out (4 * (l.at + l.i))
