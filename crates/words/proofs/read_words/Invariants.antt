use lib.ListN.{take}
use mathlib.Core.Path.{◌≡◌}
use Rattle.words.specs.Words.{byte_words}
use Rattle.words.proofs.read_words.Given as goal

abbrev pub invariant-loop-i : goal.invariant-loop-i
invariant-loop-i l = take l.i l.out ≡ byte_words l.i l.from
