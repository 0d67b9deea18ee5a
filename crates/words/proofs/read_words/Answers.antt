use borrow.Author.Rules.{rules}
use Rattle.words.proofs.Loops.{reading}
use Rattle.words.proofs.read_words.Goals as goal

pub loop-i-init : goal.loop-i-init
loop-i-init c = search (rules, reading)

pub loop-i-preserved : goal.loop-i-preserved
loop-i-preserved c = search (rules, reading)
