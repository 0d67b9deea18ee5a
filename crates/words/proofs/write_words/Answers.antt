use borrow.Author.Rules.{rules}
use Rattle.words.proofs.Loops.{writing}
use Rattle.words.proofs.write_words.Goals as goal

pub loop-i-init : goal.loop-i-init
loop-i-init c = search (rules, writing)

pub loop-i-preserved : goal.loop-i-preserved
loop-i-preserved c = search (rules, writing)
