use borrow.Author.Rules.{rules}
use borrow.Author.Tests.{not-true, not-false}
use Rattle.laws.proofs.Every.{every_of}
use Rattle.status.proofs.values.first_good.Goals as goal

pub loop-k-init : goal.loop-k-init
loop-k-init c = search (rules, every_of)

pub returns-then-not-place_good : goal.returns-then-not-place_good
returns-then-not-place_good c = search (rules, every_of, not-true)

pub loop-k-preserved : goal.loop-k-preserved
loop-k-preserved c = search (rules, every_of, not-false)

pub returns : goal.returns
returns c = search (rules, every_of)
