use Rattle.status.proofs.Written.{fresh_stored}
use borrow.Author.Rules.{rules}
use Rattle.status.proofs.image.write_fresh.Goals as goal

pub returns-then-width-eq8 : goal.returns-then-width-eq8
returns-then-width-eq8 c = search (rules, fresh_stored 8)

pub returns : goal.returns
returns c = search (rules, fresh_stored 4)
