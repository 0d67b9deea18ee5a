use Rattle.request.proofs.Changes.{on_small}
use Rattle.checker.proofs.Answer.{test_is}
use borrow.Author.Rules.{rules}
use Rattle.checker.proofs.check.conforming.Goals as goal

pub change-c-requires : goal.change-c-requires
change-c-requires c = search (rules, on_small)

pub returns : goal.returns
returns c = search (rules, test_is)
