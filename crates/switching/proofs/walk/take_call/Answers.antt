use Rattle.switching.proofs.Walks.{own_call_lem}
use borrow.Author.Rules.{rules}
use Rattle.switching.proofs.walk.take_call.Goals as goal

pub returns-in_err-word : goal.returns-in_err-word
returns-in_err-word c = search (rules, own_call_lem)

pub returns-then-not-says : goal.returns-then-not-says
returns-then-not-says c = let l = c.in_ok-word.ensures.cases.0 in search (rules, own_call_lem)

pub returns : goal.returns
returns c = let l = c.in_ok-word.ensures.cases.0 in search (rules, own_call_lem)
