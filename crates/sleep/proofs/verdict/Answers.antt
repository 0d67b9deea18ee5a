use Rattle.request.proofs.Rules.{byte_below}
use Rattle.sleep.proofs.Verdicts.{form_small, answers, lefts}
use borrow.Author.Rules.{rules}
use Rattle.sleep.proofs.verdict.Goals as goal

-- 10, 20 and 21 in turn; where they pass, the least choice stands in the lent bytes.
pub returns-then-not-form_good : goal.returns-then-not-form_good
returns-then-not-form_good c = (search (rules, answers), search (rules, lefts))

pub overflow_cast-x : goal.overflow_cast-x
overflow_cast-x c = search (rules, form_small, byte_below)

pub returns-in-Some : goal.returns-in-Some
returns-in-Some c = (search (rules, answers), search (rules, lefts))

pub choose-requires : goal.choose-requires
choose-requires c = (search rules, search rules, search (rules, form_small))

pub returns-then-not-has_choice : goal.returns-then-not-has_choice
returns-then-not-has_choice c = (search (rules, answers), search (rules, lefts))

pub returns : goal.returns
returns c = (search (rules, answers), search (rules, lefts))
