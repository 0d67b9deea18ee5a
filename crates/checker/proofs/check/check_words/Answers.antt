use Rattle.rules.proofs.Answers.{ok_passed}
use Rattle.request.proofs.Changes.{permitted_by}
use Rattle.checker.proofs.Answer.{word_arms}
use borrow.Author.Rules.{rules}
use Rattle.checker.proofs.check.check_words.Goals as goal

pub conforming-requires : goal.conforming-requires
conforming-requires c = permitted_by _ _ _ _ _ c.verdict.ensures (search (rules, ok_passed))

pub returns-then-not-conforming : goal.returns-then-not-conforming
returns-then-not-conforming c = search (rules, word_arms)

pub returns : goal.returns
returns c = search (rules, word_arms)
