use Rattle.laws.proofs.BringUpLists.{bring_up_checked}
use Rattle.rules.proofs.Answers.{ok_passed, err_stopped, handed_on}
use Rattle.bringup.proofs.Whole.{passed_by, of_words}
use borrow.Author.Rules.{rules}
use Rattle.bringup.proofs.check.check_words.Goals as goal

pub returns-in_err-verdict : goal.returns-in_err-verdict
returns-in_err-verdict c =
    let stop = err_stopped _ _ c.in_err-verdict.was in
    rw (handed_on _ _ _ c.in_err-verdict.was c.from_residual.ensures.1) (search (rules, of_words, bring_up_checked))

pub conforming-requires : goal.conforming-requires
conforming-requires c = passed_by _ _ _ _ c.verdict.ensures (ok_passed _ _ c.in_ok-verdict.was)

pub returns-then-not-conforming : goal.returns-then-not-conforming
returns-then-not-conforming c = let pass = ok_passed _ _ c.in_ok-verdict.was in search (rules, of_words, bring_up_checked)

pub returns : goal.returns
returns c = let pass = ok_passed _ _ c.in_ok-verdict.was in search (rules, of_words, bring_up_checked)
