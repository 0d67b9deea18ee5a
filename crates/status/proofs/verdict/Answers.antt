use Rattle.rules.proofs.Answers.{ok_passed, err_stopped, handed_on}
use Rattle.status.proofs.Chains.{both_laws}
use borrow.Author.Rules.{rules}
use Rattle.status.proofs.verdict.Goals as goal

pub returns-in_err-check_table : goal.returns-in_err-check_table
returns-in_err-check_table c =
    let stop = err_stopped _ _ c.in_err-check_table.was in
    rw (handed_on _ _ _ c.in_err-check_table.was c.from_residual.ensures.1) (search (rules, both_laws))

pub check_state-requires : goal.check_state-requires
check_state-requires c = let pass = ok_passed _ _ c.in_ok-check_table.was in search (rules, both_laws)

pub returns : goal.returns
returns c = let pass = ok_passed _ _ c.in_ok-check_table.was in search (rules, both_laws)
