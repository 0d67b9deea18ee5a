use Rattle.rules.proofs.Answers.{ok_passed, err_stopped, handed_on}
use Rattle.bringup.proofs.Whole.{in_turn}
use borrow.Author.Rules.{rules}
use Rattle.bringup.proofs.stages.verdict.Goals as goal

pub returns-in_err-check_table : goal.returns-in_err-check_table
returns-in_err-check_table c =
    let stop = err_stopped _ _ c.in_err-check_table.was in
    rw (handed_on _ _ _ c.in_err-check_table.was c.from_residual.ensures.1) (search (rules, in_turn))

pub past_table-requires : goal.past_table-requires
past_table-requires c = let pass-1 = ok_passed _ _ c.in_ok-check_table.was in search (rules, in_turn)
