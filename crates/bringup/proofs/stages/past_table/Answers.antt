use Rattle.rules.proofs.Answers.{ok_passed, err_stopped, handed_on}
use Rattle.bringup.proofs.Whole.{in_turn}
use borrow.Author.Rules.{rules}
use Rattle.bringup.proofs.stages.past_table.Goals as goal

pub returns-in_err-check_but_power : goal.returns-in_err-check_but_power
returns-in_err-check_but_power c =
    let stop = err_stopped _ _ c.in_err-check_but_power.was in
    rw (handed_on _ _ _ c.in_err-check_but_power.was c.from_residual.ensures.1) (search (rules, in_turn))

pub returns-then-not-room : goal.returns-then-not-room
returns-then-not-room c = let pass-1 = ok_passed _ _ c.in_ok-check_but_power.was in search (rules, in_turn)

pub returns : goal.returns
returns c = let pass-1 = ok_passed _ _ c.in_ok-check_but_power.was in search (rules, in_turn)
