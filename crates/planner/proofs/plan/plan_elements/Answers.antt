use Rattle.rules.proofs.Answers.{ok_passed, err_stopped, handed_on}
use Rattle.table.proofs.Verdicts.{table_passed}
use Rattle.switching.proofs.Answered.{parts}
use Rattle.planner.proofs.Choices.{no_table}
use Rattle.rules.specs.Kinds.{kind_of}
use borrow.Author.Rules.{rules}
use Rattle.planner.proofs.plan.plan_elements.Goals as goal

pub returns-in_err-check_table : goal.returns-in_err-check_table
returns-in_err-check_table g c =
    rw (handed_on _ _ _ c.in_err-check_table.was c.from_residual.ensures.1)
    (parts (no_table _ _ _ _ _ _ _ c.check_table.ensures (err_stopped _ _ c.in_err-check_table.was)))

-- Kind 4 is sleep entry; every other number is for the checks of requests.
pub sleep_elements-requires : goal.sleep_elements-requires
unfolding kind_of
sleep_elements-requires g c =
    let good = table_passed _ _ c.check_table.ensures (ok_passed _ _ c.in_ok-check_table.was) in
    (search rules, good)

pub request_elements-requires : goal.request_elements-requires
unfolding kind_of
request_elements-requires g c =
    let good = table_passed _ _ c.check_table.ensures (ok_passed _ _ c.in_ok-check_table.was) in
    (search rules, good)
