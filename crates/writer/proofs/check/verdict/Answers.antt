use mathlib.Core.Path.{◌∙◌}
use Rattle.rules.proofs.Answers.{ok_passed, err_stopped, handed_on}
use Rattle.writer.proofs.Records.{write_answers}
use borrow.Author.Rules.{rules}
use Rattle.writer.proofs.check.verdict.Goals as goal

-- Each check that fails has the answer.
pub returns-in_err-check_records : goal.returns-in_err-check_records
returns-in_err-check_records c =
    handed_on _ _ _ c.in_err-check_records.was c.from_residual.ensures.1
    ∙ (let stop = err_stopped _ _ c.in_err-check_records.was in search (rules, write_answers))

pub returns : goal.returns
returns c = let pass = ok_passed _ _ c.in_ok-check_records.was in search (rules, write_answers)
