use Rattle.rules.proofs.Answers.{ok_passed, err_stopped, handed_on}
use Rattle.laws.proofs.Bytes.{demand3_bytes}
use Rattle.table.proofs.Verdicts.{table_passed}
use Rattle.request.proofs.Chain.{stop_table}
use Rattle.request.proofs.Changes.{permitted_by}
use Rattle.checker.proofs.Answer.{of_bytes_lem, bytes_refused}
use borrow.Author.Rules.{rules}
use Rattle.sailgarnet.proofs.buffers.check_bytes.Goals as goal

pub returns-in_err-check_table : goal.returns-in_err-check_table
returns-in_err-check_table c =
    let no = err_stopped _ _ c.in_err-check_table.was in
    rw (handed_on _ _ _ c.in_err-check_table.was c.from_residual.ensures.1)
    (record {
      answer = bytes_refused _ _ _ _ _ (stop_table _ _ c.check_table.ensures _ _ _ no) no;
      demand = demand3_bytes _ _ _ _;
    })

pub past_table-requires : goal.past_table-requires
past_table-requires c = table_passed _ _ c.check_table.ensures (ok_passed _ _ c.in_ok-check_table.was)

pub returns-in_err-past_table : goal.returns-in_err-past_table
returns-in_err-past_table c =
    let stop = err_stopped _ _ c.in_err-past_table.was in
    rw (handed_on _ _ _ c.in_err-past_table.was c.from_residual-in_err-past_table.ensures.1) (search (rules, of_bytes_lem, demand3_bytes))

pub conforming-requires : goal.conforming-requires
conforming-requires c = permitted_by _ _ _ _ _ c.past_table.ensures (ok_passed _ _ c.in_ok-past_table.was)

pub returns-then-not-conforming : goal.returns-then-not-conforming
returns-then-not-conforming c = let pass = ok_passed _ _ c.in_ok-past_table.was in search (rules, of_bytes_lem, demand3_bytes)

pub returns : goal.returns
returns c = let pass = ok_passed _ _ c.in_ok-past_table.was in search (rules, of_bytes_lem, demand3_bytes)
