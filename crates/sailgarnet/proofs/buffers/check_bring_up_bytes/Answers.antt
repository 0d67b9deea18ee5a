use Rattle.rules.proofs.Answers.{ok_passed, err_stopped, handed_on}
use Rattle.laws.proofs.BringUpLists.{bring_up_checked_bytes}
use Rattle.table.proofs.Verdicts.{table_passed}
use Rattle.bringup.proofs.Whole.{stop_table, passed_by, of_bytes_lem, check_bytes_refused}
use borrow.Author.Rules.{rules}
use Rattle.sailgarnet.proofs.buffers.check_bring_up_bytes.Goals as goal

pub returns-in_err-check_table : goal.returns-in_err-check_table
returns-in_err-check_table c =
    let no = err_stopped _ _ c.in_err-check_table.was in
    rw (handed_on _ _ _ c.in_err-check_table.was c.from_residual.ensures.1)
    (record {
      answer = check_bytes_refused _ _ _ _ (stop_table _ _ _ _ c.check_table.ensures no) no;
      checked = bring_up_checked_bytes _ _ _;
    })

pub past_table-requires : goal.past_table-requires
past_table-requires c = table_passed _ _ c.check_table.ensures (ok_passed _ _ c.in_ok-check_table.was)

pub returns-in_err-past_table : goal.returns-in_err-past_table
returns-in_err-past_table c =
    let stop = err_stopped _ _ c.in_err-past_table.was in
    rw (handed_on _ _ _ c.in_err-past_table.was c.from_residual-in_err-past_table.ensures.1) (search (rules, of_bytes_lem, bring_up_checked_bytes))

pub conforming_to_bring_up-requires : goal.conforming_to_bring_up-requires
conforming_to_bring_up-requires c = passed_by _ _ _ _ c.past_table.ensures (ok_passed _ _ c.in_ok-past_table.was)

pub returns-then-not-conforming_to_bring_up : goal.returns-then-not-conforming_to_bring_up
returns-then-not-conforming_to_bring_up c = let pass = ok_passed _ _ c.in_ok-past_table.was in search (rules, of_bytes_lem, bring_up_checked_bytes)

pub returns : goal.returns
returns c = let pass = ok_passed _ _ c.in_ok-past_table.was in search (rules, of_bytes_lem, bring_up_checked_bytes)
