use Rattle.rules.proofs.Answers.{ok_passed, err_stopped, handed_on}
use Rattle.request.proofs.Chain.{to_request}
use borrow.Author.Rules.{rules}
use Rattle.request.proofs.stages.past_table.Goals as goal

pub returns-in_err-check_state : goal.returns-in_err-check_state
returns-in_err-check_state c =
    let stop = err_stopped _ _ c.in_err-check_state.was in
    rw (handed_on _ _ _ c.in_err-check_state.was c.from_residual.ensures.1) (search (rules, to_request))

pub returns-then-not-room : goal.returns-then-not-room
returns-then-not-room c = let pass-1 = ok_passed _ _ c.in_ok-check_state.was in search (rules, to_request)

pub request_verdict-requires : goal.request_verdict-requires
request_verdict-requires c = let pass-1 = ok_passed _ _ c.in_ok-check_state.was in search (rules, to_request)

pub returns : goal.returns
returns c = let pass-1 = ok_passed _ _ c.in_ok-check_state.was in search (rules, to_request)
