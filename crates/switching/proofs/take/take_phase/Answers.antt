use Rattle.switching.proofs.Phase.{phases}
use borrow.Author.Rules.{rules}
use Rattle.switching.proofs.take.take_phase.Goals as goal

pub returns-in_err-word : goal.returns-in_err-word
returns-in_err-word c = search (rules, phases)

pub returns-in_err-switched : goal.returns-in_err-switched
returns-in_err-switched c =
    let todo = rw c.in_ok-word.ensures.cases.0 at c.loop-left.invariant.2 in
    rw c.from_residual-in_err-switched.ensures (search (rules, phases, c.in_err-switched.ensures))

pub returns-then-not-comes_next : goal.returns-then-not-comes_next
returns-then-not-comes_next c =
    let todo = rw c.in_ok-word.ensures.cases.0 at c.loop-left.invariant.2 in
    search (rules, phases, c.in_ok-switched.ensures, c.if-not-comes_next.ensures)

pub without-left-requires : goal.without-left-requires
without-left-requires c = search (rules, phases, c.if-not-comes_next.ensures)

pub loop-left-preserved : goal.loop-left-preserved
loop-left-preserved c =
    let todo = rw c.in_ok-word.ensures.cases.0 at c.loop-left.invariant.2 in
    search (rules, phases, c.in_ok-switched.ensures, c.if-not-comes_next.ensures)

pub returns : goal.returns
returns c = search (rules, phases)
