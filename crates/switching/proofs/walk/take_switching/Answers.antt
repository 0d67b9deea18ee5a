use Rattle.rules.specs.Check.{and_then}
use Rattle.switching.specs.Phases.{take_switching}
use Rattle.switching.proofs.walk.take_switching.Goals as goal

-- Each step goes on with what the step before it has left.
pub returns-in_err-switches : goal.returns-in_err-switches
unfolding take_switching and_then
returns-in_err-switches c = rw (c.from_residual.ensures, ← c.in_err-switches.ensures)

pub returns-in_err-end : goal.returns-in_err-end
unfolding take_switching and_then
returns-in_err-end c = rw (c.from_residual-in_err-end.ensures, ← c.in_ok-switches.ensures, ← c.in_err-end.ensures)

pub returns : goal.returns
unfolding take_switching and_then
returns c = rw (← c.in_ok-switches.ensures, ← c.in_ok-end.ensures) c.take_own-2.ensures
