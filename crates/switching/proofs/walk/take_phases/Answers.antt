use Rattle.rules.specs.Check.{and_then}
use Rattle.switching.specs.Phases.{take_phases}
use Rattle.switching.proofs.walk.take_phases.Goals as goal

-- The second phase goes on with what the first has left.
pub returns-in_err-offs : goal.returns-in_err-offs
unfolding take_phases and_then
returns-in_err-offs c = rw (c.from_residual.ensures, ← c.in_err-offs.ensures)

pub returns : goal.returns
unfolding take_phases and_then
returns c = rw (← c.in_ok-offs.ensures) c.take_phase-2.ensures
