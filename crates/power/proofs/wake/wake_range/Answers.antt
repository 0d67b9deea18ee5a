use mathlib.Core.Logic.{⊎_elim}
use borrow.Author.Rules.{rules}
use Rattle.rules.specs.Index.{each_from}
use Rattle.rules.specs.Power.{wake_range}
use Rattle.power.proofs.RangeLaws.{outside_laws, looked_up, verdicts, digits, value}
use Rattle.power.proofs.wake.wake_range.Goals as goal

-- What the guard leaves out has no range; what is looked up is the verdict of the array.
pub returns-then-from-gt4 : goal.returns-then-from-gt4
returns-then-from-gt4 c =
    ⊎_elim
    (λ t. search (rules, outside_laws))
    (⊎_elim (λ t. search (rules, outside_laws)) (λ t. search (rules, outside_laws)))
    c.then-from-gt4.either

-- the prover computes all 150 verdicts by the wake range, and finds them in the array of the code
pub returns : goal.returns
unfolding verdicts digits each_from wake_range value
returns c = search (rules, looked_up)
