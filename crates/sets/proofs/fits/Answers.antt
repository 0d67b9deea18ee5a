use mathlib.Core.Path.{◌∙◌}
use borrow.Author.Rules.{rules}
use Rattle.sets.proofs.Machine.{shr_fits, past_fits}
use Rattle.sets.proofs.fits.Goals as goal

-- From 64 on every word fits, and below that what is shifted down is 0.
pub returns-then-n-ge64 : goal.returns-then-n-ge64
returns-then-n-ge64 c = search rules ∙ past_fits 64 c.args.s c.args.n (search rules) (search rules)

pub returns-else-n-ge64 : goal.returns-else-n-ge64
returns-else-n-ge64 c = shr_fits c.args.s c.args.n
