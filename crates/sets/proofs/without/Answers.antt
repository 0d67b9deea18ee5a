use mathlib.Core.Path.{ap, ◌∙◌}
use Rattle.sets.specs.Sets.{minus}
use Rattle.sets.proofs.without.Goals as goal

-- One resource taken out.
pub returns : goal.returns
returns c = c.minus.ensures ∙ ap (minus c.args.s) c.single.ensures
