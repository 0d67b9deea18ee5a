use mathlib.Core.Path.{refl}
use Rattle.sets.specs.Sets.{union}
use Rattle.sets.proofs.union.Goals as goal

pub returns : goal.returns
returns c = unfold union in refl
