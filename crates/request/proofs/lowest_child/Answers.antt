use mathlib.Core.Path.{refl}
use Rattle.std.proofs.Common.{rules}
use Rattle.request.proofs.Find.{find_below}
use Rattle.request.proofs.lowest_child.Goals as goal

pub returns : goal.returns
returns c = find_below _ _ _ _ _ _ c.find.ensures.ran c.devices-n.ensures.0 (λ x b q k. (search rules, search rules)) refl
