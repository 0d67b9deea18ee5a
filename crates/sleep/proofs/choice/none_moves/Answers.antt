use mathlib.Core.Path.{refl}
use Rattle.std.proofs.Common.{rules}
use Rattle.request.proofs.Find.{all_below}
use Rattle.sleep.proofs.choice.none_moves.Goals as goal

pub returns : goal.returns
returns c = all_below _ _ _ _ _ _ c.all.ensures.ran c.devices-n.ensures.0 (λ x b q k. (search rules, search rules)) refl
