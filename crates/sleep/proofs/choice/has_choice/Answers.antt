use lib.Dec.{ltb}
use Rattle.std.proofs.Common.{rules}
use Rattle.request.proofs.Find.{all_bytes}
use Rattle.sleep.proofs.choice.has_choice.Goals as goal

pub returns : goal.returns
returns c = all_bytes (λ y. ltb y 5) _ _ _ _ _ _ c.all.ensures.ran (search rules) c.requires.1 (λ x b q k. (search rules, search rules))
