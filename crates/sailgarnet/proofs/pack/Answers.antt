use mathlib.Core.Path.{◌∙◌}
use Rattle.sailgarnet.proofs.Numbers.{pack_is}
use Rattle.sailgarnet.proofs.pack.Goals as goal

-- The three parts, added up.
pub returns : goal.returns
returns c = pack_is _ _ _ _ (c.from-number.ensures ∙ c.number.ensures) c.count-count.ensures c.place-place.ensures c.requires.0
