use Rattle.sailgarnet.proofs.Numbers.{check_fits, fits, packs}
use borrow.Author.Rules.{rules}
use Rattle.sailgarnet.proofs.sailgarnet_check.Goals as goal

-- The packed answer of the checker on bytes.
pub pack-requires : goal.pack-requires
pack-requires c = fits _ _ c.check_bytes.ensures.answer (check_fits _ _ _ _)

pub returns : goal.returns
returns c = record { answer = packs _ _ _ c.check_bytes.ensures.answer c.pack.ensures; demand = search rules }
