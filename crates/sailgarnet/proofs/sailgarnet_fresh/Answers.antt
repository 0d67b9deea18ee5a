use Rattle.sailgarnet.proofs.Numbers.{fresh_fits, fits, packs}
use borrow.Author.Rules.{rules}
use Rattle.sailgarnet.proofs.sailgarnet_fresh.Goals as goal

-- The packed answer of a fresh state.
pub pack-requires : goal.pack-requires
pack-requires c = fits _ _ c.fresh.ensures.0 (fresh_fits _ _)

pub returns : goal.returns
returns c = record { answer = packs _ _ _ c.fresh.ensures.0 c.pack.ensures; state = search rules }
