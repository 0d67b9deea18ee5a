use Rattle.sailgarnet.proofs.Numbers.{check_bring_up_fits, fits, packs}
use borrow.Author.Rules.{rules}
use Rattle.sailgarnet.proofs.sailgarnet_check_bring_up.Goals as goal

-- The packed answer of the checker of bring-up on bytes.
pub pack-requires : goal.pack-requires
pack-requires c = fits _ _ c.check_bring_up_bytes.ensures.answer (check_bring_up_fits _ _ _)

pub returns : goal.returns
returns c = record { answer = packs _ _ _ c.check_bring_up_bytes.ensures.answer c.pack.ensures; checked = search rules }
