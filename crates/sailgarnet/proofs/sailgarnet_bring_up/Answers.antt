use Rattle.sailgarnet.proofs.Numbers.{bring_up_fits, fits, packs, bytes_brings}
use borrow.Author.Rules.{rules}
use Rattle.sailgarnet.proofs.sailgarnet_bring_up.Goals as goal

-- The packed answer of bring-up on bytes.
pub pack-requires : goal.pack-requires
pack-requires c = fits _ _ c.bring_up_bytes.ensures.0 (bring_up_fits _ _ _)

pub returns : goal.returns
returns c =
    let brought = c.bring_up_bytes.ensures in
    let answer = packs _ _ _ brought.0 c.pack.ensures in
    record { answer = answer; state = search rules; plan = search rules; brings = bytes_brings _ _ _ _ _ _ answer.1 brought.1 brought.2 }
