use Rattle.sailgarnet.proofs.Outer.{bring_up_short, of_bytes_is}
use borrow.Author.Rules.{rules}
use Rattle.sailgarnet.proofs.buffers.conforming_to_bring_up.Goals as goal

pub returns : goal.returns
returns c = of_bytes_is _ _ _ _ (bring_up_short _ _ c.requires) (λ ws r e. search rules) c.on_words.ensures
