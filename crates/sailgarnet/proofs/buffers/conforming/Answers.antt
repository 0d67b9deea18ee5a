use Rattle.sailgarnet.proofs.Outer.{request_short, of_bytes_is}
use borrow.Author.Rules.{rules}
use Rattle.sailgarnet.proofs.buffers.conforming.Goals as goal

pub returns : goal.returns
returns c = of_bytes_is _ _ _ _ (request_short _ _ _ c.requires) (λ ws r e. search rules) c.on_words.ensures
