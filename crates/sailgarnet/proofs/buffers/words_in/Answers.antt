use mathlib.Core.Path.{◌∙◌}
use borrow.Author.Tests.{eq-eqb, ne_eqb}
use Rattle.sailgarnet.proofs.Outer.{count_is}
use Rattle.sailgarnet.proofs.buffers.words_in.Goals.{then-bytes-eq0, else-bytes-eq0}
use Rattle.sailgarnet.proofs.buffers.words_in.Goals as goal

pub returns : goal.returns
returns c =
    count_is _ _ _ c.then_some.ensures
    (elim c.if-bytes-eq0.branch [
      | then-bytes-eq0 w ↦ rw (eq-eqb _ 0 w.if-bytes-eq0.true) w.then_some-is
      | else-bytes-eq0 w ↦ let no = ne_eqb _ 0 w.if-bytes-eq0.false in rw no (w.then_some-is ∙ no)
    ])
