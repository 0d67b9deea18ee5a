use mathlib.Core.Path.{◌≡◌, ◌∙◌}
use native.Mathlib.Omega.{arith}
use Rattle.words.specs.Words.{read_le}
use Rattle.words.proofs.Laws.{read_chunk}
use Rattle.words.proofs.read32.Goals as goal

pub returns : goal.returns
unfolding read_le
returns c =
    let b = c.unwrap-bytes.result in
    let number : c.from_le_bytes.result ≡ read_le 4 b 0 = omega arith in
    let there : c.from_le_bytes.result ≡ read_le 4 c.args.s.now c.args.at =
    number ∙ read_chunk 4 c.args.s.now b c.args.at c.requires (rw c.unwrap-bytes.ensures at c.try_into.ensures.1)
    in
    omega arith
