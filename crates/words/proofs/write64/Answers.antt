use mathlib.Core.Path.{ap, ◌∙◌}
use Rattle.words.specs.Words.{put}
use Rattle.words.proofs.Laws.{le_bytes}
use Rattle.words.proofs.write64.Goals as goal

pub returns : goal.returns
returns c = c.copy.ensures ∙ ap (put c.args.s.now c.args.at) (c.to_le_bytes-bytes.ensures ∙ le_bytes 8 c.args.x)
