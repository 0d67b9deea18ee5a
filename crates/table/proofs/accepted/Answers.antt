use mathlib.Core.Path.{ap, ◌∙◌}
use Rattle.rules.specs.Answers.{passes}
use Rattle.rules.proofs.Answers.{ok_passes}
use Rattle.table.proofs.accepted.Goals as goal

pub returns : goal.returns
returns c = c.is_ok.ensures.value ∙ ok_passes c.check_table.result ∙ ap passes c.check_table.ensures
