use Rattle.std.proofs.Common.{rules, tests}
use Rattle.rules.specs.Sleep.{sxd_allows}
use Rattle.table.proofs.Readers.{field_in_at}
use Rattle.sleep.proofs.choice.shallowest_of_sxd.Goals as goal

pub returns-then-least : goal.returns-then-least
unfolding sxd_allows
returns-then-least c = search (rules, tests, field_in_at (λ v. v.sxd))

pub returns-else-least : goal.returns-else-least
unfolding sxd_allows
returns-else-least c = search (rules, tests, field_in_at (λ v. v.sxd))
