use Rattle.std.proofs.Common.{rules, tests}
use Rattle.table.proofs.Readers.{field_in}
use Rattle.sleep.proofs.Choosing.{parent_inside}
use Rattle.sleep.proofs.choice.shallowest_of_parent.Goals as goal

pub returns-then-p : goal.returns-then-p
returns-then-p c = search (rules, tests, field_in (λ v. v.parent))

pub bounds-chosen-from : goal.bounds-chosen-from
bounds-chosen-from c = rw c.from.ensures (search (rules, parent_inside, field_in (λ v. v.parent)))

pub returns-else-p : goal.returns-else-p
returns-else-p c = search (rules, tests, field_in (λ v. v.parent))
