use Rattle.table.proofs.Readers.{field_in}
use Rattle.status.proofs.Keeps.{keep_laws}
use borrow.Author.Rules.{rules}
use Rattle.status.proofs.consistency.parent_allows.Goals as goal

pub returns-then-p : goal.returns-then-p
returns-then-p c = search (rules, keep_laws, field_in (λ v. v.parent))

pub entry-requires : goal.entry-requires
entry-requires c = rw c.from.ensures (search (rules, keep_laws, field_in (λ v. v.parent)))

pub returns-else-p : goal.returns-else-p
returns-else-p c = search (rules, keep_laws, field_in (λ v. v.parent))
