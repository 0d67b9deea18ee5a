use Rattle.table.proofs.Readers.{field}
use borrow.Author.Rules.{rules}
use Rattle.table.proofs.fields.parent.Goals as goal

pub returns : goal.returns
returns c = search (rules, field (λ v. v.parent))
