use Rattle.table.proofs.Readers.{field_in_at}
use borrow.Author.Rules.{rules}
use Rattle.power.proofs.StateLaws.{set_laws}
use Rattle.power.proofs.own_set.Goals as goal

pub returns-then-bit : goal.returns-then-bit
returns-then-bit c = search (rules, set_laws, field_in_at (λ v. v.sets))

pub returns : goal.returns
returns c = search (rules, set_laws)
