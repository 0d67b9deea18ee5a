use Rattle.table.proofs.Readers.{field_in}
use borrow.Author.Rules.{rules}
use Rattle.power.proofs.StateLaws.{bit_of}
use Rattle.power.proofs.has_prw.Goals as goal

pub returns : goal.returns
returns c = search (rules, bit_of, field_in (λ v. v.flags))
