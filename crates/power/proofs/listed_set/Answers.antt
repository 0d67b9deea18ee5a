use Rattle.table.proofs.Readers.{field_in, field_in_at}
use borrow.Author.Rules.{rules}
use Rattle.power.proofs.StateLaws.{listed_laws}
use Rattle.power.proofs.listed_set.Goals as goal

pub returns-then-bit : goal.returns-then-bit
returns-then-bit c = search (rules, listed_laws, field_in (λ v. v.pr), field_in_at (λ v. v.sets))

pub loop-k-preserved : goal.loop-k-preserved
loop-k-preserved c = search (rules, listed_laws, field_in (λ v. v.pr), field_in_at (λ v. v.sets))

pub own_set-requires : goal.own_set-requires
own_set-requires c = search (rules, field_in (λ v. v.pr))

pub returns : goal.returns
returns c = search (rules, listed_laws)
