use Rattle.table.proofs.Readers.{field_in}
use borrow.Author.Rules.{rules}
use Rattle.power.proofs.StateLaws.{set_laws, d3cold_needs}
use Rattle.power.proofs.state_needs.Goals as goal

pub own_set-requires : goal.own_set-requires
own_set-requires c = search (rules, field_in (λ v. v.pr))

pub returns-then-x-lt3 : goal.returns-then-x-lt3
returns-then-x-lt3 c = search (rules, set_laws)

pub returns-then-x-gt3 : goal.returns-then-x-gt3
returns-then-x-gt3 c = d3cold_needs _ _ (search rules)

pub returns : goal.returns
returns c = search (rules, set_laws)
