use Rattle.table.proofs.Readers.{field_in_at}
use borrow.Author.Rules.{rules}
use Rattle.power.proofs.StateLaws.{set_laws, unarmed_needs}
use Rattle.power.proofs.wake_needs.Goals as goal

pub returns-then-e-ne1 : goal.returns-then-e-ne1
returns-then-e-ne1 c = unarmed_needs _ _ (search rules)

pub returns-then-has_prw : goal.returns-then-has_prw
returns-then-has_prw c = search (rules, set_laws, field_in_at (λ v. v.sets))

pub returns : goal.returns
returns c = search (rules, set_laws)
