use Rattle.table.proofs.Readers.{field_in}
use Rattle.power.proofs.WakeLaws.{wake_laws}
use borrow.Author.Rules.{rules}
use Rattle.power.proofs.wake.wake_from.Goals as goal

pub returns-then-has_prw : goal.returns-then-has_prw
returns-then-has_prw c = search (rules, wake_laws, field_in (λ v. v.deepest))

pub returns-else-has_prw : goal.returns-else-has_prw
returns-else-has_prw c = search (rules, wake_laws, field_in (λ v. v.deepest))
