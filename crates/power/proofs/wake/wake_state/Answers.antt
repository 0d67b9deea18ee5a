use Rattle.table.proofs.Readers.{field_in_at}
use Rattle.power.proofs.WakeLaws.{wake_laws}
use borrow.Author.Rules.{rules}
use Rattle.power.proofs.wake.wake_state.Goals as goal

pub returns-then-not-supported : goal.returns-then-not-supported
returns-then-not-supported c = search (rules, wake_laws, field_in_at (λ v. v.sxd), field_in_at (λ v. v.sxw))

pub returns : goal.returns
returns c = search (rules, wake_laws, field_in_at (λ v. v.sxd), field_in_at (λ v. v.sxw))
