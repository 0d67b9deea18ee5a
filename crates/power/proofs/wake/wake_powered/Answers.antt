use Rattle.table.proofs.Readers.{field_in_at}
use borrow.Author.Rules.{rules}
use Rattle.power.proofs.WakeLaws.{wake_set}
use Rattle.power.proofs.wake.wake_powered.Goals as goal

pub returns : goal.returns
returns c = search (rules, wake_set, field_in_at (λ v. v.sets))
