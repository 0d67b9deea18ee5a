use Rattle.status.proofs.Keeps.{wake_unarmed, wake_illegal, wake_legal, keep_laws}
use borrow.Author.Rules.{rules}
use Rattle.status.proofs.consistency.wake_consistent.Goals as goal

pub returns-then-devices-armed-ne1 : goal.returns-then-devices-armed-ne1
returns-then-devices-armed-ne1 c = wake_unarmed _ _ _ (search rules) (search rules) (search rules)

pub wake_pair-requires : goal.wake_pair-requires
wake_pair-requires c = search (rules, keep_laws)

pub returns-else-wake_pair : goal.returns-else-wake_pair
returns-else-wake_pair c =
    wake_illegal _ _ _ (search rules) (search rules) c.entry-e.result
    c.wake_pair.result (search rules) (search rules) (search rules) (search rules)

pub returns-then-wake_pair : goal.returns-then-wake_pair
returns-then-wake_pair c =
    wake_legal _ _ _ (search rules) (search rules) c.entry-e.result
    c.wake_pair.result (search rules) (search rules) (search rules) (search rules)
