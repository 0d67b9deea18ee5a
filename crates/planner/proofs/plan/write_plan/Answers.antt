use Rattle.planner.proofs.Whole.{writing, plan_written}
use borrow.Author.Rules.{rules}
use Rattle.planner.proofs.plan.write_plan.Goals as goal

pub on_set-on-requires : goal.on_set-on-requires
on_set-on-requires c = search (rules, writing)

pub change-c-requires : goal.change-c-requires
change-c-requires c = search (rules, writing)

pub write_calls-count-requires : goal.write_calls-count-requires
write_calls-count-requires c = search (rules, writing)

pub set_entry-requires : goal.set_entry-requires
set_entry-requires c = search (rules, writing)

-- The change, the calls and the new state, each from the one before.
-- the values are too many for a search: each is named by the call that gave it, from the last one back
pub returns : goal.returns
returns c =
    plan_written _ _ _ _ _ _ _ _ c.set_entry.ensures _ c.change-c.ensures.0 c.on_set-on.ensures
    c.write_calls-count.ensures.0 c.write_calls-count.ensures.1
