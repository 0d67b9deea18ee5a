use Rattle.bringup.proofs.Whole.{switch_laws, added_small, removed_small, switches_room, up_written}
use borrow.Author.Rules.{rules}
use Rattle.bringup.proofs.bring_up.write_bring_up.Goals as goal

pub needed-target-requires : goal.needed-target-requires
needed-target-requires c = search (rules, switch_laws)

pub switching-c-requires : goal.switching-c-requires
switching-c-requires c = search (rules, switch_laws)

-- What is to be switched, its calls and the new on-set, each from the one before.
-- the values are too many for a search: each is named by the call that gave it, from the last one back
pub write_switches-count-requires : goal.write_switches-count-requires
write_switches-count-requires c =
    let given = c.requires.0 in
    let h = c.on_set-on.ensures in
    let n = c.needed-target.ensures in
    let e = c.switching-c.ensures in (
      given.sized,
      added_small _ _ _ _ h n _ e given,
      removed_small _ _ _ _ h n _ e given,
      switches_room _ _ _ _ h n _ e given _ c.requires.1,
    )

pub returns : goal.returns
returns c =
    up_written _ _ _ _ c.on_set-on.ensures c.needed-target.ensures _ c.switching-c.ensures _ _ _ _ c.write_switches-count.ensures.0
    c.write_switches-count.ensures.1 c.set_on.ensures
