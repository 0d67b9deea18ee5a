use Rattle.bringup.proofs.Whole.{switch_laws}
use borrow.Author.Rules.{rules}
use Rattle.bringup.proofs.check.conforming.Goals as goal

pub needed-target-requires : goal.needed-target-requires
needed-target-requires c = search (rules, switch_laws)

pub switching-c-requires : goal.switching-c-requires
switching-c-requires c = search (rules, switch_laws)

pub walk_phases-requires : goal.walk_phases-requires
walk_phases-requires c = search (rules, switch_laws)

pub returns : goal.returns
returns c = search (rules, switch_laws)
