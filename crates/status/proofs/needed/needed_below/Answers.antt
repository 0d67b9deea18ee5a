use borrow.Author.Rules.{rules}
use Rattle.status.proofs.Walk.{walks}
use Rattle.status.proofs.NeededLaws.{more_below, belows}
use Rattle.status.proofs.needed.needed_below.Goals as goal

pub loop-d-init : goal.loop-d-init
loop-d-init c = search (rules, belows, walks)

pub needs-requires : goal.needs-requires
needs-requires c = search (rules, walks)

pub overflow_add-at : goal.overflow_add-at
overflow_add-at c = search (rules, walks)

pub loop-d-preserved : goal.loop-d-preserved
loop-d-preserved c = (
  search (rules, walks),
  search rules,
  search rules,
  search rules,
  search (rules, belows),
  (let inv = c.loop-d.invariant in
      more_below _ _ _ _ _ _ _ _ inv.5 inv.0.sized (search rules) inv.1
      c.entry-e.ensures c.needs.ensures c.union-all.ensures),
)

pub returns : goal.returns
returns c = search (rules, belows)

pub invariant_of-record : goal.invariant_of-record
invariant_of-record c = search (rules, walks)

pub invariant_of-needs : goal.invariant_of-needs
invariant_of-needs c = record { there = search (rules, walks) }
