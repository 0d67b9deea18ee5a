use borrow.Author.Rules.{rules}
use Rattle.status.proofs.Walk.{walks}
use Rattle.status.proofs.NeededLaws.{turns}
use Rattle.status.proofs.needed.needed_from.Goals as goal

pub loop-d-init : goal.loop-d-init
loop-d-init c = search (rules, walks)

pub needs-requires : goal.needs-requires
needs-requires c = search (rules, walks)

pub overflow_add-at : goal.overflow_add-at
overflow_add-at c = search (rules, walks)

pub loop-d-preserved : goal.loop-d-preserved
loop-d-preserved c = search (rules, turns, walks)

pub returns : goal.returns
returns c = search (rules, turns)

pub invariant_of-record : goal.invariant_of-record
invariant_of-record c = search (rules, walks)

pub invariant_of-needs : goal.invariant_of-needs
invariant_of-needs c = record { there = search (rules, walks) }
