use borrow.Author.Rules.{rules}
use Rattle.status.proofs.Loops.{looks}
use Rattle.status.proofs.Walk.{walks}
use Rattle.status.proofs.Keeps.{turn_laws}
use Rattle.status.proofs.consistency.consistency.Goals as goal

pub loop-d-init : goal.loop-d-init
loop-d-init c = search (rules, looks, turn_laws, walks)

pub overflow_add-at : goal.overflow_add-at
overflow_add-at c = search (rules, walks)

pub consistent-requires : goal.consistent-requires
consistent-requires c = search (rules, walks)

pub returns-then-not-consistent : goal.returns-then-not-consistent
returns-then-not-consistent c = search (rules, turn_laws)

pub loop-d-preserved : goal.loop-d-preserved
loop-d-preserved c = search (rules, looks, walks)

pub returns : goal.returns
returns c = search (rules, turn_laws)

pub invariant_of-record : goal.invariant_of-record
invariant_of-record c = search (rules, walks)

pub invariant_of-consistent : goal.invariant_of-consistent
invariant_of-consistent c = record { there = search (rules, walks) }
