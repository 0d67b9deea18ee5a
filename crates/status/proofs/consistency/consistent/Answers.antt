use Rattle.status.proofs.Keeps.{keep_laws}
use borrow.Author.Rules.{rules}
use Rattle.status.proofs.consistency.consistent.Goals as goal

pub returns-then-not-consistent_but_power : goal.returns-then-not-consistent_but_power
returns-then-not-consistent_but_power c = search (rules, keep_laws)

pub returns-in-Some : goal.returns-in-Some
returns-in-Some c = search (rules, keep_laws)

pub returns-in-None : goal.returns-in-None
returns-in-None c = search (rules, keep_laws)
