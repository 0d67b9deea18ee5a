use Rattle.status.proofs.Written.{four_stores}
use lib.ListN.{length-set}
use borrow.Author.Rules.{rules}
use Rattle.status.proofs.state.write_entry.Goals as goal

pub bounds-devices-at-2 : goal.bounds-devices-at-2
bounds-devices-at-2 c = simp length-set (search rules)

pub bounds-devices-at-3 : goal.bounds-devices-at-3
bounds-devices-at-3 c = simp length-set (search rules)

pub bounds-devices-at-4 : goal.bounds-devices-at-4
bounds-devices-at-4 c = simp length-set (search rules)

pub returns : goal.returns
returns c = search (rules, four_stores)
