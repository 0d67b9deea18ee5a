use Rattle.planner.proofs.OneMove.{one_move, chosen_needed}
use borrow.Author.Rules.{rules}
use Rattle.planner.proofs.moves.chosen_needs.Goals as goal

pub entry-e-requires : goal.entry-e-requires
entry-e-requires c = search (rules, one_move)

pub device-requires : goal.device-requires
device-requires c = search (rules, one_move)

pub returns : goal.returns
returns c =
    let z = c.device.ensures in
    chosen_needed _ _ _ _ _ _ c.requires c.entry-e.ensures (rw (z.table, z.number) at c.needs.ensures)
