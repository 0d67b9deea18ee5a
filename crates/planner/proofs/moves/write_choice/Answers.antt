use Rattle.planner.proofs.Choices.{entering, by_choice}
use borrow.Author.Rules.{rules}
use Rattle.planner.proofs.moves.write_choice.Goals as goal

pub none_moves-requires : goal.none_moves-requires
none_moves-requires g c = search (rules, entering)

-- Where none moves, the list is that of bring-up.
pub write_bring_up-requires : goal.write_bring_up-requires
write_bring_up-requires g c = (search (rules, entering), search (rules, entering))

pub returns-then-none_moves : goal.returns-then-none_moves
returns-then-none_moves g c = search (rules, by_choice)

pub returns : goal.returns
returns g c = search (rules, by_choice)
