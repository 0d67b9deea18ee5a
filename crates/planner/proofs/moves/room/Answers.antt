use Rattle.planner.proofs.Room.{product_4160, product_fits, product_is}
use borrow.Author.Rules.{rules}
use Rattle.planner.proofs.moves.room.Goals as goal

pub overflow_mul-result : goal.overflow_mul-result
overflow_mul-result c = search (rules, product_fits)

-- The product of two numbers of the table.
pub returns : goal.returns
returns c = (search (rules, product_is), search (rules, product_4160))
