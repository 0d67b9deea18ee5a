use Rattle.sets.proofs.Laws.{first_n_lt}
use borrow.Author.Rules.{rules}
use Rattle.status.proofs.state.U32OnSet.first_n.Goals as goal

pub overflow_cast-result : goal.overflow_cast-result
overflow_cast-result c = search (rules, first_n_lt 32)
