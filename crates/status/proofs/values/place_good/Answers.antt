use Rattle.status.proofs.Ranges.{range_laws}
use borrow.Author.Rules.{rules}
use Rattle.status.proofs.values.place_good.Goals as goal

pub returns-then-read32-le4 : goal.returns-then-read32-le4
returns-then-read32-le4 c = search (rules, range_laws)

pub returns-else-read32-le4 : goal.returns-else-read32-le4
returns-else-read32-le4 c = search (rules, range_laws)
