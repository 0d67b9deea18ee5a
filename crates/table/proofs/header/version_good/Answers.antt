use Rattle.table.proofs.Front.{header_laws}
use borrow.Author.Rules.{rules}
use Rattle.table.proofs.header.version_good.Goals as goal

pub returns : goal.returns
returns c = search (rules, header_laws)
