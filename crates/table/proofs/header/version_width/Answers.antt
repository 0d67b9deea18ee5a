use Rattle.table.proofs.Front.{header_laws}
use borrow.Author.Rules.{rules}
use Rattle.table.proofs.header.version_width.Goals as goal

pub returns-then-version-eq2 : goal.returns-then-version-eq2
returns-then-version-eq2 c = (search (rules, header_laws), search (rules, header_laws))

pub returns : goal.returns
returns c = (search (rules, header_laws), search (rules, header_laws))
