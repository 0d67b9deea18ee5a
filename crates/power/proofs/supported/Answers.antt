use Rattle.power.proofs.StateLaws.{supported_laws}
use borrow.Author.Rules.{rules}
use Rattle.power.proofs.supported.Goals as goal

pub returns-in-0 : goal.returns-in-0
returns-in-0 c = search (rules, supported_laws)

pub returns-then-has_ps : goal.returns-then-has_ps
returns-then-has_ps c = search (rules, supported_laws)

pub returns-else-has_ps : goal.returns-else-has_ps
returns-else-has_ps c = search (rules, supported_laws)

pub returns-then-has_pr : goal.returns-then-has_pr
returns-then-has_pr c = search (rules, supported_laws)

pub returns-else-has_pr : goal.returns-else-has_pr
returns-else-has_pr c = search (rules, supported_laws)
