use borrow.Author.Rules.{rules}
use Rattle.status.proofs.Ranges.{armed_told}
use Rattle.status.proofs.values.armed_good.Goals as goal

pub returns : goal.returns
returns c = search (rules, armed_told)
