use Rattle.bench.specs.Script.{number_at}
use borrow.Author.Rules.{rules}
use Rattle.bench.proofs.script.number.Goals as goal

pub returns : goal.returns
unfolding number_at
returns c = search rules
