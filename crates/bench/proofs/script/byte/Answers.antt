use Rattle.bench.specs.Script.{byte_at}
use borrow.Author.Rules.{rules}
use Rattle.bench.proofs.script.byte.Goals as goal

pub returns : goal.returns
unfolding byte_at
returns c = search rules
