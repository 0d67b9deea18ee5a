use borrow.Author.Rules.{rules}
use Rattle.sets.proofs.Machine.{shl_single}
use Rattle.sets.proofs.single.Goals as goal

-- `1 << r` loses no bit below 64.
pub returns : goal.returns
returns c = shl_single 64 c.args.r (search rules)
