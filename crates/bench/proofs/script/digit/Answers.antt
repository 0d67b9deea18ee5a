use native.Mathlib.Nat.{mod-lt}
use native.Mathlib.Omega.{arith}
use Rattle.bench.specs.Script.{digit_of}
use borrow.Author.Rules.{rules}
use Rattle.bench.proofs.script.digit.Goals as goal

-- The number of a digit, below 16.
pub returns : goal.returns
unfolding digit_of
returns c = (search rules, mod-lt _ (omega arith))
