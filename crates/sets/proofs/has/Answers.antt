use mathlib.Core.Path.{◌∙◌, refl, sym}
use borrow.Author.Rules.{rules}
use borrow.Author.Tests.{le-ltb}
use Rattle.sets.specs.Sets.{member}
use Rattle.sets.proofs.Laws.{member_small}
use Rattle.sets.proofs.has.Goals as goal

-- Below 64 the test is `member` as it stands, and from 64 on a word has no member.
pub returns-then-r-lt64 : goal.returns-then-r-lt64
unfolding member
returns-then-r-lt64 c = refl

pub returns-else-r-lt64 : goal.returns-else-r-lt64
returns-else-r-lt64 c = le-ltb c.args.r 64 c.if-r-lt64.false ∙ sym (member_small 64 _ _ (search rules) (search rules))
