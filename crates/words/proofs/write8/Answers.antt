use Rattle.words.proofs.Put.{sets_put}
use mathlib.Core.List.{[], ◌∷◌}
use borrow.Author.Rules.{rules}
use Rattle.words.proofs.write8.Goals as goal

pub returns : goal.returns
returns c = sets_put _ _ (_ ∷ []) (search rules)
