-- The two words that switch a resource as one thing, with a flag.
use Rattle.std.specs.Prelude.{ℕ, Bool, cond}
use Rattle.rules.specs.Check.{on_word, off_word}

-- the word that turns a resource off, or on
unfoldable pub switch_word : Bool → ℕ → ℕ
switch_word off r = cond off (off_word r) (on_word r)
