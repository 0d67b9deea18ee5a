-- The words of a list of bytes.
use Rattle.std.specs.Prelude.{ℕ, ◌≡◌, ◌/◌, ◌%◌, ◌&&◌, Bool, false, cond, eqb, leb, List, length}
use Rattle.std.specs.Prelude.{Option, Some, None}
use Rattle.words.specs.Words.{byte_words}

-- four bytes a word, and no more words than a plan of either version has
unfoldable pub words_in_bytes : ℕ → Option ℕ
words_in_bytes n = cond (eqb (n % 4) 0 && leb (n / 4) 65) (Some (n / 4)) None

-- r is what a test says of the words of a list of bytes; no, if it has none
pub record OnWords (says : List ℕ → Bool → Type 0) (list : List ℕ) (r : Bool) : Type 0 where
  pub words : (n : ℕ) → words_in_bytes (length list) ≡ Some n → says (byte_words n list) r
  pub none : words_in_bytes (length list) ≡ None → r ≡ false
