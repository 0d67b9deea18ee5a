-- Numbers in a list of bytes, the lowest byte first, and lists of 32-bit words as bytes.
use Rattle.std.specs.Prelude.{ℕ, zero, suc, ◌+◌, ◌*◌, ◌/◌, ◌%◌, List, [], ◌∷◌, ◌++◌, length, get_or, take, drop}

-- the number that the k bytes from `at` on make
unfoldable pub read_le : ℕ → List ℕ → ℕ → ℕ
read_le zero s at = 0
read_le (suc k) s at = get_or s at 0 + 256 * read_le k s (at + 1)

-- the k low bytes of x
unfoldable pub bytes_le : ℕ → ℕ → List ℕ
bytes_le zero x = []
bytes_le (suc k) x = x % 256 ∷ bytes_le k (x / 256)

-- d with ws in the place of as many elements from `at` on
unfoldable pub put : {A : Type 0} → List A → ℕ → List A → List A
put d at ws = take at d ++ ws ++ drop (at + length ws) d

-- words as bytes, four each
unfoldable pub word_bytes : List ℕ → List ℕ
word_bytes [] = []
word_bytes (w ∷ ws) = bytes_le 4 w ++ word_bytes ws

-- the first n words of a list of bytes
unfoldable pub byte_words : ℕ → List ℕ → List ℕ
byte_words zero s = []
byte_words (suc n) s = read_le 4 s 0 ∷ byte_words n (drop 4 s)
