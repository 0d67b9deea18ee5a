-- What a line of the script says.
use Rattle.std.specs.Prelude.{ℕ, zero, suc, ◌+◌, ◌*◌, ◌/◌, ◌%◌, min, List, get_or, set}
use Rattle.rules.specs.declared.Request.{Request}
use Rattle.sailgarnet.specs.Packed.{asked}

-- the number of a digit: 0 to 9 stand below 64, a to f above
unfoldable pub digit_of : ℕ → ℕ
digit_of c = (c % 16 + 9 * (c / 64)) % 16

-- byte i of a line: after the letter, a space and two digits for each; zero past the end
unfoldable pub byte_at : List ℕ → ℕ → ℕ
byte_at l i = 16 * digit_of (get_or l (3 * i + 2) 0) + digit_of (get_or l (3 * i + 3) 0)

-- two bytes as a length or a place, the lower one and the higher one; at most so much
abbrev pub count_at : List ℕ → ℕ → ℕ → ℕ → ℕ
count_at l low high most = min (byte_at l low + 256 * byte_at l high) most

-- a number of a request: its byte, and its highest byte
unfoldable pub number_at : List ℕ → ℕ → ℕ → ℕ
number_at l at high = byte_at l at + 0x100_0000 * byte_at l high

abbrev pub request_at : List ℕ → ℕ → Request
request_at l high = asked (number_at l 0 high) (number_at l 1 (high + 1)) (number_at l 2 (high + 2)) (number_at l 3 (high + 3))

-- b with n bytes from `at` on: those of the line from its byte `from` on, again after each period, or on and on where it is zero
unfoldable pub filled : List ℕ → ℕ → List ℕ → ℕ → ℕ → ℕ → List ℕ
filled b at l from period zero = b
filled b at l from period (suc n) = set (filled b at l from period n) (at + n) (byte_at l (from + n % period))
