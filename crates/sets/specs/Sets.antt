-- Sets of power resources as one number: resource r is in the set s where bit r of s is 1.
-- No definition speaks of a width, so each law holds at 32 bits, at 64 and at any other; a width w enters only as the bound s < 2 ^ w.
use Rattle.std.specs.Prelude.{ℕ, ◌-◌, ◌/◌, ◌%◌, ◌^◌, ◌<◌, ◌≡◌, Bool, true, false, eqb}
use Rattle.std.specs.Int.Bits.{bit_and, bit_or, bit_xor}

-- resource r is in s
unfoldable pub member : ℕ → ℕ → Bool
member s r = eqb (s / 2 ^ r % 2) 1

-- what is in a or in b
unfoldable pub union : ℕ → ℕ → ℕ
union a b = bit_or a b

-- what is in a and not in b
unfoldable pub minus : ℕ → ℕ → ℕ
minus a b = bit_xor a (bit_and a b)

-- r alone
unfoldable pub single : ℕ → ℕ
single r = 2 ^ r

-- the n resources 0 to n - 1
unfoldable pub first_n : ℕ → ℕ
first_n n = 2 ^ n - 1

-- all of a is in b
unfoldable pub subset : ℕ → ℕ → Bool
subset a b = eqb (minus a b) 0

-- r is the lowest member of s
pub record Lowest (s r : ℕ) : Type 0 where
  pub inside : member s r ≡ true
  pub rest : (k : ℕ) → k < r → member s k ≡ false

-- r is the highest member of s
pub record Highest (s r : ℕ) : Type 0 where
  pub inside : member s r ≡ true
  pub rest : (k : ℕ) → r < k → member s k ≡ false
