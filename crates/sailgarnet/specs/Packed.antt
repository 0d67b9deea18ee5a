-- What the functions for C take and give: a request as four numbers (RULES.md 2.8), an answer as one (RULES.md 9.5).
use Rattle.std.specs.Prelude.{◌≡◌, ℕ, ◌+◌, ◌*◌, ◌/◌, ◌%◌}
use Rattle.rules.specs.declared.Request.{Request}
use Rattle.rules.specs.Verdict.{Verdict}
use Rattle.rules.specs.Answers.{number_of, place_of, count_of}

abbrev pub asked : ℕ → ℕ → ℕ → ℕ → Request
asked kind device a b = record { kind = kind; device = device; a = a; b = b }

-- number in bits 0 to 7, count in bits 8 to 23, place in bits 24 to 63
unfoldable pub packed : Verdict → ℕ
packed v = number_of v + 0x100 * count_of v + 0x100_0000 * place_of v

-- what the header's functions read from it
abbrev pub number_in : ℕ → ℕ
number_in r = r % 0x100

abbrev pub count_in : ℕ → ℕ
count_in r = r / 0x100 % 0x1_0000

abbrev pub place_in : ℕ → ℕ
place_in r = r / 0x100_0000

-- they read the answer's own number, count and place, none of them cut
pub record Reads (r : ℕ) (v : Verdict) : Type 0 where
  pub number : number_in r ≡ number_of v
  pub count : count_in r ≡ count_of v
  pub place : place_in r ≡ place_of v
