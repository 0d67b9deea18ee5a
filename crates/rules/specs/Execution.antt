-- RULES.md 8.1, the execution of a list. All it keeps is a set of resources; it knows no table, no request and no answer.
use Rattle.std.specs.Prelude.{ℕ, ◌/◌, ◌%◌, Bool, true, false, cond, ◌&&◌, List, [], ◌∷◌, eqb}

-- one word, read by its bytes: 1, r, 0, 0 puts r in, 2, r, 0, 0 takes r out, any other leaves the set
unfoldable pub carry_out : (ℕ → Bool) → ℕ → ℕ → Bool
carry_out on w r =
    cond (eqb (w / 0x1_0000) 0 && eqb (w / 0x100 % 0x100) r) (cond (eqb (w % 0x100) 1) true (cond (eqb (w % 0x100) 2) false (on r))) (on r)

-- the words, first to last; each finds the set as the one before left it
unfoldable pub execution : (ℕ → Bool) → List ℕ → ℕ → Bool
execution on [] = on
execution on (w ∷ ws) = execution (carry_out on w) ws
