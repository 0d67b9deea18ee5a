-- RULES.md 9.3: an answer by value.
use Rattle.std.specs.Prelude.{ℕ, Result, Err}
use Rattle.rules.specs.declared.Reason.{Reason}
use Rattle.rules.specs.declared.Refusal.{Refusal}

-- done with a count, or a refusal
abbrev pub Verdict : Type 0
Verdict = Result ℕ Refusal

-- the refusal for a reason, with its place
abbrev pub refuse : Reason → ℕ → Verdict
refuse why at = Err (why, at)
