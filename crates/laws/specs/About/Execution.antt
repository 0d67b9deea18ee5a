-- From the execution theorem and from a run of requests: no point of such a list, and no request of such a run, is wrong.
use Rattle.std.specs.Prelude.{ℕ, ◌<◌, ◌≡◌, Bool, true, false, List, ◌++◌, map, ◌≢◌, length, take}
use Rattle.rules.specs.Answers.{number_of}
use Rattle.rules.specs.Status.{state_verdict}
use Rattle.rules.specs.Check.{on_word, off_word}
use Rattle.rules.specs.Execution.{execution}
use Rattle.rules.specs.Outcomes.{fresh, plan_bytes}
use Rattle.laws.specs.Carried.{Carried}
use Rattle.laws.specs.Runs.{Turn, state_after_all, StaysConsistent}
use Rattle.laws.specs.About.Planner.{NotRefused}

-- words that are carried out, the ONs and OFFs between others
pub record NoWrongStep (start target : ℕ → Bool) (first ons offs last : List ℕ) (words : List ℕ) : Type 0 where
  -- what is off at some point, and was on at the start, is not of the target
  pub dropped : (n r : ℕ) → start r ≡ true → execution start (take n words) r ≡ false → target r ≡ false
  pub other_end : execution start words ≢ target → ⊥
  -- the set is another than at the start only after the first words, and another than the target only before the last
  pub changed : (n r : ℕ) → execution start (take n words) r ≢ start r → length first < n
  pub unfinished : (n r : ℕ) → execution start (take n words) r ≢ target r → n < length (first ++ map on_word ons ++ map off_word offs)

abbrev pub FromCarried : Type 0
FromCarried =
    (start target : ℕ → Bool) (first ons offs last : List ℕ) → Carried start target first ons offs last
    → NoWrongStep start target first ons offs last (first ++ map on_word ons ++ map off_word offs ++ last)

-- requests from a fresh state on
pub record NoWrongRun (t b : List ℕ) : Type 0 where
  -- the first request gets neither 7 nor 8
  pub first : NotRefused (number_of (state_verdict t (fresh t b).state))
  -- nor does one that follows a request after any run, whatever that request is, accepted or refused
  pub next : (rs : List Turn) (r : Turn)
      → NotRefused (number_of (state_verdict t (plan_bytes t (state_after_all t (fresh t b).state rs) r.request r.plan).state))

abbrev pub FromStaysConsistent : Type 0
FromStaysConsistent =
    (t b : List ℕ) → ((rs : List Turn) → StaysConsistent t b rs) → number_of (fresh t b).verdict ≡ 0 → NoWrongRun t b
