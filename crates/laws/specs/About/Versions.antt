-- From the agreement of the two versions of table: of one description written in both, nothing that is asked gets two answers, and no run of
-- requests leads to states that differ.
use Rattle.std.specs.Prelude.{ℕ, ◌*◌, ◌≤◌, ◌≡◌, List, map, ◌≢◌, length, take}
use Rattle.rules.specs.declared.Request.{Request}
use Rattle.rules.specs.Verdict.{Verdict}
use Rattle.rules.specs.Answers.{count_of}
use Rattle.rules.specs.Status.{status_of}
use Rattle.rules.specs.Outcomes.{Outcome, list_room, plan_room, fresh, plan_words, plan_bytes, check_words, check_bytes}
use Rattle.rules.specs.BringUp.{bring_up_words, bring_up_bytes, check_bring_up_words, check_bring_up_bytes}
use Rattle.laws.specs.Inverse.{Makes}
use Rattle.laws.specs.Runs.{Turn, state_after_all}
use Rattle.laws.specs.Versions.{VersionsAgree}

-- an image of each version, and the whole status is the same
pub record OneState (b₁ b₂ : List ℕ) : Type 0 where
  pub first : length b₁ ≡ 132
  pub second : length b₂ ≡ 264
  pub whole : status_of 4 b₁ ≡ status_of 8 b₂

-- no answer of one is not that of the other
abbrev pub NoOther : Verdict → Verdict → Type 0
NoOther v₁ v₂ = (v : Verdict) → v₁ ≡ v → v₂ ≢ v → ⊥

-- what a planner gives with each table; as many words as the first counts are the same in both plans
pub record OneOutcome (size : ℕ) (o₁ o₂ : Outcome) : Type 0 where
  pub verdict : NoOther o₁.verdict o₂.verdict
  pub calls : take (size * count_of o₁.verdict) o₁.plan ≢ take (size * count_of o₁.verdict) o₂.plan → ⊥
  pub state : OneState o₁.state o₂.state

-- requests that are all lent one plan
abbrev pub lent_requests : List ℕ → List Request → List Turn
lent_requests plan = map (λ q. record { request = q; plan = plan })

pub record NoOtherAnswers (t₁ t₂ : List ℕ) : Type 0 where
  pub fresh : (b₁ b₂ : List ℕ) → length b₁ ≡ 132 → length b₂ ≡ 264
      → NoOther (fresh t₁ b₁).verdict (fresh t₂ b₂).verdict × OneState (fresh t₁ b₁).state (fresh t₂ b₂).state
  pub plan_words : (b₁ b₂ : List ℕ) → OneState b₁ b₂ → (q : Request) (p₁ p₂ : List ℕ) → 1 * plan_room 4 q ≤ length p₁
      → 1 * plan_room 8 q ≤ length p₂ → OneOutcome 1 (plan_words t₁ b₁ q p₁) (plan_words t₂ b₂ q p₂)
  pub plan_bytes : (b₁ b₂ : List ℕ) → OneState b₁ b₂ → (q : Request) (p₁ p₂ : List ℕ) → 4 * plan_room 4 q ≤ length p₁
      → 4 * plan_room 8 q ≤ length p₂ → OneOutcome 4 (plan_bytes t₁ b₁ q p₁) (plan_bytes t₂ b₂ q p₂)
  pub bring_up_words : (b₁ b₂ : List ℕ) → OneState b₁ b₂ → (p₁ p₂ : List ℕ) → 1 * list_room 4 ≤ length p₁ → 1 * list_room 8 ≤ length p₂
      → OneOutcome 1 (bring_up_words t₁ b₁ p₁) (bring_up_words t₂ b₂ p₂)
  pub bring_up_bytes : (b₁ b₂ : List ℕ) → OneState b₁ b₂ → (p₁ p₂ : List ℕ) → 4 * list_room 4 ≤ length p₁ → 4 * list_room 8 ≤ length p₂
      → OneOutcome 4 (bring_up_bytes t₁ b₁ p₁) (bring_up_bytes t₂ b₂ p₂)
  pub check_words : (b₁ b₂ : List ℕ) → OneState b₁ b₂ → (q : Request) (list : List ℕ)
      → NoOther (check_words t₁ b₁ q list) (check_words t₂ b₂ q list)
  pub check_bytes : (b₁ b₂ : List ℕ) → OneState b₁ b₂ → (q : Request) (list : List ℕ)
      → NoOther (check_bytes t₁ b₁ q list) (check_bytes t₂ b₂ q list)
  pub check_bring_up_words : (b₁ b₂ : List ℕ) → OneState b₁ b₂ → (list : List ℕ)
      → NoOther (check_bring_up_words t₁ b₁ list) (check_bring_up_words t₂ b₂ list)
  pub check_bring_up_bytes : (b₁ b₂ : List ℕ) → OneState b₁ b₂ → (list : List ℕ)
      → NoOther (check_bring_up_bytes t₁ b₁ list) (check_bring_up_bytes t₂ b₂ list)
  -- however many requests follow one another
  pub run : (qs : List Request) (p₁ p₂ : List ℕ) → ((q : Request) → 4 * plan_room 4 q ≤ length p₁) → ((q : Request) → 4 * plan_room 8 q ≤ length p₂)
      → (b₁ b₂ : List ℕ) → OneState b₁ b₂ → OneState (state_after_all t₁ b₁ (lent_requests p₁ qs)) (state_after_all t₂ b₂ (lent_requests p₂ qs))

abbrev pub FromVersionsAgree : Type 0
FromVersionsAgree =
    VersionsAgree → (rs ds t₁ t₂ : List ℕ) → Makes 1 rs ds t₁ → Makes 2 rs ds t₂ → NoOtherAnswers t₁ t₂
