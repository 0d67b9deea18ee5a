-- RULES.md 14.3: one description written as version 1 and as version 2. From states with the same entries and the same on-set the two
-- tables give the same answers and the same calls, and leave such states again.
use Rattle.std.specs.Prelude.{ℕ, ◌*◌, ◌≤◌, ◌≡◌, List, length, take}
use Rattle.rules.specs.declared.Request.{Request}
use Rattle.rules.specs.Answers.{count_of}
use Rattle.rules.specs.Status.{status_of}
use Rattle.rules.specs.Outcomes.{Outcome, list_room, plan_room, fresh, plan_words, plan_bytes, check_words, check_bytes}
use Rattle.rules.specs.BringUp.{bring_up_words, bring_up_bytes, check_bring_up_words, check_bring_up_bytes}
use Rattle.laws.specs.Inverse.{Makes}

-- two tables that the writer makes of the same resources and devices
pub record SameStation (t₁ t₂ : List ℕ) : Type 0 where
  pub resources : List ℕ
  pub devices : List ℕ
  pub first : Makes 1 resources devices t₁
  pub second : Makes 2 resources devices t₂

-- two images, each of its version's size, that say the same entries and the same on-set; version 1 has no entries from 32 on, so those of
-- version 2 are then D0 and not armed
pub record SameState (b₁ b₂ : List ℕ) : Type 0 where
  pub first : length b₁ ≡ 132
  pub second : length b₂ ≡ 264
  pub entries : (d : ℕ) → (status_of 4 b₁).entries d ≡ (status_of 8 b₂).entries d
  pub on : (status_of 4 b₁).on ≡ (status_of 8 b₂).on

-- two outcomes, a word having `size` elements of the plan: number, place and count are the same, the calls at the front of the plans, and
-- what the states say
pub record SameOutcome (size : ℕ) (o₁ o₂ : Outcome) : Type 0 where
  pub verdict : o₁.verdict ≡ o₂.verdict
  pub calls : take (size * count_of o₁.verdict) o₁.plan ≡ take (size * count_of o₂.verdict) o₂.plan
  pub state : SameState o₁.state o₂.state

-- what a planner gives with each of two tables, for all plans with room for what each version asks, `room` words of a width
abbrev pub SamePlans : ℕ → (ℕ → ℕ) → (List ℕ → Outcome) → (List ℕ → Outcome) → Type 0
SamePlans size room plan₁ plan₂ =
    (p₁ p₂ : List ℕ) → size * room 4 ≤ length p₁ → size * room 8 ≤ length p₂ → SameOutcome size (plan₁ p₁) (plan₂ p₂)

pub record SameAnswers (t₁ b₁ t₂ b₂ : List ℕ) : Type 0 where
  -- to every request, sleep entry too
  pub plan_words : (q : Request) → SamePlans 1 (λ w. plan_room w q) (plan_words t₁ b₁ q) (plan_words t₂ b₂ q)
  pub plan_bytes : (q : Request) → SamePlans 4 (λ w. plan_room w q) (plan_bytes t₁ b₁ q) (plan_bytes t₂ b₂ q)
  -- of every list
  pub check_words : (q : Request) (list : List ℕ) → check_words t₁ b₁ q list ≡ check_words t₂ b₂ q list
  pub check_bytes : (q : Request) (list : List ℕ) → check_bytes t₁ b₁ q list ≡ check_bytes t₂ b₂ q list
  -- at power-on
  pub bring_up_words : SamePlans 1 list_room (bring_up_words t₁ b₁) (bring_up_words t₂ b₂)
  pub bring_up_bytes : SamePlans 4 list_room (bring_up_bytes t₁ b₁) (bring_up_bytes t₂ b₂)
  pub check_bring_up_words : (list : List ℕ) → check_bring_up_words t₁ b₁ list ≡ check_bring_up_words t₂ b₂ list
  pub check_bring_up_bytes : (list : List ℕ) → check_bring_up_bytes t₁ b₁ list ≡ check_bring_up_bytes t₂ b₂ list

-- the fresh states of the two tables are such states too
abbrev pub SameFresh : List ℕ → List ℕ → Type 0
SameFresh t₁ t₂ =
    (b₁ b₂ : List ℕ) → length b₁ ≡ 132 → length b₂ ≡ 264
    → ((fresh t₁ b₁).verdict ≡ (fresh t₂ b₂).verdict) × SameState (fresh t₁ b₁).state (fresh t₂ b₂).state

-- the theorem
abbrev pub VersionsAgree : Type 0
VersionsAgree =
    (t₁ t₂ : List ℕ) → SameStation t₁ t₂ → SameFresh t₁ t₂ × ((b₁ b₂ : List ℕ) → SameState b₁ b₂ → SameAnswers t₁ b₁ t₂ b₂)
