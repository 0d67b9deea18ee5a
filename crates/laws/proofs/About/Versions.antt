-- The conclusions from the agreement of the two versions of table.
use Prim.Native.Nat.{ℕ, ◌*◌}
use mathlib.Core.Path.{◌≡◌, sym, ap, ◌∙◌, fun_ext}
use mathlib.Core.List.{List, [], ◌∷◌}
use lib.ListN.{take}
use Rattle.rules.specs.declared.Entry.{Entry}
use Rattle.rules.specs.declared.Request.{Request}
use Rattle.rules.specs.Verdict.{Verdict}
use Rattle.rules.specs.Answers.{count_of}
use Rattle.rules.specs.Status.{Status, status_of}
use Rattle.rules.specs.Outcomes.{Outcome, plan_bytes}
use Rattle.laws.specs.Runs.{state_after_all}
use Rattle.laws.specs.Versions.{SameState, SameOutcome}
use Rattle.laws.specs.About.Versions.{OneState, OneOutcome, NoOther, lent_requests, FromVersionsAgree}

one_state : (b₁ b₂ : List ℕ) → SameState b₁ b₂ → OneState b₁ b₂
one_state b₁ b₂ x =
    let entries : (status_of 4 b₁).entries ≡ (status_of 8 b₂).entries = fun_ext x.entries in
    record {
      first = x.first;
      second = x.second;
      whole = ap (λ (f : ℕ → Entry). record { entries = f; on = (status_of 4 b₁).on }) entries
          ∙ ap (λ (on : ℕ). record { entries = (status_of 8 b₂).entries; on = on }) x.on;
    }

same_state : (b₁ b₂ : List ℕ) → OneState b₁ b₂ → SameState b₁ b₂
same_state b₁ b₂ x =
    record {
      first = x.first;
      second = x.second;
      entries = λ d. ap (λ (s : Status). s.entries d) x.whole;
      on = ap (λ (s : Status). s.on) x.whole;
    }

no_other : (v₁ v₂ : Verdict) → v₁ ≡ v₂ → NoOther v₁ v₂
no_other v₁ v₂ e v is other = other (sym e ∙ is)

one_outcome : (size : ℕ) (o₁ o₂ : Outcome) → SameOutcome size o₁ o₂ → OneOutcome size o₁ o₂
one_outcome size o₁ o₂ x =
    record {
      verdict = no_other _ _ x.verdict;
      calls = λ no. no (x.calls ∙ ap (λ (v : Verdict). take (size * count_of v) o₂.plan) (sym x.verdict));
      state = one_state _ _ x.state;
    }

-- a step of a run, again and again
run_one : (t₁ t₂ p₁ p₂ : List ℕ) → ((b₁ b₂ : List ℕ) → OneState b₁ b₂ → (q : Request)
    → OneState (plan_bytes t₁ b₁ q p₁).state (plan_bytes t₂ b₂ q p₂).state) → (qs : List Request) (b₁ b₂ : List ℕ)
    → OneState b₁ b₂ → OneState (state_after_all t₁ b₁ (lent_requests p₁ qs)) (state_after_all t₂ b₂ (lent_requests p₂ qs))
unfolding state_after_all
run_one t₁ t₂ p₁ p₂ step [] b₁ b₂ z = z
run_one t₁ t₂ p₁ p₂ step (q ∷ qs) b₁ b₂ z = run_one t₁ t₂ p₁ p₂ step qs _ _ (step b₁ b₂ z q)

pub from_versions_agree : FromVersionsAgree
from_versions_agree agree rs ds t₁ t₂ m₁ m₂ =
    let x = agree t₁ t₂ (record { resources = rs; devices = ds; first = m₁; second = m₂ }) in
    record {
      fresh = λ b₁ b₂ l₁ l₂. let f = x.0 b₁ b₂ l₁ l₂ in (no_other _ _ f.0, one_state _ _ f.1);
      plan_words = λ b₁ b₂ z q p₁ p₂ l₁ l₂. one_outcome _ _ _ ((x.1 b₁ b₂ (same_state _ _ z)).plan_words q p₁ p₂ l₁ l₂);
      plan_bytes = λ b₁ b₂ z q p₁ p₂ l₁ l₂. one_outcome _ _ _ ((x.1 b₁ b₂ (same_state _ _ z)).plan_bytes q p₁ p₂ l₁ l₂);
      bring_up_words = λ b₁ b₂ z p₁ p₂ l₁ l₂. one_outcome _ _ _ ((x.1 b₁ b₂ (same_state _ _ z)).bring_up_words p₁ p₂ l₁ l₂);
      bring_up_bytes = λ b₁ b₂ z p₁ p₂ l₁ l₂. one_outcome _ _ _ ((x.1 b₁ b₂ (same_state _ _ z)).bring_up_bytes p₁ p₂ l₁ l₂);
      check_words = λ b₁ b₂ z q list. no_other _ _ ((x.1 b₁ b₂ (same_state _ _ z)).check_words q list);
      check_bytes = λ b₁ b₂ z q list. no_other _ _ ((x.1 b₁ b₂ (same_state _ _ z)).check_bytes q list);
      check_bring_up_words = λ b₁ b₂ z list. no_other _ _ ((x.1 b₁ b₂ (same_state _ _ z)).check_bring_up_words list);
      check_bring_up_bytes = λ b₁ b₂ z list. no_other _ _ ((x.1 b₁ b₂ (same_state _ _ z)).check_bring_up_bytes list);
      run = λ qs p₁ p₂ l₁ l₂. run_one t₁ t₂ p₁ p₂
          (λ b₁ b₂ z q. one_state _ _ ((x.1 b₁ b₂ (same_state _ _ z)).plan_bytes q p₁ p₂ (l₁ q) (l₂ q)).state) qs;
    }
