-- The answers of code that plans or checks, from its checks on: a refusal leaves state and plan, else they are what is written; and a list
-- gets 19 exactly where its test fails. For any checks, words and test.
use mathlib.Core.Path.{◌≡◌, refl, sym, ap, ◌∙◌}
use mathlib.Core.Bool.{Bool, true, false, not}
use mathlib.Core.List.{List, []}
use Prim.Native.Nat.{ℕ}
use borrow.Author.Tests.{not-true, not-false}
use lib.ListN.{length}
use Rattle.words.specs.Words.{put}
use Rattle.rules.specs.Verdict.{Verdict}
use Rattle.std.specs.Prelude.{Ok}
use Rattle.rules.specs.Verdict.{refuse}
use Rattle.rules.specs.declared.Reason.TheVariants.{NotConforming}
use Rattle.rules.specs.Answers.{passes}
use Rattle.rules.specs.Outcomes.{Outcome, outcome, plan_verdict, plan_outcome, list_verdict}
use Rattle.rules.proofs.Answers.{first_pass, first_stop, first_none, unless_of, unless_stop, done_passes, refused_stops}
use Rattle.rules.proofs.Answers.{answer_passed, answer_stopped}
use Rattle.laws.proofs.Lists.{plan_outcome_lem}

-- v, b' and plan' are the parts of an outcome
pub record Answered (v : Verdict) (b' plan' : List ℕ) (o : Outcome) : Type 0 where
  pub verdict : v ≡ o.verdict
  pub state : b' ≡ o.state
  pub plan : plan' ≡ o.plan

pub parts : {v : Verdict} {b plan : List ℕ} {o : Outcome} → Answered v b plan o → (v ≡ o.verdict) × (b ≡ o.state) × (plan ≡ o.plan)
parts a = (a.verdict, a.state, a.plan)

-- v is the answer of the checks
module _ (checks v : Verdict) (e : v ≡ checks) where
  -- ---- plans
  module _ (written : List ℕ → List ℕ) (b plan after list : List ℕ) where
    pub outcome_refused : passes v ≡ false → Answered v b plan (plan_outcome written checks b plan after list)
    unfolding plan_outcome plan_verdict outcome
    outcome_refused n =
        let same : plan_verdict checks list ≡ v = first_stop checks [] _ (answer_stopped v checks e n) ∙ sym e in
        let no : passes (plan_verdict checks list) ≡ false = ap passes same ∙ n in
        record { verdict = sym same; state = rw no refl; plan = rw no refl }

    pub outcome_written : passes v ≡ true → (n : ℕ) (b' plan' : List ℕ) → n ≡ length list → b' ≡ after → plan' ≡ put plan 0 (written list)
        → Answered (Ok n) b' plan' (plan_outcome written checks b plan after list)
    outcome_written k n b' plan' c s w =
        let is = plan_outcome_lem written checks b plan after list (answer_passed v checks e k) in
        record {
          verdict = rw c (sym (ap (λ (o : Outcome). o.verdict) is));
          state = s ∙ sym (ap (λ (o : Outcome). o.state) is);
          plan = w ∙ sym (ap (λ (o : Outcome). o.plan) is);
        }

  -- ---- lists. c is what the test said
  pub list_refused : (test : Bool) → passes v ≡ false → v ≡ list_verdict checks test
  unfolding list_verdict
  list_refused test n = e ∙ sym (first_stop _ _ _ (answer_stopped v checks e n))

  module _ (c test : Bool) (n : passes v ≡ true) (g : c ≡ test) where
    pub list_19 : not c ≡ true → refuse NotConforming 0 ≡ list_verdict checks test
    unfolding list_verdict
    list_19 z =
        sym (first_pass _ _ _ (answer_passed v checks e n)
        ∙ rw (← g, unless_stop c NotConforming 0 (not-true c z)) (first_stop _ _ _ (refused_stops NotConforming 0)))

    pub list_done : not c ≡ false → Ok 0 ≡ list_verdict checks test
    unfolding list_verdict
    list_done z =
        sym (first_pass _ _ _ (answer_passed v checks e n)
        ∙ rw (← g, unless_of c NotConforming 0 (not-false c z)) (first_pass _ _ _ (done_passes 0) ∙ first_none _))
