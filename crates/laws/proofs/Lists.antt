-- A plan whose checks pass is done with the count of its words, which stand at its front, the rest being as it was; and a list passes
-- exactly if its checks pass and its test holds. Of words and of bytes, for any checks, words and test.
use mathlib.Core.Path.{◌≡◌, refl, sym, ap, ◌∙◌}
use mathlib.Core.Bool.{Bool, true, false, true≢false}
use mathlib.Core.List.{List, [], ◌∷◌}
use Prim.Native.Nat.{ℕ, ◌+◌, ◌*◌, ◌/◌, ◌%◌, ◌^◌, ◌<◌}
use native.Mathlib.Omega.{arith}
use native.Mathlib.Nat.{zero-add, one-mul}
use borrow.Author.Tests.{eqb-true, eq-eqb}
use lib.Dec.{eqb}
use lib.ListN.{length, get_or, take, drop}
use lib.Seq.{drop_at}
use Rattle.sets.proofs.Laws.{decide}
use Rattle.words.specs.Words.{put, word_bytes, byte_words}
use Rattle.words.proofs.Put.{take_put}
use Rattle.words.proofs.Laws.{word_bytes_length, words_of_bytes}
use Rattle.rules.specs.Verdict.{Verdict}
use Rattle.std.specs.Prelude.{Ok, Err}
use Rattle.rules.specs.declared.Reason.TheVariants.{NotConforming}
use Rattle.rules.specs.Answers.{number_of, count_of, passes}
use Rattle.rules.specs.Outcomes.{Outcome, outcome, plan_verdict, plan_outcome, list_verdict, of_bytes}
use Rattle.rules.proofs.Answers.{first_both, first_pass, first_stop, first_none, done_passes, refused_stops, no_reason_0}
use Rattle.rules.proofs.Answers.{unless_at, unless_of}
use Rattle.laws.specs.Demand2.{LeftPlan}
use Rattle.laws.proofs.Tests.{both_true}

-- ---- numbers and passing
pub number_passes : (v : Verdict) → number_of v ≡ 0 → passes v ≡ true
number_passes (Ok n) e = done_passes n
number_passes (Err r) e = absurd (no_reason_0 r.0 e)

-- what passes has number 0
pub passes_number : (v : Verdict) → passes v ≡ true → number_of v ≡ 0
passes_number (Ok n) e = refl
passes_number (Err r) e = absurd (true≢false (sym e ∙ refused_stops r.0 r.1))

-- a refusal counts nothing
pub refused_count : (v : Verdict) → passes v ≡ false → count_of v ≡ 0
refused_count (Ok n) e = absurd (true≢false (sym (done_passes n) ∙ e))
refused_count (Err r) e = refl

-- ---- plans
drop_put : (d ws : List ℕ) → drop (length ws) (put d 0 ws) ≡ drop (length ws) d
unfolding put
drop_put d ws = drop_at ws (drop (0 + length ws) d) (length ws) refl ∙ ap (λ (k : ℕ). drop k d) (zero-add (length ws))

module _ (checks : Verdict) (words : List ℕ) where
  pub plan_checks : passes (plan_verdict checks words) ≡ true → passes checks ≡ true
  unfolding plan_verdict
  plan_checks e = (first_both _ _ _ e).0

  pub plan_done : passes checks ≡ true → plan_verdict checks words ≡ Ok (length words)
  unfolding plan_verdict
  plan_done e = first_pass _ _ _ e ∙ first_none _

  -- the number is that of the checks
  plan_number : number_of (plan_verdict checks words) ≡ number_of checks
  unfolding plan_verdict
  plan_number =
      decide (passes checks) (λ e. ap number_of (plan_done e) ∙ sym (passes_number checks e)) (λ e. ap number_of (first_stop checks _ _ e))

module _ (written : List ℕ → List ℕ) (checks : Verdict) (b plan b' words : List ℕ) where
  abbrev o : Outcome
  o = plan_outcome written checks b plan b' words

  pub plan_outcome_lem : passes checks ≡ true → o ≡ record { verdict = Ok (length words); state = b'; plan = put plan 0 (written words) }
  unfolding plan_outcome outcome passes
  plan_outcome_lem e = rw (plan_done checks words e) refl

  -- refused, state and plan are as they were lent
  pub plan_refused : passes checks ≡ false → o ≡ record { verdict = checks; state = b; plan = plan }
  unfolding plan_outcome outcome plan_verdict
  plan_refused e = rw (first_stop checks [] (Ok (length words)) e, e) refl

  pub outcome_number : number_of o.verdict ≡ number_of checks
  unfolding plan_outcome outcome
  outcome_number = plan_number checks words

  module _ (e : number_of o.verdict ≡ 0) where
    pub plan_passes : passes checks ≡ true
    unfolding plan_outcome outcome
    plan_passes = plan_checks checks words (number_passes _ e)

    pub plan_state_lem : o.state ≡ b'
    plan_state_lem = ap (λ (r : Outcome). r.state) (plan_outcome_lem plan_passes)

    counted : count_of o.verdict ≡ length words
    counted = ap (λ (r : Outcome). count_of r.verdict) (plan_outcome_lem plan_passes)

    left : o.plan ≡ put plan 0 (written words)
    left = ap (λ (r : Outcome). r.plan) (plan_outcome_lem plan_passes)

    -- a word of the plan has `size` elements
    module _ (size : ℕ) (long : (ws : List ℕ) → length (written ws) ≡ size * length ws) where
      size_is : length (written words) ≡ size * count_of o.verdict
      size_is = long words ∙ ap (λ (k : ℕ). size * k) (sym counted)

      pub left_plan : LeftPlan size written words plan (count_of o.verdict) o.plan
      left_plan = record {
        counts = counted;
        front = rw left (take_put plan (written words) _ size_is);
        kept = rw (left, ← size_is) (drop_put plan (written words));
      }

-- no words, no elements
none : (l : List ℕ) → length l ≡ 0 → l ≡ []
none [] e = refl
none (x ∷ l) e = absurd (omega (arith, e))

pub written_none : (size : ℕ) (written : List ℕ → List ℕ) → ((ws : List ℕ) → length (written ws) ≡ size * length ws) → written [] ≡ []
written_none size written long = none (written []) (omega (arith, long []))

pub one_each : (ws : List ℕ) → length ws ≡ 1 * length ws
one_each ws = sym (one-mul (length ws))

-- the first words of a plan of words, as many as its count, are the words that it was made of
pub front_words : (checks : Verdict) (b plan b' words : List ℕ) → number_of (plan_outcome (λ ws. ws) checks b plan b' words).verdict ≡ 0
    → take (count_of (plan_outcome (λ ws. ws) checks b plan b' words).verdict) (plan_outcome (λ ws. ws) checks b plan b' words).plan ≡ words
front_words checks b plan b' words e = rw one-mul at (left_plan (λ ws. ws) checks b plan b' words e 1 one_each).front

-- ---- lists
module _ (checks : Verdict) where
  pub list_of_lem : (conforms : Bool) → passes checks ≡ true → conforms ≡ true → list_verdict checks conforms ≡ Ok 0
  unfolding list_verdict
  list_of_lem conforms e h =
      first_pass _ _ _ e ∙ first_pass _ _ _ (rw (unless_of conforms NotConforming 0 h) (done_passes 0)) ∙ first_none (Ok 0)

  pub list_at : (conforms : Bool) → passes (list_verdict checks conforms) ≡ true → (passes checks ≡ true) × (conforms ≡ true)
  unfolding list_verdict
  list_at conforms e = let x = first_both _ _ _ e in (x.0, unless_at _ _ _ (first_both _ _ _ x.1).0)

  -- ---- bytes
  module _ (test : List ℕ → Bool) where
    pub bytes_words : (list : List ℕ) → length list % 4 ≡ 0
        → list_verdict checks (of_bytes test list) ≡ list_verdict checks (test (byte_words (length list / 4) list))
    unfolding of_bytes
    bytes_words list e = rw (eq-eqb (length list % 4) 0 e) refl

    pub bytes_multiple : (list : List ℕ) → passes (list_verdict checks (of_bytes test list)) ≡ true → length list % 4 ≡ 0
    unfolding of_bytes
    bytes_multiple list e = eqb-true _ _ (both_true (eqb (length list % 4) 0) _ (list_at _ e).1).0

    -- the bytes of words are a list of these words
    pub word_list : (ws : List ℕ) → ((i : ℕ) → get_or ws i 0 < 2 ^ 32)
        → list_verdict checks (of_bytes test (word_bytes ws)) ≡ list_verdict checks (test ws)
    word_list ws h =
        let l = word_bytes_length ws in
        let four : length (word_bytes ws) / 4 ≡ length ws = omega arith in
        bytes_words (word_bytes ws) (omega arith) ∙ rw (four, words_of_bytes ws h) refl

-- ---- the words that a plan is made of, read from its front, pass a checker whose checks pass and whose test holds of them
module _ (stages checks : Verdict) (test : List ℕ → Bool) (b plan after words : List ℕ) (e : passes checks ≡ true)
    (h : test words ≡ true) where
  pub own_words_lem : let o = plan_outcome (λ ws. ws) stages b plan after words in
      number_of o.verdict ≡ 0 → number_of (list_verdict checks (test (take (count_of o.verdict) o.plan))) ≡ 0
  own_words_lem d = rw (front_words stages b plan after words d) (ap number_of (list_of_lem checks (test words) e h))

  -- as bytes, where each fits four
  pub own_bytes : ((i : ℕ) → get_or words i 0 < 2 ^ 32) → let o = plan_outcome word_bytes stages b plan after words in
      number_of o.verdict ≡ 0 → number_of (list_verdict checks (of_bytes test (take (4 * count_of o.verdict) o.plan))) ≡ 0
  own_bytes fit d =
      rw ((left_plan word_bytes stages b plan after words d 4 word_bytes_length).front, word_list checks test words fit)
      (ap number_of (list_of_lem checks (test words) e h))
