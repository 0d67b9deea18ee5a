-- RULES.md 14.3: one description written as version 1 and as version 2 gives the same answers and the same calls from states that say the
-- same, and leaves such states. From what two tables of one station have in common, for plans of words and of bytes at once.
use mathlib.Core.Path.{◌≡◌, refl, sym, ap, ◌∙◌, fun_ext}
use mathlib.Core.Bool.{Bool, true}
use mathlib.Core.List.{List}
use Prim.Native.Nat.{ℕ, ◌*◌}
use native.Mathlib.Nat.{one-mul, mul-zero}
use native.Mathlib.Omega.{arith}
use borrow.Author.Tests.{eq-eqb, le-leb}
use lib.Dec.{leb}
use lib.ListN.{length}
use Rattle.sets.proofs.Laws.{decide}
use Rattle.words.specs.Words.{word_bytes}
use Rattle.words.proofs.Put.{take_put}
use Rattle.words.proofs.Laws.{word_bytes_length}
use Rattle.rules.specs.declared.Entry.{Entry}
use Rattle.rules.specs.declared.Request.{Request}
use Rattle.rules.specs.Verdict.{Verdict}
use Rattle.std.specs.Prelude.{Ok}
use Rattle.rules.specs.Answers.{passes, first_of, unless}
use Rattle.rules.specs.Station.{width, station}
use Rattle.rules.specs.Status.{Status, status_of, status}
use Rattle.rules.specs.Describe.{table_bytes}
use Rattle.rules.specs.Sleep.{is_sleep, sleep_moves, none_moving}
use Rattle.rules.specs.Outcomes.{Outcome, outcome, fresh_verdict, fresh, list_room, plan_outcome, sleep_stages, planned_each}
use Rattle.rules.specs.Outcomes.{sleep_list, state_for_sleep, plan_room, plan_stages, plan_list, plan_state, plan_words, plan_bytes}
use Rattle.rules.specs.Outcomes.{check_words, check_bytes}
use Rattle.rules.specs.BringUp.{bring_up_stages, bring_up_list, state_brought_up, bring_up_words, bring_up_bytes, check_bring_up_words}
use Rattle.rules.specs.BringUp.{check_bring_up_bytes}
use Rattle.rules.proofs.Answers.{done_passes}
use Rattle.rules.proofs.Width.{version_4, version_8}
use Rattle.laws.specs.Inverse.{Makes}
use Rattle.laws.specs.Versions.{SameStation, SameState, SameOutcome, SamePlans, SameAnswers, SameFresh, VersionsAgree}
use Rattle.laws.proofs.Stages.{bring_up_pass}
use Rattle.laws.proofs.Lists.{refused_count, plan_outcome_lem, plan_refused, one_each}
use Rattle.laws.proofs.BringUp.{consistent_passes}
use Rattle.laws.proofs.SleepStages.{sleep_of}
use Rattle.laws.proofs.Sleep.{sleep_offs, sleep_up, sleep_lists, sleep_after, sleep_moved}
use Rattle.laws.proofs.Made.{made_good, made_width, made_station, made_2}
use Rattle.laws.proofs.OneStation.{OneStation, OneStatus, same_stages, same_sleep_stages, same_bring_up, same_planned}
use Rattle.laws.proofs.OneStation.{same_bring_up_list, same_fresh, same_after, same_brought_up, same_each}

-- the same words, and states that say the same
abbrev Agree : List ℕ → List ℕ → List ℕ → List ℕ → List ℕ → List ℕ → Type 0
Agree t₁ t₂ words₁ words₂ b₁' b₂' = (words₁ ≡ words₂) × OneStatus t₁ t₂ b₁' b₂'

-- ---- the planner, by the kind of its request
module _ (t₁ t₂ : List ℕ) (s : OneStation t₁ t₂) (b₁ b₂ : List ℕ) (z : OneStatus t₁ t₂ b₁ b₂) where
  -- sleep entry whose checks pass: the same turn-off calls where no device moves, else the same moves
  sleep_agree : (q : Request) → passes (sleep_stages true t₁ b₁ q) ≡ true
      → Agree t₁ t₂ (sleep_list t₁ b₁ q.a) (sleep_list t₂ b₂ q.a) (state_for_sleep t₁ b₁ q.a) (state_for_sleep t₂ b₂ q.a)
  sleep_agree q e =
      let x = q.a in
      let g = (sleep_of true t₁ b₁ q e).0 in
      let h = (sleep_of true t₂ b₂ q (sym (ap passes (same_sleep_stages t₁ t₂ s b₁ b₂ z true q)) ∙ e)).0 in
      let still : none_moving (station t₁) (status t₁ b₁).entries x ≡ none_moving (station t₂) (status t₂ b₂).entries x =
      rw (s.station, z.says) refl in
      let moves : sleep_moves (station t₁) (status t₁ b₁).entries x ≡ sleep_moves (station t₂) (status t₂ b₂).entries x =
      rw (s.station, z.says) refl in
      decide (none_moving (station t₁) (status t₁ b₁).entries x)
      (λ n.
      let up = bring_up_pass true t₁ b₁ (consistent_passes t₁ b₁ g.table g.state) refl in (
        sleep_offs t₁ b₁ x n g.table g.state ∙ same_bring_up_list t₁ t₂ s b₁ b₂ z
            ∙ sym (sleep_offs t₂ b₂ x (sym still ∙ n) h.table h.state),
        rw (sleep_up t₁ b₁ x n, sleep_up t₂ b₂ x (sym still ∙ n))
            (same_brought_up t₁ t₂ s b₁ b₂ z (ap passes up ∙ done_passes 0)),
      ))
      (λ n.
      let each = same_each t₁ t₂ s (sleep_moves (station t₁) (status t₁ b₁).entries x) b₁ b₂ _ _ z (sleep_moved t₁ b₁ q g).in_turn in (
        sleep_lists t₁ b₁ x n ∙ each.0 ∙ ap (planned_each t₂ b₂) moves ∙ sym (sleep_lists t₂ b₂ x (sym still ∙ n)),
        rw (sleep_after t₁ b₁ x n, sleep_after t₂ b₂ x (sym still ∙ n), ← moves) each.1,
      ))

  -- the planner's checks
  plan_stages_agree : (room : Bool) (q : Request) → plan_stages room t₁ b₁ q ≡ plan_stages room t₂ b₂ q
  unfolding plan_stages
  plan_stages_agree room q = rw (same_sleep_stages t₁ t₂ s b₁ b₂ z room q, same_stages t₁ t₂ s b₁ b₂ z room q) refl

  -- and what it gives where they pass
  plan_agree : (q : Request) → passes (plan_stages true t₁ b₁ q) ≡ true
      → Agree t₁ t₂ (plan_list t₁ b₁ q) (plan_list t₂ b₂ q) (plan_state t₁ b₁ q) (plan_state t₂ b₂ q)
  unfolding plan_stages plan_list plan_state
  plan_agree q e =
      decide (is_sleep q) (λ k. rw k (sleep_agree q (rw k at e)))
      (λ k. rw k (same_planned t₁ t₂ s b₁ b₂ z q, same_after t₁ t₂ s b₁ b₂ z q (rw k at e)))

-- ---- outcomes, a word having `size` elements of the plan: of the same checks, and of the same words and states where they pass
module _ (size : ℕ) (written : List ℕ → List ℕ) (long : (ws : List ℕ) → length (written ws) ≡ size * length ws) where
  same_outcome : (checks : Verdict) (b₁ b₂ p₁ p₂ b₁' b₂' words₁ words₂ : List ℕ) → SameState b₁ b₂
      → (passes checks ≡ true → (words₁ ≡ words₂) × SameState b₁' b₂')
      → SameOutcome size (plan_outcome written checks b₁ p₁ b₁' words₁) (plan_outcome written checks b₂ p₂ b₂' words₂)
  same_outcome checks b₁ b₂ p₁ p₂ b₁' b₂' words₁ words₂ z h =
      decide (passes checks)
      (λ e. rw (plan_outcome_lem written checks b₁ p₁ b₁' words₁ e, plan_outcome_lem written checks b₂ p₂ b₂' words₂ e) (record {
        verdict = ap (λ (ws : List ℕ). Ok (length ws)) (h e).0;
        calls = take_put p₁ (written words₁) _ (long words₁) ∙ ap written (h e).0 ∙ sym (take_put p₂ (written words₂) _ (long words₂));
        state = (h e).1;
      }))
      (λ e. rw (plan_refused written checks b₁ p₁ b₁' words₁ e, plan_refused written checks b₂ p₂ b₂' words₂ e) (record {
        verdict = refl;
        calls = rw (refused_count checks e, mul-zero size) refl;
        state = z;
      }))

-- a status is its entries and its on-set
status_ext : (a b : Status) → a.entries ≡ b.entries → a.on ≡ b.on → a ≡ b
status_ext a b e f =
    ap (λ (entries : ℕ → Entry). record { entries = entries; on = a.on }) e
    ∙ ap (λ (on : ℕ). record { entries = b.entries; on = on }) f

-- ---- tables with sets of 4 and of 8 bytes
module _ (t₁ t₂ : List ℕ) (s : OneStation t₁ t₂) (four : width t₁ ≡ 4) (eight : width t₂ ≡ 8) where
  -- states say the same exactly if their entries and their on-sets are the same
  one_status : (b₁ b₂ : List ℕ) → SameState b₁ b₂ → OneStatus t₁ t₂ b₁ b₂
  one_status b₁ b₂ z =
      let entries : (status_of 4 b₁).entries ≡ (status_of 8 b₂).entries = fun_ext z.entries in
      record { first = rw four z.first; second = rw eight z.second; says = rw (four, eight) (status_ext _ _ entries z.on) }

  same_state : (b₁ b₂ : List ℕ) → OneStatus t₁ t₂ b₁ b₂ → SameState b₁ b₂
  same_state b₁ b₂ z =
      let says : status_of 4 b₁ ≡ status_of 8 b₂ = rw (four, eight) at z.says in
      record {
        first = rw four at z.first;
        second = rw eight at z.second;
        entries = λ d. ap (λ (st : Status). st.entries d) says;
        on = ap (λ (st : Status). st.on) says;
      }

  -- fresh states are such states
  fresh_agree : SameFresh t₁ t₂
  unfolding fresh fresh_verdict outcome passes first_of unless
  fresh_agree b₁ b₂ l₁ l₂ =
      rw (s.first, s.second, four, eight, eq-eqb _ _ l₁, eq-eqb _ _ l₂) (refl, same_state _ _ (rw (four, eight) at (same_fresh t₁ t₂ s)))

  -- ---- from states that say the same
  module _ (b₁ b₂ : List ℕ) (z : SameState b₁ b₂) where
    abbrev one : OneStatus t₁ t₂ b₁ b₂
    one = one_status b₁ b₂ z

    -- a planner's checks give the same, and where they pass, so do its words and its state
    record Agreed (stages : Bool → List ℕ → List ℕ → Verdict) (list state : List ℕ → List ℕ → List ℕ) : Type 0 where
      same : stages true t₁ b₁ ≡ stages true t₂ b₂
      agree : passes (stages true t₁ b₁) ≡ true → Agree t₁ t₂ (list t₁ b₁) (list t₂ b₂) (state t₁ b₁) (state t₂ b₂)

    -- with `room` words of each width it gives the same, a word having `size` elements of the plan
    module _ (stages : Bool → List ℕ → List ℕ → Verdict) (list state : List ℕ → List ℕ → List ℕ) (g : Agreed stages list state)
        (room : ℕ → ℕ) (size : ℕ) (written : List ℕ → List ℕ) (long : (ws : List ℕ) → length (written ws) ≡ size * length ws)
        (planOn : List ℕ → List ℕ → List ℕ → Outcome)
        (is : (t b plan : List ℕ) → planOn t b plan
        ≡ plan_outcome written (stages (leb (size * room (width t)) (length plan)) t b) b plan (state t b) (list t b)) where
      plans_agree : SamePlans size room (planOn t₁ b₁) (planOn t₂ b₂)
      plans_agree p₁ p₂ l₁ l₂ =
          let whole = same_outcome size written long (stages true t₂ b₂) b₁ b₂ p₁ p₂ (state t₁ b₁) (state t₂ b₂) (list t₁ b₁) (list t₂ b₂) z
          (λ e. let a = g.agree (ap passes g.same ∙ e) in (a.0, same_state _ _ a.1)) in
          let fits₁ = le-leb (size * room 4) (length p₁) l₁ in
          let fits₂ = le-leb (size * room 8) (length p₂) l₂ in
          rw (is t₁ b₁ p₁, is t₂ b₂ p₂, four, eight, fits₁, fits₂, g.same) whole

    -- the planner, of any request
    request_agreed : (q : Request) → Agreed (λ room t b. plan_stages room t b q) (λ t b. plan_list t b q) (λ t b. plan_state t b q)
    request_agreed q =
        record { same = plan_stages_agree t₁ t₂ s b₁ b₂ one true q; agree = plan_agree t₁ t₂ s b₁ b₂ one q }

    -- bring-up
    up_agreed : Agreed bring_up_stages bring_up_list state_brought_up
    up_agreed =
        record {
          same = same_bring_up t₁ t₂ s b₁ b₂ one true;
          agree = λ e. (same_bring_up_list t₁ t₂ s b₁ b₂ one, same_brought_up t₁ t₂ s b₁ b₂ one e);
        }

    -- all answers
    answers_agree : SameAnswers t₁ b₁ t₂ b₂
    answers_agree =
        record {
          plan_words = λ q. plans_agree _ _ _ (request_agreed q) (λ w. plan_room w q) 1 (λ ws. ws) one_each (λ t b. plan_words t b q)
              (λ t b plan. unfold plan_words in rw (one-mul (plan_room (width t) q)) refl);
          plan_bytes = λ q. plans_agree _ _ _ (request_agreed q) (λ w. plan_room w q) 4 word_bytes word_bytes_length (λ t b. plan_bytes t b q)
              (λ t b plan. unfold plan_bytes in refl);
          check_words = λ q list. unfold check_words in rw (same_stages t₁ t₂ s b₁ b₂ one true q, s.station, one.says) refl;
          check_bytes = λ q list. unfold check_bytes in rw (same_stages t₁ t₂ s b₁ b₂ one true q, s.station, one.says) refl;
          bring_up_words = plans_agree _ _ _ up_agreed list_room 1 (λ ws. ws) one_each bring_up_words
              (λ t b plan. unfold bring_up_words in rw (one-mul (list_room (width t))) refl);
          bring_up_bytes = plans_agree _ _ _ up_agreed list_room 4 word_bytes word_bytes_length bring_up_bytes
              (λ t b plan. unfold bring_up_bytes in refl);
          check_bring_up_words = λ list. unfold check_bring_up_words in rw (same_bring_up t₁ t₂ s b₁ b₂ one true, s.station, one.says) refl;
          check_bring_up_bytes = λ list. unfold check_bring_up_bytes in rw (same_bring_up t₁ t₂ s b₁ b₂ one true, s.station, one.says) refl;
        }

-- ---- the theorem
pub versions_agree : VersionsAgree
versions_agree t₁ t₂ m =
    let four : width t₁ ≡ 4 = made_width 1 _ _ t₁ m.first ∙ version_4 1 (λ e. omega arith) in
    let eight : width t₂ ≡ 8 = made_width 2 _ _ t₂ m.second ∙ version_8 2 refl in
    let s : OneStation t₁ t₂ = record {
      first = made_good 1 _ _ t₁ m.first;
      second = made_good 2 _ _ t₂ m.second;
      station = made_station 1 _ _ t₁ m.first ∙ sym (made_station 2 _ _ t₂ m.second);
      wider = omega (arith, four, eight);
    } in
    (fresh_agree t₁ t₂ s four eight, answers_agree t₁ t₂ s four eight)

-- and such tables there are of every description that is written as version 1
pub same_station : (rs ds t : List ℕ) → Makes 1 rs ds t → SameStation t (table_bytes 2 rs ds)
same_station rs ds t m = record { resources = rs; devices = ds; first = m; second = made_2 rs ds t m }
