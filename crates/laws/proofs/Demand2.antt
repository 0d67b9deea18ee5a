-- Demand 2 holds of every outcome of the planner for a request of kinds 1 to 3: from the law of the needed set, from consistency after an
-- accepted request, and from what a plan leaves.
use mathlib.Core.Path.{◌≡◌, refl, sym, ap, ◌∙◌}
use mathlib.Core.Bool.{Bool, true, false}
use mathlib.Core.List.{List}
use mathlib.Core.Logic.{◌↔◌, inl, inr, ⊎_elim}
use Prim.Native.Nat.{ℕ, ◌*◌}
use native.Mathlib.Nat.{one-mul}
use borrow.Author.Tests.{eqb-true, leb-true, le-leb}
use lib.Dec.{eqb, leb}
use lib.ListN.{length}
use Rattle.sets.specs.Sets.{member}
use Rattle.words.specs.Words.{word_bytes}
use Rattle.words.proofs.Laws.{word_bytes_length}
use Rattle.rules.specs.declared.Request.{Request}
use Rattle.rules.specs.Verdict.{Verdict}
use Rattle.std.specs.Prelude.{Ok}
use Rattle.rules.specs.Answers.{number_of, count_of, passes}
use Rattle.rules.specs.Station.{absent, width, station}
use Rattle.rules.specs.Power.{needed}
use Rattle.rules.specs.Status.{Status, status, parent_allows, state_verdict}
use Rattle.rules.specs.Calls.{end_set, status_after}
use Rattle.rules.specs.Sleep.{is_sleep}
use Rattle.rules.specs.Outcomes.{Outcome, list_room, stages_verdict, planned, plan_outcome, state_after, plan_words, plan_bytes}
use Rattle.rules.proofs.Answers.{done_passes}
use Rattle.laws.specs.Demand2.{SomeNeeds, NotShallower, ExactlyNeeded, LeftState, Demand2, Demand2Words, Demand2Bytes}
use Rattle.laws.specs.Demand3.{Permitted}
use Rattle.laws.proofs.Tests.{or_cases}
use Rattle.laws.proofs.Needed.{needed_of, needed_by}
use Rattle.laws.proofs.Consistency.{after_same, after_other}
use Rattle.laws.proofs.States.{consistent_of, after_reads, after_consistent}
use Rattle.laws.proofs.Stages.{Stages, stages_of, stages_pass, room_passed}
use Rattle.laws.proofs.Plans.{words_request, bytes_request}
use Rattle.laws.proofs.Lists.{number_passes, plan_outcome_lem, plan_passes, plan_state_lem, left_plan, one_each}

-- ---- the state afterwards
on_exactly : (t b' : List ℕ) → (status t b').on ≡ needed (station t) (status t b').entries → (r : ℕ)
    → (member (status t b').on r ≡ true) ↔ SomeNeeds t b' r
unfolding needed
on_exactly t b' e r =
    let s = station t in
    let entries = (status t b').entries in (
      λ m. needed_by s entries s.devices r (rw e at m),
      λ x. rw e (needed_of s entries s.devices x.0 r x.1 x.2),
    )

not_shallower : (t b' : List ℕ) (d : ℕ) → parent_allows (station t) (status t b').entries d ((status t b').entries d).state ≡ true
    → NotShallower t b' d
unfolding parent_allows
not_shallower t b' d e =
    ⊎_elim (λ p. inl (eqb-true _ absent p)) (λ p. inr (leb-true _ _ p)) (or_cases (eqb ((station t).device d).parent absent) _ e)

-- a state that gets neither 7 nor 8, whose on-set is what its entries need
pub exactly_needed : (t b' : List ℕ) → state_verdict t b' ≡ Ok 0 → (status t b').on ≡ needed (station t) (status t b').entries
    → ExactlyNeeded t b'
exactly_needed t b' good e =
    record {
      on = on_exactly t b' e;
      parents = λ d h. not_shallower t b' d ((consistent_of t b' (ap passes good ∙ done_passes 0)).1.apart d h).under;
      good = ap number_of good;
    }

left_state : (t b : List ℕ) (q : Request) → Stages t b q → LeftState t b q (state_after t b q)
unfolding status_after end_set
left_state t b q g =
    let b' = state_after t b q in
    let reads = after_reads t b q g.table g.state g.request in
    let good = after_consistent t b q g.table g.state g.request in
    let entries = ap (λ (st : Status). st.entries) reads in
    record {
      needed = exactly_needed t b' good (ap (λ (st : Status). st.on) reads ∙ ap (needed (station t)) (sym entries));
      own = rw entries (after_same (status t b).entries q);
      others = λ d h. rw entries (after_other (status t b).entries q d h);
    }

-- ---- the outcome, for words and for bytes
module _ (size : ℕ) (written : List ℕ → List ℕ) (long : (ws : List ℕ) → length (written ws) ≡ size * length ws) (room : Bool) (t b : List ℕ)
    (q : Request) (plan : List ℕ) where
  abbrev checks : Verdict
  checks = stages_verdict room t b q

  abbrev o : Outcome
  o = plan_outcome written checks b plan (state_after t b q) (planned t b q)

  allowed : number_of o.verdict ≡ 0 → Permitted t b q × (room ≡ true)
  allowed e =
      let stages = plan_passes written checks b plan (state_after t b q) (planned t b q) e in
      (ap number_of (stages_pass true t b q (stages_of room t b q stages) refl), room_passed room t b q stages)

  done : Permitted t b q → room ≡ true → number_of o.verdict ≡ 0
  done p r =
      let stages = stages_pass room t b q (stages_of true t b q (number_passes _ p)) r in
      ap (λ (x : Outcome). number_of x.verdict)
      (plan_outcome_lem written checks b plan (state_after t b q) (planned t b q) (ap passes stages ∙ done_passes 0))

  holds : room ≡ leb (size * list_room (width t)) (length plan)
      → Demand2 size written t b q plan (number_of o.verdict) (count_of o.verdict) o.state o.plan
  unfolding planned
  holds is = record {
    accepts = (
      λ e. ((allowed e).0, leb-true _ _ (sym is ∙ (allowed e).1)),
      λ x. done x.0 (is ∙ le-leb _ _ x.1),
    );
    state = λ e. rw (plan_state_lem written checks b plan (state_after t b q) (planned t b q) e) (left_state t b q (stages_of room t b q
        (plan_passes written checks b plan (state_after t b q) (planned t b q) e)));
    calls = λ e. left_plan written checks b plan (state_after t b q) (planned t b q) e size long;
  }

pub demand2_words : (t b : List ℕ) (q : Request) (plan : List ℕ) → is_sleep q ≡ false → let o = plan_words t b q plan in
    Demand2Words t b q plan (number_of o.verdict) (count_of o.verdict) o.state o.plan
demand2_words t b q plan e =
    rw (words_request t b q plan e) (holds 1 (λ ws. ws) one_each _ t b q plan (ap (λ (k : ℕ). leb k (length plan))
    (sym (one-mul (list_room (width t))))))

pub demand2_bytes : (t b : List ℕ) (q : Request) (plan : List ℕ) → is_sleep q ≡ false → let o = plan_bytes t b q plan in
    Demand2Bytes t b q plan (number_of o.verdict) (count_of o.verdict) o.state o.plan
demand2_bytes t b q plan e = rw (bytes_request t b q plan e) (holds 4 word_bytes word_bytes_length _ t b q plan refl)
