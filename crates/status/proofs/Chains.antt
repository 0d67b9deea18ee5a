-- Answers 7 and 8, and what making a fresh state leaves: one law for each way out.
use mathlib.Core.Path.{◌≡◌, refl, sym, ◌∙◌}
use mathlib.Core.Bool.{Bool, true, false, not, cond}
use mathlib.Core.List.{List, [], ◌∷◌}
use Prim.Native.Nat.{ℕ}
use native.Mathlib.Omega.{arith}
use borrow.Author.Tests.{eq-eqb, ne_eqb, not-true, not-false}
use lib.Dec.{eqb, ltb}
use lib.ListN.{length}
use Rattle.table.specs.Layout.{WellSized}
use Rattle.sets.proofs.Laws.{decide}
use Rattle.rules.specs.Verdict.{Verdict}
use Rattle.std.specs.Prelude.{Ok, Err, Some, None, IsErrAnd}
use Rattle.rules.specs.declared.Refusal.{Refusal}
use Rattle.rules.specs.Verdict.{refuse}
use Rattle.rules.specs.declared.Reason.TheVariants.{BadState, Inconsistent}
use Rattle.rules.specs.Index.{least}
use Rattle.rules.specs.Answers.{passes, first_of, unless, lowest}
use Rattle.rules.specs.Station.{width, limit, station}
use Rattle.rules.specs.Table.{table_verdict}
use Rattle.rules.specs.Status.{entries, status_of, status, image_size, entries_good, on_good, values_good, image_good, values_verdict}
use Rattle.rules.specs.Status.{consistency_verdict, state_verdict, image_of, fresh_status}
use Rattle.rules.specs.BringUp.{but_power_verdict, state_but_power_verdict}
use Rattle.rules.specs.Outcomes.{outcome, fresh_verdict, fresh, table_and_state_verdict}
use Rattle.rules.proofs.Answers.{done_passes, refused_stops, first_pass, first_stop, first_alone, unless_of, ok_passed, err_stopped, handed_on}
use Rattle.laws.proofs.Accepted.{accepted}
use Rattle.laws.proofs.States.{GoodValues, values_of}
use Rattle.table.proofs.Verdicts.{sized_done, sized_told, sized_passed, table_passed}
use Rattle.status.proofs.Keeps.{with_power, without_power}
use Rattle.status.specs.Ready.{Ready, consistency_verdict_with}

-- ---- the image; n is the size that it has, good and fits are what the tests of the entries and of the on-set returned
module _ (t b : List ℕ) (n : ℕ) (z : n ≡ image_size (width t)) where
  pub length_bad : (length b ≡ n → ⊥) → false ≡ image_good t b
  unfolding image_good
  length_bad m = rw (ne_eqb (length b) (image_size (width t)) (rw z at m)) refl

  module _ (good : Bool) (l : length b ≡ n) (q : good ≡ entries_good (limit (width t)) (station t) (entries t b)) where
    long : eqb (length b) (image_size (width t)) ≡ true
    long = eq-eqb (length b) (image_size (width t)) (l ∙ z)

    pub entries_bad : good ≡ false → good ≡ image_good t b
    unfolding image_good values_good status_of
    entries_bad m = m ∙ rw (long, ← q, m) refl

    pub on_last : good ≡ true → (on : ℕ) (fits : Bool) → on ≡ (status t b).on → fits ≡ on_good (station t) on → fits ≡ image_good t b
    unfolding image_good values_good status_of
    on_last m on fits r o = rw (long, ← q, m, ← r, ← o) refl

pub ruleset image_laws = (sized_done, length_bad, entries_bad, on_last)

-- ---- a check of numbered things ends a chain as it is
lowest_last : (bad : ℕ → Bool) (n : ℕ) (refusal : ℕ → Verdict) → ((i : ℕ) → passes (refusal i) ≡ false)
    → first_of (lowest bad n refusal ∷ []) (Ok 0) ≡ lowest bad n refusal
unfolding lowest passes
lowest_last bad n refusal r =
    decide (ltb (least bad n) n) (λ e. rw e (first_stop (refusal (least bad n)) [] (Ok 0) (r (least bad n))))
    (λ e. rw e (first_pass (Ok 0) [] (Ok 0) refl ∙ (unfold first_of in refl)))

-- ---- 7 and 8; g is what the test of the image returned
module _ (t b : List ℕ) (g : Bool) (i : g ≡ image_good t b) where
  pub state_values : not g ≡ true → refuse BadState 0 ≡ state_verdict t b
  unfolding state_verdict values_verdict unless first_of passes
  state_values n = rw (← i, not-true g n) refl

  pub but_power_values : not g ≡ true → refuse BadState 0 ≡ state_but_power_verdict t b
  unfolding state_but_power_verdict values_verdict unless first_of passes
  but_power_values n = rw (← i, not-true g n) refl

  module _ (n : not g ≡ false) where
    values : GoodValues t b
    unfolding values_verdict
    values = values_of t b (rw (← i, not-false g n, unless_of true BadState 0 refl) (done_passes 0))

    pub image_long : length b ≡ image_size (width t)
    image_long = values.long

    pub ready_by : table_verdict t ≡ Ok 0 → Ready t b
    unfolding status_of
    ready_by e =
        let a = accepted t (rw e (done_passes 0)) in
        record {
          sized = sized_done t 0 e;
          parents = λ d h. (a.device d h).parent;
          long = omega (arith, values.long);
          good = values.entries;
        }

    pub state_is : (on : ℕ) (v : Verdict) → on ≡ (status t b).on → v ≡ consistency_verdict_with (Some on) (station t) (entries t b)
        → v ≡ state_verdict t b
    unfolding state_verdict values_verdict status_of consistency_verdict
    state_is on v r c =
        rw (← i, not-false g n, ← r, unless_of true BadState 0 refl, first_pass (Ok 0) _ (Ok 0) (done_passes 0))
        (c ∙ with_power (station t) (entries t b) on ∙ sym (lowest_last _ (station t).devices (refuse Inconsistent) (refused_stops Inconsistent)))

    -- whatever is on
    pub but_power_is : (v : Verdict) → v ≡ consistency_verdict_with None (station t) (entries t b) → v ≡ state_but_power_verdict t b
    unfolding state_but_power_verdict values_verdict status_of but_power_verdict
    but_power_is v c =
        rw (← i, not-false g n, unless_of true BadState 0 refl, first_pass (Ok 0) _ (Ok 0) (done_passes 0))
        (c ∙ without_power (station t) (entries t b)
        ∙ sym (lowest_last _ (station t).devices (refuse Inconsistent) (refused_stops Inconsistent)))

pub ruleset state_laws = (sized_done, image_long, ready_by, state_values, state_is)

pub ruleset but_power_laws = (sized_done, ready_by, but_power_values, but_power_is)

-- ---- 1 to 8; v is what the check of the table answered
state_alone : (t b : List ℕ) → first_of (state_verdict t b ∷ []) (Ok 0) ≡ state_verdict t b
unfolding state_verdict
state_alone t b = first_alone _

module _ (t b : List ℕ) (v : Verdict) (e : v ≡ table_verdict t) where
  pub table_first : passes v ≡ false → v ≡ table_and_state_verdict t b
  unfolding table_and_state_verdict
  table_first n = rw (← e) (sym (first_stop v _ (Ok 0) n))

  pub state_second : passes v ≡ true → (u : Verdict) → u ≡ state_verdict t b → u ≡ table_and_state_verdict t b
  unfolding table_and_state_verdict
  state_second n u g = g ∙ sym (rw (← e) (first_pass v _ (Ok 0) n ∙ state_alone t b))

pub ruleset both_laws = (table_passed, table_first, state_second)

-- ---- a fresh state; v is what the check of the table answered, k the size that an image has
module _ (t b : List ℕ) (v : Verdict) (e : v ≡ table_verdict t) where
  fresh_first : passes v ≡ false → fresh_verdict t b ≡ v
  unfolding fresh_verdict
  fresh_first n = rw (← e) (first_stop v _ (Ok 0) n)

  pub fresh_refused : passes v ≡ false → v ≡ (fresh t b).verdict
  unfolding fresh outcome
  fresh_refused n = sym (fresh_first n)

  pub fresh_refused_state : passes v ≡ false → b ≡ (fresh t b).state
  unfolding fresh outcome
  fresh_refused_state n = rw (fresh_first n, n) refl

  fresh_second : passes v ≡ true → (good : Bool) → eqb (length b) (image_size (width t)) ≡ good → fresh_verdict t b ≡ cond good (Ok 0)
      (refuse BadState 0)
  unfolding fresh_verdict
  fresh_second n true q = rw (← e, first_pass v _ (Ok 0) n, q) (unfold unless first_of passes in refl)
  fresh_second n false q = rw (← e, first_pass v _ (Ok 0) n, q) (unfold unless first_of passes in refl)

  module _ (k : ℕ) (z : k ≡ image_size (width t)) (n : passes v ≡ true) where
    pub fresh_length : (length b ≡ k → ⊥) → refuse BadState 0 ≡ (fresh t b).verdict
    unfolding fresh outcome
    fresh_length l = sym (fresh_second n false (ne_eqb (length b) (image_size (width t)) (rw z at l)))

    pub fresh_length_state : (length b ≡ k → ⊥) → b ≡ (fresh t b).state
    unfolding fresh outcome passes
    fresh_length_state l = rw (fresh_second n false (ne_eqb (length b) (image_size (width t)) (rw z at l))) refl

    pub fresh_done : length b ≡ k → Ok 0 ≡ (fresh t b).verdict
    unfolding fresh outcome
    fresh_done l = sym (fresh_second n true (eq-eqb (length b) (image_size (width t)) (l ∙ z)))

    pub fresh_done_state : (m : List ℕ) → length b ≡ k → m ≡ image_of (width t) (fresh_status (station t)) → m ≡ (fresh t b).state
    unfolding fresh outcome passes
    fresh_done_state m l h = rw (fresh_second n true (eq-eqb (length b) (image_size (width t)) (l ∙ z))) h

    pub fresh_long : length b ≡ k → length b ≡ image_size (width t)
    fresh_long l = l ∙ z

pub ruleset fresh_laws = (
  sized_told,
  sized_passed,
  fresh_refused,
  fresh_refused_state,
  fresh_length,
  fresh_length_state,
  fresh_done,
  fresh_done_state,
  fresh_long,
)

-- the same by the arm that was taken
module _ (t b : List ℕ) (v : Verdict) (e : v ≡ table_verdict t) where
  module _ (r : Refusal) (a : v ≡ Err r) where
    pub fresh_err : Err r ≡ (fresh t b).verdict
    fresh_err = sym a ∙ fresh_refused t b v e (err_stopped v r a)

    pub fresh_err_state : b ≡ (fresh t b).state
    fresh_err_state = fresh_refused_state t b v e (err_stopped v r a)

    pub fresh_handed : (u : Verdict) → IsErrAnd u (λ y. y ≡ r) → u ≡ (fresh t b).verdict
    fresh_handed u g = handed_on v u r a g ∙ fresh_refused t b v e (err_stopped v r a)

  module _ (n : ℕ) (a : v ≡ Ok n) where
    pub fresh_sized : WellSized t
    fresh_sized = sized_passed t v e (ok_passed v n a)

    module _ (k : ℕ) (z : k ≡ image_size (width t)) where
      pub fresh_short : (length b ≡ k → ⊥) → refuse BadState 0 ≡ (fresh t b).verdict
      fresh_short = fresh_length t b v e k z (ok_passed v n a)

      pub fresh_short_state : (length b ≡ k → ⊥) → b ≡ (fresh t b).state
      fresh_short_state = fresh_length_state t b v e k z (ok_passed v n a)

      pub fresh_whole : length b ≡ k → Ok n ≡ (fresh t b).verdict
      fresh_whole l = sym a ∙ e ∙ table_passed t v e (ok_passed v n a) ∙ fresh_done t b v e k z (ok_passed v n a) l

      pub fresh_whole_state : (m : List ℕ) → length b ≡ k → m ≡ image_of (width t) (fresh_status (station t)) → m ≡ (fresh t b).state
      fresh_whole_state = fresh_done_state t b v e k z (ok_passed v n a)

pub ruleset fresh_stops = (fresh_err, fresh_err_state, fresh_handed)

pub ruleset fresh_arms = (fresh_sized, fresh_short, fresh_short_state, fresh_whole, fresh_whole_state, fresh_long)
