-- Demand 3 holds of every list: from the equivalence of test and definition, the execution theorem, and what accepted tables and states
-- give.
use mathlib.Core.Path.{◌≡◌, refl, sym, ap, ◌∙◌}
use mathlib.Core.Bool.{Bool, true, false, ◌&&◌, true≢false}
use mathlib.Core.List.{List, ◌++◌, map, append-nil}
use mathlib.Core.Logic.{◌↔◌, ⊎_elim}
use Prim.Native.Nat.{ℕ, ◌≤◌, ◌<◌}
use native.Mathlib.Omega.{arith}
use borrow.Author.Tests.{eqb-true}
use lib.Dec.{eqb, leb}
use lib.ListN.{length, get_or, take}
use Rattle.sets.specs.Sets.{member}
use Rattle.sets.proofs.Laws.{decide, subset_at}
use Rattle.rules.specs.declared.Request.{Request}
use Rattle.rules.specs.declared.Call.{Call}
use Rattle.std.specs.Prelude.{Some}
use Rattle.std.specs.Prelude.{Ok}
use Rattle.rules.specs.Answers.{number_of, count_of, passes}
use Rattle.rules.specs.Station.{Station, width, station}
use Rattle.rules.specs.declared.Entry.{Entry}
use Rattle.rules.specs.Power.{needs, needed}
use Rattle.rules.specs.Status.{status}
use Rattle.rules.specs.Request.{entries_after}
use Rattle.rules.specs.Calls.{word_of, list_of, own_call, own_calls, own_last, end_set, calls}
use Rattle.rules.specs.Conforms.{ConformsTo}
use Rattle.rules.specs.Check.{conforming_to, first_calls, last_calls, on_word, off_word}
use Rattle.rules.specs.Execution.{execution}
use Rattle.rules.specs.Sleep.{is_sleep}
use Rattle.rules.specs.Outcomes.{list_room, stages_verdict, permitted_verdict, planned, state_after, plan_words, check_words}
use Rattle.rules.proofs.Answers.{done_passes}
use Rattle.laws.specs.Carried.{All, Other, listed, Carried}
use Rattle.laws.specs.Demand3.{Passed, needed_before, needed_after, own_entry, own_needs, on_after, Demand3}
use Rattle.laws.proofs.Tests.{or_cases, or_left, or_right}
use Rattle.laws.proofs.Needed.{needed_of}
use Rattle.laws.proofs.States.{nameable, needed_small, consistent_of, needs_on, form_passed, form_device}
use Rattle.laws.proofs.Stages.{Stages, stages_of, stages_pass}
use Rattle.laws.proofs.Lists.{number_passes, plan_passes, own_words_lem, list_of_lem, list_at}
use Rattle.laws.proofs.Plans.{words_request}
use Rattle.laws.proofs.Conform.{Switchable, conforming_iff, calls_conform}
use Rattle.laws.proofs.Place.{other_place}
use Rattle.laws.proofs.Arrange.{own_other, conforms_listed, conforms_carried, conforms_keeps, conforms_ends}

-- ---- a list passes exactly if the request is permitted and the test holds
pub passed_of : (t b : List ℕ) (q : Request) (ws : List ℕ) → Stages t b q → conforming_to (station t) (status t b) q ws ≡ true
    → check_words t b q ws ≡ Ok 0
unfolding check_words
passed_of t b q ws g e = list_of_lem _ _ (ap passes (stages_pass true t b q g refl) ∙ done_passes 0) e

pub passed_at : (t b : List ℕ) (q : Request) (ws : List ℕ) → passes (check_words t b q ws) ≡ true → Stages t b q
    × (conforming_to (station t) (status t b) q ws ≡ true)
unfolding check_words
passed_at t b q ws e = let x = list_at _ _ e in (stages_of true t b q x.0, x.1)

-- ---- the needs that the own method must find are those after exactly where it comes last
own_after : (q : Request) (before after : Entry) → own_last q ≡ true → own_entry q before after ≡ after
unfolding own_last
own_after q before after e =
    decide (eqb q.kind 1)
    (λ k. let z : eqb q.a 0 ≡ true = let o = rw (eqb-true q.kind 1 k) at e in ⊎_elim (λ x. x) (λ x. absurd (true≢false (sym x)))
    (or_cases (eqb q.a 0) false o) in rw (k, z) refl)
    (λ k. rw (k, (rw k at e)) refl)

own_before : (q : Request) (before after : Entry) → own_last q ≡ false → own_entry q before after ≡ before
unfolding own_last
own_before q before after e =
    decide (eqb q.kind 1)
    (λ k. decide (eqb q.a 0) (λ z. absurd (true≢false (sym (or_left (eqb q.kind 1 && eqb q.a 0) _ (rw (k, z) refl)) ∙ e)))
    (λ z. rw (k, z) refl))
    (λ k. decide (eqb q.kind 2) (λ z. absurd (true≢false (sym (or_right (eqb q.kind 1 && eqb q.a 0) _ z) ∙ e)))
    (λ z. rw (k, z) refl))

module _ (t b : List ℕ) (q : Request) (g : Stages t b q) where
  asked : q.device < (station t).devices
  asked = form_device (station t) q (form_passed (station t) _ q g.request)

  abbrev own : List Call
  own = own_calls (station t) (status t b) q

  pub able : Switchable (station t) own (status t b).on (needed_after t b q)
  unfolding end_set
  able =
      record {
        nameable = nameable t g.table;
        start = (consistent_of t b g.state).1.on;
        end = needed_small t g.table (entries_after (status t b).entries q);
        other = own_other (station t) ((status t b).entries q.device) q;
      }

  pub test_iff : (ws : List ℕ) → (conforming_to (station t) (status t b) q ws ≡ true) ↔ ConformsTo (station t) (status t b) q ws
  test_iff = conforming_iff (station t) own (own_last q) (status t b).on (needed_after t b q) able

  pub planner_conforms : ConformsTo (station t) (status t b) q (planned t b q)
  unfolding planned calls
  planner_conforms = calls_conform (station t) own (own_last q) (status t b).on (needed_after t b q) able

  -- the own method finds the start where it comes first and the end where it comes last
  first_none_last : (last : Bool) (n : ℕ) → last ≡ true → n < length (map word_of (first_calls last own)) → ⊥
  unfolding first_calls
  first_none_last true n e h = omega arith
  first_none_last false n e h = true≢false (sym e)

  last_none_first : (last : Bool) (ons offs ws : List ℕ) (n : ℕ) → last ≡ false
      → ws ≡ listed (map word_of (first_calls last own)) ons offs (map word_of (last_calls last own))
      → n < length ws → length (map word_of (first_calls last own) ++ map on_word ons ++ map off_word offs) ≤ n → ⊥
  unfolding last_calls
  last_none_first true ons offs ws n e same h k = true≢false e
  last_none_first false ons offs ws n e same h k =
      let m = map word_of (first_calls false own) ++ map on_word ons ++ map off_word offs in
      let long : length ws ≡ length m = ap length (same ∙ append-nil m) in
      omega arith

  after_needed : (r : ℕ) → member (needs (station t) q.device (entries_after (status t b).entries q q.device)) r ≡ true
      → member (needed_after t b q) r ≡ true
  unfolding end_set needed
  after_needed r e = needed_of (station t) (entries_after (status t b).entries q) (station t).devices q.device r asked e

  before_needed : (r : ℕ) → member (needs (station t) q.device ((status t b).entries q.device)) r ≡ true
      → member (status t b).on r ≡ true
  before_needed r e = subset_at _ _ r ((consistent_of t b g.state).1.power q.device asked) e

  module _ (ws : List ℕ) (c : ConformsTo (station t) (status t b) q ws) where
    abbrev first : List ℕ
    first = map word_of (first_calls (own_last q) own)

    abbrev final : List ℕ
    final = map word_of (last_calls (own_last q) own)

    same : ws ≡ listed first c.ons c.offs final
    same = conforms_listed (station t) own (own_last q) (status t b).on (needed_after t b q) able ws c

    list_carried : Carried (member (status t b).on) (member (needed_after t b q)) first c.ons c.offs final
    list_carried = conforms_carried (station t) own (own_last q) (status t b).on (needed_after t b q) able ws c

    pub own_finds : (n : ℕ) → n < length ws → Other (get_or ws n 0) → (r : ℕ) → member (own_needs t b q) r ≡ true → on_after t b ws n r ≡ true
    own_finds n h o r m =
        decide (own_last q)
        (λ e. ⊎_elim (λ k. absurd (first_none_last (own_last q) n e k))
        (λ k. ap (λ (l : List ℕ). on_after t b l n r) same ∙ list_carried.last_finds n r k ∙ after_needed r (rw (own_after q _ _ e) at m))
        (other_place first c.ons c.offs final n (rw same at o)))
        (λ e. ⊎_elim (λ k. ap (λ (l : List ℕ). on_after t b l n r) same ∙ list_carried.first_finds n r (omega arith)
        ∙ before_needed r (rw (own_before q _ _ e) at m))
        (λ k. absurd (last_none_first (own_last q) c.ons c.offs ws n e same h k))
        (other_place first c.ons c.offs final n (rw same at o)))

    pub list_keeps : (n r : ℕ) → member (needed_before t b) r ≡ true → member (needed_after t b q) r ≡ true → on_after t b ws n r ≡ true
    list_keeps n r x y =
        conforms_keeps (station t) own (own_last q) (status t b).on (needed_after t b q) able ws c n r (needs_on t b g.state r x) y

    pub list_ends : (r : ℕ) → execution (member (status t b).on) ws r ≡ member (needed_after t b q) r
    list_ends = conforms_ends (station t) own (own_last q) (status t b).on (needed_after t b q) able ws c

-- the own call's word is neither `_ON` nor `_OFF`
other_word : (s : Station) (e : Entry) (q : Request) (c : Call) → own_call s e q ≡ Some c → Other (word_of c)
unfolding list_of All
other_word s e q c one = (rw one at (own_other s e q)).0

-- ---- demand 3
planner_words : (t b : List ℕ) (q : Request) → is_sleep q ≡ false → (plan : List ℕ) → number_of (plan_words t b q plan).verdict ≡ 0
    → Passed t b q (take (count_of (plan_words t b q plan).verdict) (plan_words t b q plan).plan)
unfolding check_words
planner_words t b q kind plan e =
    let room = leb (list_room (width t)) (length plan) in
    let stages = stages_verdict room t b q in
    let done = rw (words_request t b q plan kind) at e in
    let g = stages_of room t b q (plan_passes (λ ws. ws) stages b plan (state_after t b q) (planned t b q) done) in
    rw (words_request t b q plan kind)
    (own_words_lem stages (permitted_verdict t b q) (conforming_to (station t) (status t b) q) b plan (state_after t b q) (planned t b q)
    (ap passes (stages_pass true t b q g refl) ∙ done_passes 0) ((test_iff t b q g _).1 (planner_conforms t b q g)) done)

pub demand3 : (t b : List ℕ) (q : Request) (ws : List ℕ) → Demand3 t b q ws
demand3 t b q ws =
    let passed : Passed t b q ws → Stages t b q × (conforming_to (station t) (status t b) q ws ≡ true) =
    λ e. passed_at t b q ws (number_passes _ e) in
    let conforms : (e : Passed t b q ws) → ConformsTo (station t) (status t b) q ws = λ e. let p = passed e in
    (test_iff t b q p.0 ws).0 p.1 in
    record {
      exactly = λ e. let g = stages_of true t b q (number_passes _ e) in (
        λ p. (test_iff t b q g ws).0 (passed_at t b q ws (number_passes _ p)).1,
        λ c. ap number_of
            (passed_of t b q ws g ((test_iff t b q g ws).1 c)),
      );
      keeps = λ e. list_keeps t b q (passed e).0 ws (conforms e);
      own = λ e c one n h is r m.
          own_finds t b q (passed e).0 ws (conforms e) n h (rw is (other_word (station t) ((status t b).entries q.device) q c one)) r m;
      ends = λ e. list_ends t b q (passed e).0 ws (conforms e);
      planner = planner_words t b q;
    }
