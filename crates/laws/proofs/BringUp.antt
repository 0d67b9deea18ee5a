-- What bring-up promises holds of every table, state and plan: the state afterwards is consistent, a consistent one gets no ONs, and a
-- second time there are no calls. From the laws of plans and of what is turned on and off.
use mathlib.Core.Path.{◌≡◌, refl, sym, ap, ◌∙◌}
use mathlib.Core.Bool.{Bool, true, and-false}
use mathlib.Core.List.{List, [], map, map-map}
use Prim.Native.Nat.{ℕ, ◌*◌, ◌^◌, ◌≤◌, ◌<◌}
use native.Mathlib.Nat.{one-mul}
use borrow.Author.Tests.{leb-true, le-leb, not-false}
use lib.Dec.{leb}
use lib.ListN.{length}
use Rattle.sets.specs.Sets.{member, minus}
use Rattle.sets.proofs.Laws.{decide, empty, minus_lt, member_minus, member_none}
use Rattle.words.specs.Words.{put, word_bytes}
use Rattle.words.proofs.Laws.{word_bytes_length}
use Rattle.rules.specs.Verdict.{Verdict}
use Rattle.std.specs.Prelude.{Ok}
use Rattle.rules.specs.Verdict.{refuse}
use Rattle.rules.specs.declared.Reason.TheVariants.{Inconsistent}
use Rattle.rules.specs.Answers.{number_of, count_of, passes}
use Rattle.rules.specs.Station.{Station, width, limit, station}
use Rattle.rules.specs.Table.{table_verdict}
use Rattle.rules.specs.Status.{no_entry, status, image_of, consistency_verdict, state_verdict, consistent_but_power}
use Rattle.rules.specs.Calls.{to_turn_on, to_turn_off, rising, turn_on, turn_off, arrange, switch_calls, status_needed}
use Rattle.rules.specs.Check.{off_word}
use Rattle.rules.specs.Outcomes.{Outcome, list_room, plan_outcome}
use Rattle.rules.specs.BringUp.{but_power_verdict, bring_up_stages, bring_up_calls, bring_up_list, state_brought_up, bring_up_words}
use Rattle.rules.specs.BringUp.{bring_up_bytes}
use Rattle.rules.proofs.Answers.{first_both, done_passes, refused_stops, lowest_at, lowest_of_lem}
use Rattle.laws.specs.Demand2.{ExactlyNeeded}
use Rattle.laws.specs.Demand3.{needed_before}
use Rattle.laws.specs.BringUp.{BringsUp, BringsUpWords, BringsUpBytes}
use Rattle.laws.proofs.Accepted.{accepted}
use Rattle.laws.proofs.Needed.{all_powered}
use Rattle.laws.proofs.Consistency.{Apart, apart_of, apart_is}
use Rattle.laws.proofs.States.{station_rules, needed_small, ConsistentStatus, GoodValues, values_of, consistent_of, entries_out}
use Rattle.laws.proofs.States.{needs_on, powered_apart, image_reads, image_consistent}
use Rattle.laws.proofs.Stages.{BringUpPassed, bring_up_of, bring_up_pass}
use Rattle.laws.proofs.Lists.{number_passes, plan_outcome_lem, plan_passes, plan_state_lem, left_plan, one_each, written_none}
use Rattle.laws.proofs.Sort.{times_none}
use Rattle.laws.proofs.Order.{times_rising}
use Rattle.laws.proofs.Demand2.{exactly_needed}

-- ---- nothing to turn on: what is in the target is on
minus_none : (n a b : ℕ) → a < 2 ^ n → ((r : ℕ) → member a r ≡ true → member b r ≡ true) → minus a b ≡ 0
minus_none n a b h sub =
    empty n (minus a b) (minus_lt n a b h)
    (λ r l. member_minus a b r ∙ decide (member a r) (λ e. rw (e, sub r e) refl) (λ e. rw e refl))

rising_none : (s : Station) → rising s 0 ≡ []
rising_none s = times_none (rising s 0) (λ r. times_rising s 0 r ∙ rw (member_none r, and-false) refl)

module _ (s : Station) (n on target : ℕ) where
  ons_none : target < 2 ^ n → ((r : ℕ) → member target r ≡ true → member on r ≡ true) → turn_on s on target ≡ []
  unfolding turn_on to_turn_on
  ons_none h sub = rw (minus_none n target on h sub) (rising_none s)

  offs_none : on < 2 ^ n → ((r : ℕ) → member on r ≡ true → member target r ≡ true) → turn_off s on target ≡ []
  unfolding turn_off to_turn_off
  offs_none h sub = rw (minus_none n on target h sub, rising_none s) refl

-- ---- the image of a status that has on exactly what its entries need: bring-up has nothing to do
pub record Settled (t b : List ℕ) : Type 0 where
  pub on : (status t b).on ≡ needed_before t b
  pub image : image_of (width t) (status t b) ≡ b

module _ (t b : List ℕ) (z : Settled t b) where
  -- it leaves the state as it is
  pub settled_state : state_brought_up t b ≡ b
  unfolding state_brought_up status_needed
  settled_state = rw (← z.on) z.image

  -- there are no calls
  pub settled_list : passes (table_verdict t) ≡ true → bring_up_list t b ≡ []
  unfolding bring_up_list bring_up_calls switch_calls arrange
  settled_list e =
      let s = station t in
      let n = needed_before t b in
      let h = needed_small t e (status t b).entries in
      rw (z.on, ons_none s s.resources n n h (λ r m. m), offs_none s s.resources n n h (λ r m. m)) refl

-- ---- the state afterwards
module _ (t b : List ℕ) (g : BringUpPassed t b) where
  kept : GoodValues t b
  kept = values_of t b g.values

  apart : (d : ℕ) → d < (station t).devices → Apart (station t) (status t b).entries d
  unfolding but_power_verdict
  apart d h =
      apart_of (station t) (status t b).entries d (not-false (consistent_but_power (station t) (status t b).entries d)
      (lowest_at _ (station t).devices (refuse Inconsistent) (refused_stops Inconsistent) g.apart d h))

  up : ConsistentStatus (limit (width t)) (station t) (status_needed (station t) (status t b))
  unfolding status_needed
  up =
      record {
        entries = kept.entries;
        on = needed_small t g.table (status t b).entries;
        apart = apart;
        power = λ d h. all_powered (station t).resources (station t) (status t b).entries d h
            ((station_rules t (accepted t g.table)).sets d h);
      }

  up_out : (k : ℕ) → limit (width t) ≤ k → (status_needed (station t) (status t b)).entries k ≡ no_entry
  unfolding status_needed
  up_out k h = entries_out (width t) b k h

  pub up_reads : status t (state_brought_up t b) ≡ status_needed (station t) (status t b)
  unfolding state_brought_up
  up_reads = image_reads t g.table (status_needed (station t) (status t b)) up up_out

  pub up_consistent : state_verdict t (state_brought_up t b) ≡ Ok 0
  unfolding state_brought_up
  up_consistent = image_consistent t g.table (status_needed (station t) (status t b)) up up_out

  -- the state afterwards is such an image
  pub up_settled : Settled t (state_brought_up t b)
  unfolding status_needed state_brought_up
  up_settled = record { on = rw up_reads refl; image = ap (image_of (width t)) up_reads }

  up_exactly : ExactlyNeeded t (state_brought_up t b)
  up_exactly = exactly_needed t (state_brought_up t b) up_consistent up_settled.on

  pub up_entries : (d : ℕ) → (status t (state_brought_up t b)).entries d ≡ (status t b).entries d
  up_entries d = rw up_reads (unfold status_needed in refl)

-- a consistent state passes what bring-up asks
pub consistent_passes : (t b : List ℕ) → passes (table_verdict t) ≡ true → passes (state_verdict t b) ≡ true → BringUpPassed t b
unfolding state_verdict but_power_verdict
consistent_passes t b e f =
    record {
      table = e;
      values = (first_both _ _ _ f).0;
      apart = ap passes (lowest_of_lem _ (station t).devices (refuse Inconsistent)
          (λ d h. rw (apart_is (station t) (status t b).entries d ((consistent_of t b f).1.apart d h)) refl)) ∙ done_passes 0;
    }

-- with what it needs on, a state can be inconsistent only for another reason
eight_is : (t b : List ℕ) → passes (table_verdict t) ≡ true
    → but_power_verdict (station t) (status t b).entries ≡ consistency_verdict (station t) (status_needed (station t) (status t b))
unfolding status_needed
eight_is t b e =
    sym (powered_apart (station t) (status t b).entries (needed_before t b)
    (λ d h. all_powered (station t).resources (station t) (status t b).entries d h ((station_rules t (accepted t e)).sets d h)))

-- ---- the list
module _ (t b : List ℕ) (e : passes (table_verdict t) ≡ true) where
  -- of a consistent state
  pub offs_alone_lem : passes (state_verdict t b) ≡ true
      → bring_up_list t b ≡ map off_word (turn_off (station t) (status t b).on (needed_before t b))
  unfolding bring_up_list bring_up_calls switch_calls arrange
  offs_alone_lem f =
      rw (ons_none (station t) (station t).resources (status t b).on (needed_before t b) (needed_small t e (status t b).entries)
      (needs_on t b f))
      (simp map-map)

-- ---- bring-up, on words and on bytes
module _ (size : ℕ) (written : List ℕ → List ℕ) (long : (ws : List ℕ) → length (written ws) ≡ size * length ws)
    (bringUp : List ℕ → List ℕ → List ℕ → Outcome)
    (is : (t b plan : List ℕ) → bringUp t b plan ≡ plan_outcome written (bring_up_stages (leb (size * list_room (width t)) (length plan)) t b) b
    plan (state_brought_up t b) (bring_up_list t b)) where
  module _ (t b plan : List ℕ) where
    abbrev room : Bool
    room = leb (size * list_room (width t)) (length plan)

    abbrev checks : Verdict
    checks = bring_up_stages room t b

    abbrev o : Outcome
    o = plan_outcome written checks b plan (state_brought_up t b) (bring_up_list t b)

    accepted_of : BringUpPassed t b → room ≡ true → o ≡ record {
      verdict = Ok (length (bring_up_list t b));
      state = state_brought_up t b;
      plan = put plan 0 (written (bring_up_list t b));
    }
    accepted_of g r =
        plan_outcome_lem written checks b plan (state_brought_up t b) (bring_up_list t b) (ap passes (bring_up_pass room t b g r) ∙ done_passes 0)

    module _ (e : number_of o.verdict ≡ 0) where
      stages : BringUpPassed t b × (room ≡ true)
      stages = bring_up_of room t b (plan_passes written checks b plan (state_brought_up t b) (bring_up_list t b) e)

      left_state : o.state ≡ state_brought_up t b
      left_state = plan_state_lem written checks b plan (state_brought_up t b) (bring_up_list t b) e

  -- a second time
  again : (t b p : List ℕ) (g : BringUpPassed t b) → leb (size * list_room (width t)) (length p) ≡ true
      → bringUp t (state_brought_up t b) p ≡ record { verdict = Ok 0; state = state_brought_up t b; plan = p }
  again t b p g r =
      let b' = state_brought_up t b in
      let z = up_settled t b g in
      let good = consistent_passes t b' g.table (ap passes (up_consistent t b g) ∙ done_passes 0) in
      is t b' p ∙ accepted_of t b' p good r
      ∙ rw (settled_list t b' z g.table, settled_state t b' z, written_none size written long) (unfold put in refl)

  holds : (t b plan : List ℕ) → let o = bringUp t b plan in
      BringsUp size written bringUp t b plan (number_of o.verdict) (count_of o.verdict) o.state o.plan
  holds t b plan = rw (is t b plan) (record {
    accepts = (
      λ e. let k = stages t b plan e in (ap number_of (bring_up_pass true t b k.0 refl), leb-true _ _ k.1),
      λ x. ap (λ (r : Outcome). number_of r.verdict)
          (accepted_of t b plan (bring_up_of true t b (number_passes _ x.0)).0 (le-leb _ _ x.1)),
    );
    state = λ e. rw (left_state t b plan e) (up_exactly t b (stages t b plan e).0);
    entries = λ e d. rw (left_state t b plan e) (up_entries t b (stages t b plan e).0 d);
    calls = λ e. left_plan written (checks t b plan) b plan (state_brought_up t b) (bring_up_list t b) e size long;
    eight = λ e. eight_is t b (number_passes _ e);
    offs = λ e f. (left_plan written (checks t b plan) b plan (state_brought_up t b) (bring_up_list t b) e size long).front
        ∙ ap written (offs_alone_lem t b (stages t b plan e).0.table (number_passes _ f));
    again = λ e p r. rw (left_state t b plan e) (again t b p (stages t b plan e).0 (le-leb _ _ r));
  })

pub brings_up_words : (t b plan : List ℕ) → let o = bring_up_words t b plan in
    BringsUpWords t b plan (number_of o.verdict) (count_of o.verdict) o.state o.plan
brings_up_words = holds 1 (λ ws. ws) one_each bring_up_words (λ t b plan. unfold bring_up_words in rw (one-mul (list_room (width t))) refl)

pub brings_up_bytes : (t b plan : List ℕ) → let o = bring_up_bytes t b plan in
    BringsUpBytes t b plan (number_of o.verdict) (count_of o.verdict) o.state o.plan
brings_up_bytes = holds 4 word_bytes word_bytes_length bring_up_bytes (λ t b plan. unfold bring_up_bytes in refl)
