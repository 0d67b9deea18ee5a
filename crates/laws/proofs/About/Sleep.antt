-- The conclusions from what sleep entry promises.
use Prim.Native.Nat.{ℕ}
use mathlib.Core.Path.{◌≡◌, sym, ap, ◌∙◌}
use mathlib.Core.List.{List, [], ◌∷◌, ◌++◌}
use Rattle.std.proofs.Math.Nat.{lt_of_not-le}
use native.Mathlib.Omega.{arith}
use Rattle.rules.specs.declared.Entry.{Entry}
use Rattle.rules.specs.declared.Request.{Request}
use Rattle.rules.specs.Outcomes.{Outcome, planned, planned_each, state_after, state_after_each}
use Rattle.laws.specs.Sleep.{Begins, InTurn}
use Rattle.laws.specs.About.Sleep.{NoWrongMove, FromInTurn, FromSleepEntry}
use Rattle.laws.proofs.About.Planner.{from_exactly_needed, from_left_plan}
use Rattle.laws.proofs.About.Checker.{from_demand3}

no_wrong_move : (t b : List ℕ) (q : Request) (words rest : List ℕ) → Begins t b q words rest → NoWrongMove t b q
no_wrong_move t b q words rest x =
    let c = from_demand3 t b q (planned t b q) x.demand in
    record {
      permitted = λ k e. omega (arith, x.permitted);
      passed = λ k e. omega (arith, x.passed);
      check = c;
      point = c.1 x.passed;
    }

each_in_turn : (t b : List ℕ) (before : List Request) (q : Request) (after : List Request) (words b' : List ℕ)
    → InTurn t b (before ++ q ∷ after) words b' → NoWrongMove t (state_after_each t b before) q
unfolding InTurn state_after_each
each_in_turn t b [] q after words b' x = no_wrong_move t b q words x.0 x.1.0
each_in_turn t b (p ∷ before) q after words b' x = each_in_turn t (state_after t b p) before q after x.0 b' x.1.1

all_words : (t b : List ℕ) (qs : List Request) (words b' : List ℕ) → InTurn t b qs words b' → words ≡ planned_each t b qs
unfolding InTurn planned_each
all_words t b [] words b' x = x.0
all_words t b (q ∷ qs) words b' x =
    x.1.0.whole ∙ ap (λ (l : List ℕ). planned t b q ++ l) (all_words t (state_after t b q) qs x.0 b' x.1.1)

last_state : (t b : List ℕ) (qs : List Request) (words b' : List ℕ) → InTurn t b qs words b' → b' ≡ state_after_each t b qs
unfolding InTurn state_after_each
last_state t b [] words b' x = sym x.1
last_state t b (q ∷ qs) words b' x = last_state t (state_after t b q) qs x.0 b' x.1.1

pub from_in_turn : FromInTurn
from_in_turn t b qs words b' x =
    record {
      each = λ before q after e. each_in_turn t b before q after words b' (rw e at x);
      other = λ no. no (all_words t b qs words b' x);
      left = λ no. no (last_state t b qs words b' x);
    }

pub from_sleep_entry : FromSleepEntry
from_sleep_entry size written plan_on t b q plan number count b' plan' x =
    record {
      refuses_all = λ p no. lt_of_not-le (λ l. no (x.accepts.1 (p, l)));
      not_allowed = λ no e. no (x.accepts.0 e).0;
      no_room = λ l e. omega (arith, (x.accepts.0 e).1);
      with_choice = λ states c e. (x.no_choice.0 e).1 states c;
      before = λ no e. no (x.no_choice.0 e).0;
      other = λ may none no. no (x.no_choice.1 (may, none));
      least = λ e states c lowest d h. omega (arith, x.least e states c d h, lowest _ (x.choice e) d h);
      armed = λ e d. ap (λ (v : Entry). v.armed) (x.entries e d);
      sleep = λ e d. ap (λ (v : Entry). v.sleep) (x.entries e d);
      wake = λ e d. ap (λ (v : Entry). v.wake) (x.entries e d);
      state = λ e. from_exactly_needed t b' (x.state e);
      calls = λ e. from_left_plan size written _ plan count plan' (x.calls e);
      moves = λ e some. from_in_turn t b _ _ b' (x.moves e some);
      offs = λ e none. (x.calls e).front ∙ ap written (x.offs e none);
      armed_for_other = λ d h a no e. no (x.wakes e d h a).0;
      not_in_wake = λ e d h a no. no (x.wakes e d h a).1;
      lost = λ e r low on. omega (arith, x.powered e r on);
      again = λ e p p' l l'. rw (ap (λ (o : Outcome). o.state) (x.again e p l)) (x.again e p' l');
    }
