-- The conclusions from demand 2 and its parts.
use Prim.Native.Nat.{ℕ, ◌*◌}
use mathlib.Core.Path.{refl, sym, ap, ◌∙◌}
use mathlib.Core.Bool.{true≢false}
use mathlib.Core.List.{List}
use mathlib.Core.Logic.{⊎_elim}
use Rattle.std.proofs.Math.Nat.{lt_of_not-le}
use native.Mathlib.Omega.{arith}
use borrow.Author.Tests.{eqb-true, eqb-false}
use lib.Dec.{eqb}
use lib.ListN.{length, take-append-drop}
use Rattle.sets.proofs.Laws.{decide}
use Rattle.rules.specs.Status.{status}
use Rattle.laws.specs.About.Planner.{FromExactlyNeeded, FromLeftState, FromLeftPlan, FromDemand2}

pub from_exactly_needed : FromExactlyNeeded
from_exactly_needed t b x =
    record {
      missing = λ d r h m off. true≢false (sym ((x.on r).1 (d, h, m)) ∙ off);
      useless = λ r none on. let n = (x.on r).0 on in true≢false (sym n.2 ∙ none n.0 n.1);
      shallower = λ d h some l. ⊎_elim some (λ k. omega arith) (x.parents d h);
      refused = λ k e. omega (arith, x.good);
    }

pub from_left_state : FromLeftState
from_left_state t b q b' x = (
  from_exactly_needed t b' x.needed,
  record {
    untouched = λ no e. no (sym x.own ∙ ap (λ (l : List ℕ). (status t l).entries q.device) e);
    other = λ d no. decide (eqb d q.device)
        (λ e. no (rw (e, eqb-true d q.device e) x.own))
        (λ e. no (rw e (x.others d (eqb-false d q.device e))));
  },
)

pub from_left_plan : FromLeftPlan
from_left_plan size written words plan count plan' x =
    record {
      miscounted = λ no. no x.counts;
      another = λ list no e. no (sym e ∙ rw x.counts at x.front);
      whole = sym (take-append-drop (size * length words) plan') ∙ rw (← x.counts, x.front, x.kept) refl;
    }

pub from_demand2 : FromDemand2
from_demand2 size written t b q plan number count b' plan' x =
    record {
      refuses_all = λ p no. lt_of_not-le (λ l. no (x.accepts.1 (p, l)));
      not_permitted = λ no e. no (x.accepts.0 e).0;
      no_room = λ l e. omega (arith, (x.accepts.0 e).1);
      state = λ e. (from_left_state t b q b' (x.state e)).0;
      entries = λ e. (from_left_state t b q b' (x.state e)).1;
      calls = λ e. from_left_plan size written _ plan count plan' (x.calls e);
    }
