-- The conclusions from what bring-up promises.
use Prim.Native.Nat.{◌*◌}
use mathlib.Core.Path.{refl, sym, ap, ◌∙◌, fun_ext}
use Rattle.std.proofs.Math.Nat.{lt_of_not-le}
use native.Mathlib.Omega.{arith}
use lib.ListN.{take-append-drop}
use Rattle.rules.specs.Outcomes.{Outcome}
use Rattle.laws.specs.About.BringUp.{FromBringsUp}
use Rattle.laws.proofs.About.Planner.{from_exactly_needed, from_left_plan}

pub from_brings_up : FromBringsUp
from_brings_up size written bring_up t b plan number count b' plan' x =
    record {
      refuses_all = λ p no. lt_of_not-le (λ l. no (x.accepts.1 (p, l)));
      not_allowed = λ no e. no (x.accepts.0 e).0;
      no_room = λ l e. omega (arith, (x.accepts.0 e).1);
      entries = λ e no. no (fun_ext (x.entries e));
      state = λ e. from_exactly_needed t b' (x.state e);
      calls = λ e. from_left_plan size written _ plan count plan' (x.calls e);
      eight = λ e v is no. no (x.eight e ∙ is);
      offs = λ e good. sym (take-append-drop (size * count) plan') ∙ rw (x.offs e good, (x.calls e).kept) refl;
      again = λ e p p' l l'. rw (ap (λ (o : Outcome). o.state) (x.again e p l)) (x.again e p' l');
    }
