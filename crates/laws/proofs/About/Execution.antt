-- The conclusions from the execution theorem and from a run of requests.
use Prim.Native.Nat.{ℕ}
use mathlib.Core.Path.{◌≡◌, refl, sym, ◌∙◌, fun_ext}
use mathlib.Core.Bool.{true≢false}
use mathlib.Core.List.{List, [], ◌∷◌, ◌++◌}
use Rattle.std.proofs.Math.Nat.{lt_of_not-le}
use native.Mathlib.Omega.{arith}
use Rattle.sets.proofs.Laws.{decide}
use Rattle.rules.specs.Outcomes.{plan_bytes}
use Rattle.laws.specs.Runs.{Turn, state_after_all}
use Rattle.laws.specs.About.Execution.{FromCarried, FromStaysConsistent}

pub from_carried : FromCarried
from_carried start target first ons offs last x =
    record {
      dropped = λ n r on off. decide (target r) (λ y. absurd (true≢false (sym (x.keeps n r on y) ∙ off))) (λ no. no);
      other_end = λ no. no (fun_ext x.ends);
      changed = λ n r no. lt_of_not-le (λ h. no (x.first_finds n r h));
      unfinished = λ n r no. lt_of_not-le (λ h. no (x.last_finds n r h));
    }

one_more_request : (t b : List ℕ) (rs : List Turn) (r : Turn)
    → state_after_all t b (rs ++ r ∷ []) ≡ (plan_bytes t (state_after_all t b rs) r.request r.plan).state
unfolding state_after_all
one_more_request t b [] r = refl
one_more_request t b (p ∷ rs) r = one_more_request t (plan_bytes t b p.request p.plan).state rs r

pub from_stays_consistent : FromStaysConsistent
unfolding state_after_all
from_stays_consistent t b x done =
    record {
      first = λ k e. omega (arith, x [] done);
      next = λ rs r k e. omega (arith, rw (one_more_request t _ rs r) at (x (rs ++ r ∷ []) done));
    }
