-- The own call of a request in range has a word.
use mathlib.Core.Path.{◌≡◌}
use mathlib.Core.Bool.{Bool, true, false}
use mathlib.Core.List.{List}
use Prim.Native.Nat.{ℕ, ◌≤◌, ◌<◌}
use native.Mathlib.Omega.{arith}
use borrow.Author.Tests.{eqb-false}
use lib.Dec.{eqb}
use Rattle.sets.proofs.Laws.{decide}
use Rattle.rules.specs.declared.Entry.{Entry}
use Rattle.rules.specs.declared.Request.{Request}
use Rattle.rules.specs.declared.Wake.TheVariants.{Enable, Disable}
use Rattle.rules.specs.declared.Call.{Call}
use Rattle.rules.specs.declared.Call.TheVariants.{SetState, SetWake}
use Rattle.std.specs.Prelude.{Option, Some}
use Rattle.rules.specs.Station.{count_d, station}
use Rattle.rules.specs.Request.{is_move, is_arm}
use Rattle.rules.specs.Calls.{only, method_for, move_call, wake_call, own_call}
use Rattle.table.specs.Layout.{WellSized}
use Rattle.calls.specs.Ranges.{InRange, OptionalInRange}

only_in_range : (b : Bool) (c : Call) → InRange c → OptionalInRange (only b c)
unfolding only
only_in_range true c h = h
only_in_range false c h = tt

method_in_range : (x : ℕ) → x ≤ 4 → method_for x ≤ 3
unfolding method_for
method_in_range x h = decide (eqb x 4) (λ e. rw e (omega arith)) (λ e. rw e (omega (arith, eqb-false x 4 e)))

-- the own call of a request in range for a device of the table
pub own_in_range : (t : List ℕ) (e : Entry) (q : Request) (c : Option Call)
    → c ≡ own_call (station t) e q → WellSized t → q.device < count_d t → q.a ≤ 4 → q.b ≤ 4 → OptionalInRange c
unfolding own_call move_call wake_call
own_in_range t e q c p z d a b =
    let small : q.device < 256 = omega arith in
    rw p
    (decide (is_move q) (λ m. rw m (only_in_range _ (SetState q.device (method_for q.a)) (small, method_in_range q.a a)))
    (λ m. decide (is_arm q) (λ n. rw (m, n) (only_in_range _ (SetWake q.device (Enable q.a q.b)) (small, (a, b))))
    (λ n. rw (m, n) (only_in_range _ (SetWake q.device Disable) (small, tt)))))

pub call_in_range : (o : Option Call) (c : Call) → OptionalInRange o → o ≡ Some c → InRange c
call_in_range o c h e = rw e at h
