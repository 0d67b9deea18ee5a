use mathlib.Core.Path.{◌∙◌}
use Prim.Native.Nat.{◌+◌}
use borrow.Author.Rules.{rules}
use Rattle.status.proofs.Ranges.{zero_even, zero_odd, zero_pair, zero_done, range_laws}
use Rattle.status.proofs.values.zero_from.Goals as goal
use Rattle.status.proofs.values.zero_from.Goals.{then-end-n-eq1, else-end-n-eq1, else-loop-i-test, then-loop-i-test+else-end-i-gt2}

pub loop-i-init : goal.loop-i-init
loop-i-init c =
    elim c.if-end-n-eq1.branch [
      | then-end-n-eq1 w ↦ (search rules, search rules, search rules, zero_odd _ _ _ _ _ w.read32.ensures (w.all-is ∙ w.from-all.ensures) w.from-is)
      | else-end-n-eq1 w ↦ (search rules, search rules, search rules, zero_even _ _ _ _ w.all-is w.from-is)
    ]

pub loop-i-preserved : goal.loop-i-preserved
loop-i-preserved c = search (rules, range_laws)

-- the last turn has two entries, since an even number of them is left
pub returns : goal.returns
returns c =
    let inv = c.loop-i.invariant in
    elim c.loop-i-test.branch [
      | else-loop-i-test w ↦ rw w.all-is (zero_done _ _ c.loop-i.i _ _ inv.3 (search rules) (search rules))
      | then-loop-i-test+else-end-i-gt2 w ↦ rw w.all-is
          (zero_done _ _ (c.loop-i.i + 2) _ _ (zero_pair _ _ _ _ _ _ inv.3 inv.0 w.read64.ensures w.union-all.ensures) (search rules) (search rules))
    ]
