use mathlib.Core.Path.{◌≡◌}
use Prim.Native.Nat.{◌-◌, ◌≤◌}
use lib.ListN.{length}
use Rattle.rules.specs.Station.{count_d, station}
use Rattle.rules.specs.Status.{entries}
use Rattle.status.specs.Needs.{needed_from}
use Rattle.planner.proofs.Turns.{Underway}
use Rattle.planner.proofs.moves.write_moves.Given as goal

abbrev pub invariant-loop-i : goal.invariant-loop-i
invariant-loop-i g l =
    (l.i ≤ count_d l.table) × (l.i ≤ 64) × (length l.state ≡ length l.initial.state)
    × Underway g.E.Element.SIZE g.E.Element.written l.table l.initial.state l.chosen (g.E.Element.numbers l.initial.plan) l.i l.n l.state
    (g.E.Element.numbers l.plan)
    × (l.above ≡ needed_from (station l.table) (entries l.table l.state) 0 l.i (count_d l.table - l.i)) × (length l.buffer ≡ 65)
