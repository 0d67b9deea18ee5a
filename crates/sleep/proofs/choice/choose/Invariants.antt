use mathlib.Core.Path.{◌≡◌}
use Rattle.words.specs.Words.{put}
use Rattle.rules.specs.Index.{each}
use Rattle.rules.specs.Station.{station}
use Rattle.rules.specs.Status.{entries}
use Rattle.rules.specs.Sleep.{least_choice}
use Rattle.sleep.proofs.choice.choose.Given as goal

abbrev pub invariant-loop-i : goal.invariant-loop-i
invariant-loop-i l = l.chosen ≡ put l.initial.chosen 0 (each (least_choice (station l.table) (entries l.table l.devices) l.x) l.i)
