-- The needed set by turns: a set with what the devices from a number on need.
use Rattle.std.specs.Prelude.{ℕ, zero, suc, ◌+◌, List}
use Rattle.sets.specs.Sets.{union}
use Rattle.words.specs.Words.{put}
use Rattle.rules.specs.declared.Entry.{Entry}
use Rattle.rules.specs.Index.{each}
use Rattle.rules.specs.Station.{Station, count_d, station}
use Rattle.rules.specs.Power.{needs, needed_below}
use Rattle.rules.specs.Status.{entries}

-- the set a with what the k devices from i on need
unfoldable pub needed_from : Station → (ℕ → Entry) → ℕ → ℕ → ℕ → ℕ
needed_from s f a i zero = a
needed_from s f a i (suc k) = needed_from s f (union a (needs s i (f i))) (i + 1) k

-- for each of the devices of the table what those below it need, at the front of a list
abbrev pub below_each : List ℕ → List ℕ → List ℕ → List ℕ
below_each t b sets = put sets 0 (each (needed_below (station t) (entries t b)) (count_d t))
