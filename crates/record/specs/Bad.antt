-- Where the first bad field of a record starts.
use Rattle.std.specs.Prelude.{ℕ, Option, Some, None, cond, List, [], ◌∷◌}
use Rattle.rules.specs.Table.{Field}

-- where the first bad one of fields in rising order starts, if one is bad
unfoldable pub bad_place : List Field → Option ℕ
bad_place [] = None
bad_place (f ∷ fs) = cond f.good (bad_place fs) (Some f.at)
