-- What a table's first three checks show: the version is known, the counts are in its range and the length is theirs. Every reader of a
-- field leans on it.
use Rattle.std.specs.Prelude.{ℕ, ◌+◌, ◌*◌, ◌≤◌, ◌<◌, ◌≡◌, true, List, length}
use Rattle.rules.specs.Station.{version_good, version_of, width, Wide, limit, record_size, count_r, count_d, device_start}

pub record WellSized (t : List ℕ) : Type 0 where
  pub head : 8 ≤ length t
  pub version : version_good (version_of t) ≡ true
  pub resources : count_r t ≤ limit (width t)
  pub devices : count_d t ≤ limit (width t)
  pub long : length t ≡ device_start (width t) t (count_d t)
  -- these two follow, and stand here beside what they bound
  pub records : 8 + 4 * count_r t ≤ length t
  pub wide : Wide (width t)

-- device d's record starts at a byte, and a set of it has w bytes: who has looked this up once hands it on
pub record RecordAt (t : List ℕ) (d at w : ℕ) : Type 0 where
  pub sized : WellSized t
  pub device : d < count_d t
  pub start : at ≡ device_start (width t) t d
  pub width : w ≡ width t
  -- these two follow
  pub wide : Wide w
  pub inside : at + record_size w ≤ length t
