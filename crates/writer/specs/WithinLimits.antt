-- What the check of the counts shows, that the checks of the records lean on.
use Rattle.std.specs.Prelude.{ℕ, ◌≤◌, ◌<◌, List}
use Rattle.rules.specs.Station.{limit}
use Rattle.rules.specs.Describe.{described_width, described_r, described_d}

-- at most as many resources as a described set can name, and numbers of devices that a parent byte can name
pub record WithinLimits (rs ds : List ℕ) : Type 0 where
  pub resources : described_r rs ≤ limit described_width
  pub devices : described_d ds < 256
