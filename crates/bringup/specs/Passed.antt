-- What the checks have shown of a state to be brought up.
use Rattle.std.specs.Prelude.{ℕ, ◌≡◌, true, List, length}
use Rattle.rules.specs.Answers.{passes}
use Rattle.rules.specs.Station.{width}
use Rattle.rules.specs.Status.{image_size}
use Rattle.rules.specs.BringUp.{bring_up_stages}
use Rattle.table.specs.Layout.{WellSized}

pub record BringUpState (t b : List ℕ) : Type 0 where
  pub sized : WellSized t
  pub long : length b ≡ image_size (width t)
  pub passed : passes (bring_up_stages true t b) ≡ true
