use Rattle.table.proofs.Verdicts.{lowest_5}
use Rattle.table.proofs.lowest_device.Goals as goal

pub returns : goal.returns
returns c =
    lowest_5 _ _ _ _ _ c.start_at.ensures c.width.ensures.0 c.devices.ensures.0 c.resources.ensures.0 _ c.lowest_bad.ensures
