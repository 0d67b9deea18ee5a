use Rattle.writer.proofs.Records.{lowest_device_is}
use Rattle.writer.proofs.check.lowest_device.Goals as goal

pub returns : goal.returns
returns c = lowest_device_is _ _ _ _ _ _ c.lowest_bad.ensures c.devices.ensures c.then_some.ensures c.or.ensures
