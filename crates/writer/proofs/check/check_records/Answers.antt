use Rattle.writer.proofs.Records.{device_in, all_records_good}
use Rattle.writer.proofs.check.check_records.Goals as goal

pub refusal-requires : goal.refusal-requires
refusal-requires c =
    device_in _ _ _ _ _ c.requires c.resources-resources.ensures c.lowest_device.ensures c.in-Some-lowest_device.is

-- Neither list has a bad record.
pub returns : goal.returns
returns c =
    all_records_good _ _ _ _ c.resources-resources.ensures c.lowest_resource.ensures c.in_default.is _ c.lowest_device.ensures
    c.in_default-lowest_device.is
