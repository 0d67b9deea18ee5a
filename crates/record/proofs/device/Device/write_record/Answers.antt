use Rattle.record.proofs.Values.{record_put}
use Rattle.record.proofs.device.Device.write_record.Goals as goal

-- The fields, then zeros as a number of w bytes and one of two.
pub returns : goal.returns
returns c = record_put _ _ _ _ c.requires.1 _ _ _ c.write.ensures c.write-2.ensures c.write16.ensures
