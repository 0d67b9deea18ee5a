use Rattle.record.proofs.Values.{device_put}
use borrow.Author.Rules.{rules}
use Rattle.record.proofs.device.Device.write.Goals as goal

-- Five runs, each where the one before ends.
pub returns : goal.returns
returns c =
    device_put _ _ _ _ c.requires.1 (search rules) (search rules) _ _ _ _ _ c.copy.ensures
    c.write_sets.ensures c.copy-2.ensures c.copy-3.ensures c.write8.ensures
