use Rattle.writer.proofs.Records.{lowest_resource_is}
use Rattle.writer.proofs.check.lowest_resource.Goals as goal

pub returns : goal.returns
returns c = lowest_resource_is _ _ _ _ _ c.lowest_resource.ensures c.resources.ensures c.then_some.ensures c.or.ensures
