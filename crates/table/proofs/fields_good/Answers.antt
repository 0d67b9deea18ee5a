use Rattle.table.proofs.Verdicts.{fields_test}
use Rattle.table.proofs.fields_good.Goals as goal

pub returns : goal.returns
returns c =
    fields_test _ _ _ _ _ c.device.result c.device.ensures.table c.device.ensures.number c.resources-resources.ensures.0 c.bad_field.ensures
    c.is_none.ensures
