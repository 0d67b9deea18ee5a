use Rattle.std.proofs.Common.{rules}
use Rattle.writer.proofs.Records.{fields_whole}
use Rattle.writer.proofs.check.fields_good.Goals as goal

pub returns-then-ds-at : goal.returns-then-ds-at
returns-then-ds-at c = fields_whole _ _ _ _ _ (search rules) c.bad_value.ensures c.is_none.ensures
