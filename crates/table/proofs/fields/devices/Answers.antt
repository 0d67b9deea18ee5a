use Rattle.table.proofs.Readers.{field_laws}
use borrow.Author.Rules.{rules}
use Rattle.table.proofs.fields.devices.Goals as goal

pub returns : goal.returns
returns c = search (rules, field_laws)
