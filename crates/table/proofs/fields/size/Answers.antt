use Rattle.table.proofs.Readers.{records_few}
use native.Mathlib.Omega.{arith}
use borrow.Author.Rules.{rules}
use Rattle.table.proofs.fields.size.Goals as goal

pub overflow_mul-result-3 : goal.overflow_mul-result-3
overflow_mul-result-3 c = record { fits = omega (arith, records_few c.args.w c.args.devices (search rules) (search rules)) }

pub overflow_add-result-3 : goal.overflow_add-result-3
overflow_add-result-3 c = record { fits = omega (arith, records_few c.args.w c.args.devices (search rules) (search rules)) }
