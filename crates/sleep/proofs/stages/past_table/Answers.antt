use Rattle.sleep.proofs.Verdicts.{sleeping}
use borrow.Author.Rules.{rules}
use Rattle.sleep.proofs.stages.past_table.Goals as goal

pub returns-then-number-ne10 : goal.returns-then-number-ne10
returns-then-number-ne10 c = (search (rules, sleeping), search (rules, sleeping))

pub verdict-requires : goal.verdict-requires
verdict-requires c = (search (rules, sleeping), search rules)

pub returns : goal.returns
returns c = (search (rules, sleeping), search (rules, sleeping))
