use Rattle.sailgarnet.proofs.Numbers.{plan_fits, fits, packs, bytes_demand, bytes_sleeps}
use borrow.Author.Rules.{rules}
use Rattle.sailgarnet.proofs.sailgarnet_plan.Goals as goal

-- The packed answer of the planner on bytes.
pub pack-requires : goal.pack-requires
pack-requires c = fits _ _ c.plan_bytes.ensures.0 (plan_fits _ _ _ _)

pub returns : goal.returns
returns c =
    let planned = c.plan_bytes.ensures in
    let answer = packs _ _ _ planned.0 c.pack.ensures in record { answer = answer; state = search rules; plan = search rules; demand = bytes_demand _ _ _ _ _ _ _ answer.1 planned.1 planned.2; sleep = bytes_sleeps _ _ _ _ _ _ _ answer.1 planned.1 planned.2 }
