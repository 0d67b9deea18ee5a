use Rattle.switching.proofs.Answered.{parts}
use Rattle.planner.proofs.Whole.{elements_words, words_demand, words_sleeps, answered}
use Rattle.planner.proofs.plan.plan_words.Goals as goal

pub returns : goal.returns
returns c =
    let a = answered (rw (elements_words _ _ _ _) at c.plan_elements.ensures) in
    record { answer = parts a; demand = words_demand _ _ _ _ a; sleep = words_sleeps _ _ _ _ a }
