use Rattle.switching.proofs.Walks.{own_call_lem}
use borrow.Author.Rules.{rules}
use Rattle.switching.proofs.walk.take_own.Goals as goal
use Rattle.switching.proofs.walk.take_own.Goals.{in_default-via-in-Some+else-here, in_default-via-in_default}

pub returns-in-Some : goal.returns-in-Some
returns-in-Some c = search (rules, own_call_lem)

pub returns-in_default : goal.returns-in_default
returns-in_default c =
    elim c.in_default.branch [
      | in_default-via-in-Some+else-here w ↦ search (rules, own_call_lem)
      | in_default-via-in_default w ↦ search (rules, own_call_lem)
    ]
