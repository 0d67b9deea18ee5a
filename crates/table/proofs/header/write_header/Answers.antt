use Rattle.table.proofs.Front.{header_put}
use borrow.Author.Rules.{rules}
use Rattle.table.proofs.header.write_header.Goals as goal

-- Five runs, each where the one before ends.
pub returns : goal.returns
returns c =
    header_put _ _ _ _ (search rules) _ _ _ _ _ c.copy.ensures c.write8.ensures c.write16.ensures
    c.write8-2.ensures c.write8-3.ensures
