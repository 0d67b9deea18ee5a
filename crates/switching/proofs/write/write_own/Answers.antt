use Rattle.switching.proofs.Run.{own_room, own_word, no_own_word}
use borrow.Author.Rules.{rules}
use Rattle.switching.proofs.write.write_own.Goals as goal

-- One store, or none.
pub bounds-plan-at : goal.bounds-plan-at
bounds-plan-at c = search (rules, own_room)

pub returns-in-Some : goal.returns-in-Some
returns-in-Some c = own_word _ _ _ _ _ c.requires.1 c.in-Some.is c.word_of.ensures

pub returns-in-None : goal.returns-in-None
returns-in-None c = no_own_word _ _ _ c.in-None.is
