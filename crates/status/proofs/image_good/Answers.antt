use Rattle.status.proofs.Chains.{image_laws}
use borrow.Author.Rules.{rules}
use Rattle.status.proofs.image_good.Goals as goal

pub size-requires : goal.size-requires
size-requires c = search (rules, image_laws)

pub returns-then-image-size : goal.returns-then-image-size
returns-then-image-size c = search (rules, image_laws)

pub entries_good-requires : goal.entries_good-requires
entries_good-requires c = search (rules, image_laws)

pub on_set-requires : goal.on_set-requires
on_set-requires c = search (rules, image_laws)

pub on_good-requires : goal.on_good-requires
on_good-requires c = search (rules, image_laws)

pub returns-then-entries_good : goal.returns-then-entries_good
returns-then-entries_good c = search (rules, image_laws)

pub returns-else-entries_good : goal.returns-else-entries_good
returns-else-entries_good c = search (rules, image_laws)
