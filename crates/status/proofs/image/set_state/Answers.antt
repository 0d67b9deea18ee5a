use Rattle.status.proofs.Written.{in_image}
use borrow.Author.Rules.{rules}
use Rattle.status.proofs.image.set_state.Goals as goal

pub bounds-image-d : goal.bounds-image-d
bounds-image-d c = search (rules, in_image)

pub set_on-requires : goal.set_on-requires
set_on-requires c = search (rules, in_image)

pub shape_of-image : goal.shape_of-image
shape_of-image c = search (rules, in_image)

pub returns : goal.returns
returns c = search (rules, in_image)
