use mathlib.Core.Path.{refl}
use Rattle.status.proofs.Written.{entry_stored}
use Rattle.words.proofs.Twice.{bytes_low}
use borrow.Author.Rules.{rules}
use Rattle.status.proofs.image.set_entry.Goals as goal

pub returns-then-width-eq8 : goal.returns-then-width-eq8
returns-then-width-eq8 c =
    entry_stored 8 _ (search rules) _ _ _ _ _ _ _ _ c.requires.1 c.requires.2 c.load-before.ensures c.with_entry.ensures refl c.store.ensures

pub returns : goal.returns
returns c =
    entry_stored 4 _ (search rules) _ _ _ _ _ _ _ _ c.requires.1 c.requires.2 c.load-before-2.ensures c.with_entry-2.ensures
    (bytes_low 4 c.args.on) c.store-2.ensures
