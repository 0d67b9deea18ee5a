use native.Mathlib.Omega.{arith}
use Rattle.sailgarnet.proofs.Outer.{list_fits}
use Rattle.sailgarnet.proofs.buffers.on_words.Goals as goal

pub test_words-requires-clause-fits : goal.test_words-requires-clause-fits
test_words-requires-clause-fits g c =
    let fits = list_fits _ _ _ c.words_in.ensures c.in-Some.is in
    (fits.0, fits.1, omega arith)

pub test_words-requires-2-clause-fits : goal.test_words-requires-2-clause-fits
test_words-requires-2-clause-fits g c =
    let fits = list_fits _ _ _ c.words_in.ensures c.in-Some.is in
    (fits.0, c.if-n-gt33.false, omega arith)
