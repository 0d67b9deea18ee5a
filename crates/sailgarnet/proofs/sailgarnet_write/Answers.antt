use Rattle.sailgarnet.proofs.Numbers.{write_fits, fits, packs, answers_as_reader, written_inverse}
use borrow.Author.Rules.{rules}
use Rattle.sailgarnet.proofs.sailgarnet_write.Goals as goal

-- The packed answer of the writer, and that what it wrote describes what it was given.
pub pack-requires : goal.pack-requires
pack-requires c = fits _ _ c.write.ensures.0 (write_fits _ _ _ _)

pub returns : goal.returns
returns c =
    let devices = c.shared_slice_known-2-1 in
    let answer = packs _ _ _ c.write.ensures.0 c.pack.ensures in record {
      answer = answer;
      table = search rules;
      reader = answers_as_reader _ _ _ _ _ answer.1;
      inverse = written_inverse _ _ _ _ _ _ (λ i. (devices.given i).fits) answer.1
          c.write.ensures.1;
    }
