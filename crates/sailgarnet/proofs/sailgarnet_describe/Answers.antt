use Rattle.sailgarnet.proofs.Numbers.{describe_fits, fits, packs, described_inverse}
use borrow.Author.Rules.{rules}
use Rattle.sailgarnet.proofs.sailgarnet_describe.Goals as goal

-- The packed answer of describing, and that what it gave makes the table again.
pub pack-requires : goal.pack-requires
pack-requires c = fits _ _ c.describe.ensures.0 (describe_fits _ _ _)

pub returns : goal.returns
returns c =
    let table = c.shared_slice_known-1 in
    let answer = packs _ _ _ c.describe.ensures.0 c.pack.ensures in record {
      answer = answer;
      resources = search rules;
      devices = search rules;
      inverse = described_inverse _ _ _ _ _ _ (λ i. (table.given i).fits) answer.1
          c.describe.ensures.1 c.describe.ensures.2;
    }
