-- RULES.md 11.5 and 11.6: write and describe, which an editor of stations calls, each as a total function of all that it is lent.
use Rattle.std.specs.Prelude.{ℕ, ◌+◌, ◌*◌, Bool, cond, ◌&&◌, not, List, [], ◌∷◌, length, leb}
use Rattle.words.specs.Words.{put}
use Rattle.rules.specs.Verdict.{Verdict}
use Rattle.std.specs.Prelude.{Ok}
use Rattle.rules.specs.Verdict.{refuse}
use Rattle.rules.specs.declared.Reason.TheVariants.{NotATable, TooMany, BadResource, NoRoom}
use Rattle.rules.specs.Answers.{passes, first_of, unless, lowest}
use Rattle.rules.specs.Station.{version_good, version_width, table_size, count_r, count_d}
use Rattle.rules.specs.Table.{counts_fit, all_good, resource_good, value_fields, fields_or_objects, objects_good, table_verdict}
use Rattle.rules.specs.Describe.{described_width, described_size, described_r, described_d, described_device, resources_of, devices_of}
use Rattle.rules.specs.Describe.{table_bytes}

-- 4: resource r of a list is whole, and its fields are good
unfoldable pub described_resource_good : List ℕ → ℕ → Bool
described_resource_good rs r = leb (4 * r + 4) (length rs) && resource_good rs (4 * r)

-- 5: device d of a list is whole, and its fields are good among R resources; R being within the version's limit, no set has a bit that the
-- version cannot hold
unfoldable pub described_fields_good : ℕ → List ℕ → ℕ → Bool
described_fields_good resources ds d =
    leb (described_size * d + described_size) (length ds) && all_good (value_fields described_width resources d (described_device ds d))

-- 6: and its objects agree
unfoldable pub described_device_good : ℕ → List ℕ → ℕ → Bool
described_device_good resources ds d = described_fields_good resources ds d && objects_good (described_device ds d)

-- all 4s, then 5 and 6 device by device; places are the numbers of the records
unfoldable pub records_verdict : List ℕ → List ℕ → Verdict
records_verdict rs ds =
    first_of
    (lowest (λ r. not (described_resource_good rs r)) (described_r rs) (refuse BadResource)
    ∷ lowest (λ d. not (described_device_good (described_r rs) ds d)) (described_d ds)
    (λ d. fields_or_objects (described_fields_good (described_r rs) ds d) d)
    ∷ [])
    (Ok 0)

-- the bytes of the table; of lists that are refused too, since 9 comes before the records
abbrev pub written_size : ℕ → List ℕ → List ℕ → ℕ
written_size version rs ds = table_size (version_width version) (described_r rs) (described_d ds)

-- 2: at most as many resources and devices as the version allows, 32 or 64
unfoldable pub described_counts_good : ℕ → List ℕ → List ℕ → Bool
described_counts_good version rs ds = counts_fit (version_width version) (described_r rs) (described_d ds)

-- 1 for a version other than 1 and 2; 2; 9 for a buffer with too little room; then the records; else done with the bytes written
unfoldable pub write_verdict : ℕ → List ℕ → List ℕ → ℕ → Verdict
write_verdict version rs ds room =
    first_of
    (unless (version_good version) NotATable 0
    ∷ unless (described_counts_good version rs ds) TooMany 0
    ∷ unless (leb (written_size version rs ds) room) NoRoom 0
    ∷ records_verdict rs ds
    ∷ [])
    (Ok (written_size version rs ds))

-- what the writer answers, and what it leaves in the lent buffer: the table at its front, or what it was lent
pub record Written : Type 0 where
  pub verdict : Verdict
  pub table : List ℕ

unfoldable pub write : ℕ → List ℕ → List ℕ → List ℕ → Written
write version rs ds table =
    let v = write_verdict version rs ds (length table) in
    record { verdict = v; table = cond (passes v) (put table 0 (table_bytes version rs ds)) table }

-- the bytes that a table's two lists have
abbrev pub lists_size : List ℕ → ℕ
lists_size t = 4 * count_r t + described_size * count_d t

-- 1 to 6, then 9 if either buffer has too little room; else done with the bytes of both lists
unfoldable pub describe_verdict : List ℕ → ℕ → ℕ → Verdict
describe_verdict t roomR roomD =
    first_of
    (table_verdict t ∷ unless (leb (4 * count_r t) roomR && leb (described_size * count_d t) roomD) NoRoom 0 ∷ [])
    (Ok (lists_size t))

-- what describing answers, and what it leaves in the two lent buffers
pub record Described : Type 0 where
  pub verdict : Verdict
  pub resources : List ℕ
  pub devices : List ℕ

unfoldable pub describe : List ℕ → List ℕ → List ℕ → Described
describe t rs ds =
    let v = describe_verdict t (length rs) (length ds) in
    record {
      verdict = v;
      resources = cond (passes v) (put rs 0 (resources_of t)) rs;
      devices = cond (passes v) (put ds 0 (devices_of t)) ds;
    }
