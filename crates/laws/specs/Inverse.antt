-- RULES.md 11.7: writing and describing are inverse, as equations of the two functions; and the writer refuses what the reader would.
use Rattle.std.specs.Prelude.{ℕ, ◌+◌, ◌*◌, ◌^◌, ◌≤◌, ◌<◌, ◌≡◌, true, List, length, get_or, take}
use Rattle.words.specs.Words.{put}
use Rattle.std.specs.Prelude.{Ok}
use Rattle.rules.specs.Answers.{number_of, place_of}
use Rattle.rules.specs.Station.{version_good, version_width, version_of, count_r, count_d}
use Rattle.rules.specs.Table.{table_verdict}
use Rattle.rules.specs.Describe.{described_size, described_r, described_d, described_device, table_bytes}
use Rattle.rules.specs.Write.{described_counts_good, records_verdict, written_size, write, describe}

-- every element is a byte
abbrev pub AllBytes : List ℕ → Type 0
AllBytes l = (i : ℕ) → get_or l i 0 < 256

-- a table describes two lists: into any buffers with room for them, at their front
abbrev pub Describes : List ℕ → List ℕ → List ℕ → Type 0
Describes t rs ds =
    (a b : List ℕ) → length rs ≤ length a → length ds ≤ length b
    → describe t a b ≡ record { verdict = Ok (length rs + length ds); resources = put a 0 rs; devices = put b 0 ds }

-- two lists make a table of a version: into any buffer with room for it, at its front
abbrev pub Makes : ℕ → List ℕ → List ℕ → List ℕ → Type 0
Makes version rs ds t =
    (a : List ℕ) → length t ≤ length a → write version rs ds a ≡ record { verdict = Ok (length t); table = put a 0 t }

-- done (0), the count of the writer's bytes describe the lists that they were written from
abbrev pub WrittenDescribes : List ℕ → List ℕ → ℕ → ℕ → List ℕ → Type 0
WrittenDescribes rs ds number count table = number ≡ 0 → Describes (take count table) rs ds

-- done (0), the two lists at the front of the buffers make the table that they describe, as its own version
abbrev pub DescribedMakes : List ℕ → ℕ → List ℕ → List ℕ → Type 0
DescribedMakes t number rs ds = number ≡ 0 → Makes (version_of t) (take (4 * count_r t) rs) (take (described_size * count_d t) ds) t

-- lists that a table of a version can say: whole records, not too many, and no set has a bit that the version cannot hold
pub record Representable (version : ℕ) (rs ds : List ℕ) : Type 0 where
  pub known : version_good version ≡ true
  pub resources : length rs ≡ 4 * described_r rs
  pub devices : length ds ≡ described_size * described_d ds
  pub counts : described_counts_good version rs ds ≡ true
  pub sets : (d : ℕ) → d < described_d ds → (k : ℕ) → k < 5 → (described_device ds d).sets k < 256 ^ version_width version

-- the writer's verdict on such records is the reader's on the table that they make
abbrev pub SameVerdict : ℕ → List ℕ → List ℕ → Type 0
SameVerdict version rs ds = Representable version rs ds → records_verdict rs ds ≡ table_verdict (table_bytes version rs ds)

-- so to such lists, with room, the writer gives number and place that the reader gives to that table
abbrev pub AnswersAsReader : ℕ → List ℕ → List ℕ → ℕ → ℕ → ℕ → Type 0
AnswersAsReader version rs ds room number place =
    Representable version rs ds → written_size version rs ds ≤ room
    → (number ≡ number_of (table_verdict (table_bytes version rs ds))) × (place ≡ place_of (table_verdict (table_bytes version rs ds)))
