-- From the inverse laws: what is written and described again, or described and written again, is the same and nothing else changes; and the
-- writer answers otherwise than the reader only for want of room.
use Rattle.std.specs.Prelude.{ℕ, ◌+◌, ◌*◌, ◌%◌, ◌^◌, ◌≤◌, ◌<◌, ◌≡◌, List, ◌++◌, ◌≢◌, ◌⊎◌, length, take, drop}
use Rattle.rules.specs.Verdict.{Verdict}
use Rattle.rules.specs.Answers.{number_of, place_of, count_of}
use Rattle.rules.specs.Station.{version_width, version_of, limit, count_r, count_d}
use Rattle.rules.specs.Table.{table_verdict}
use Rattle.rules.specs.Describe.{described_size, described_r, described_d, described_device, table_bytes}
use Rattle.rules.specs.Write.{records_verdict, written_size, write, describe}
use Rattle.laws.specs.Inverse.{Describes, Makes, WrittenDescribes, DescribedMakes, SameVerdict, AnswersAsReader}
use Rattle.laws.specs.About.Planner.{NotRefused}

-- a table is described as two lists, into any buffers with room
pub record NoWrongDescription (t rs ds a b : List ℕ) : Type 0 where
  pub refused : NotRefused (number_of (describe t a b).verdict)
  pub miscounted : count_of (describe t a b).verdict ≢ length rs + length ds → ⊥
  -- the lists stand at the front, and what is past them is as it was lent
  pub resources : (describe t a b).resources ≡ rs ++ drop (length rs) a
  pub devices : (describe t a b).devices ≡ ds ++ drop (length ds) b

-- two lists are written as a table, into any buffer with room
pub record NoWrongTable (version : ℕ) (rs ds t a : List ℕ) : Type 0 where
  pub refused : NotRefused (number_of (write version rs ds a).verdict)
  pub miscounted : count_of (write version rs ds a).verdict ≢ length t → ⊥
  pub table : (write version rs ds a).table ≡ t ++ drop (length t) a

abbrev pub FromDescribes : Type 0
FromDescribes =
    (t rs ds : List ℕ) → Describes t rs ds
    → (a b : List ℕ) → length rs ≤ length a → length ds ≤ length b → NoWrongDescription t rs ds a b

-- the same lists make no other table
abbrev pub FromMakes : Type 0
FromMakes =
    (version : ℕ) (rs ds t : List ℕ) → Makes version rs ds t
    → ((a : List ℕ) → length t ≤ length a → NoWrongTable version rs ds t a)
    × ((t' : List ℕ) → Makes version rs ds t' → t' ≢ t → ⊥)

-- written, then described
abbrev pub FromWrittenDescribes : Type 0
FromWrittenDescribes =
    (rs ds : List ℕ) (number count : ℕ) (table : List ℕ) → WrittenDescribes rs ds number count table → number ≡ 0
    → (a b : List ℕ) → length rs ≤ length a → length ds ≤ length b → NoWrongDescription (take count table) rs ds a b

-- described, then written; and two tables of one version that are described as the same lists are the same
abbrev pub FromDescribedMakes : Type 0
FromDescribedMakes =
    (t : List ℕ) (number : ℕ) (rs ds : List ℕ) → DescribedMakes t number rs ds → number ≡ 0
    → ((a : List ℕ) → length t ≤ length a
    → NoWrongTable (version_of t) (take (4 * count_r t) rs) (take (described_size * count_d t) ds) t a)
    × ((t' rs' ds' : List ℕ) → DescribedMakes t' 0 rs' ds' → version_of t ≡ version_of t' → take (4 * count_r t) rs ≡ take (4 * count_r t') rs'
    → take (described_size * count_d t) ds ≡ take (described_size * count_d t') ds' → t' ≢ t → ⊥)

-- lists of whole records, no more than the version allows, each set within its bytes
pub record WholeLists (version : ℕ) (rs ds : List ℕ) : Type 0 where
  pub known : (version ≡ 1) ⊎ (version ≡ 2)
  pub whole_resources : length rs % 4 ≡ 0
  pub whole_devices : length ds % described_size ≡ 0
  pub resources : described_r rs ≤ limit (version_width version)
  pub devices : described_d ds ≤ limit (version_width version)
  pub sets : (d : ℕ) → d < described_d ds → (k : ℕ) → k < 5 → (described_device ds d).sets k < 256 ^ version_width version

-- their records get no other verdict than the table that they make
abbrev pub FromSameVerdict : Type 0
FromSameVerdict =
    (version : ℕ) (rs ds : List ℕ) → SameVerdict version rs ds → WholeLists version rs ds
    → (v : Verdict) → table_verdict (table_bytes version rs ds) ≡ v → records_verdict rs ds ≢ v → ⊥

-- the writer's number and place are others than the reader's only for want of room
abbrev pub FromAnswersAsReader : Type 0
FromAnswersAsReader =
    (version : ℕ) (rs ds : List ℕ) (room number place : ℕ) → AnswersAsReader version rs ds room number place → WholeLists version rs ds
    → (number ≢ number_of (table_verdict (table_bytes version rs ds)) → room < written_size version rs ds)
    × (place ≢ place_of (table_verdict (table_bytes version rs ds)) → room < written_size version rs ds)
