-- Rows of our own on what the writer and describing answer (RULES.md 11.5, 11.6), over the bench station's two lists.
use Rattle.std.specs.Prelude.{ℕ, List, [], ◌∷◌, ◌++◌, take, replicate}
use Rattle.words.specs.Words.{put}
use Rattle.rules.specs.Answers.{number_of, place_of, count_of}
use Rattle.rules.specs.Rows.{bytes, bench_devices}
use Rattle.rules.specs.Write.{write_verdict, describe_verdict}

-- what is given, and what must be answered: number, place and count
pub record WriteRow : Type 0 where
  pub version : ℕ
  pub resources : List ℕ
  pub devices : List ℕ
  pub room : ℕ
  pub answer : List ℕ

abbrev pub bench_resources : List ℕ
bench_resources = bytes 12 0x03000100_00000200_03000100

-- the bench station is written as a version into a buffer of so many bytes
abbrev pub as_version : ℕ → ℕ → List ℕ → WriteRow
as_version version room answer =
    record { version = version; resources = bench_resources; devices = bench_devices; room = room; answer = answer }

-- these lists in the place of the bench station's, into 140 bytes
abbrev pub from_lists : List ℕ → List ℕ → List ℕ → WriteRow
from_lists rs ds answer = record { version = 1; resources = rs; devices = ds; room = 140; answer = answer }

-- its devices with x at a byte
abbrev pub with_byte : ℕ → ℕ → List ℕ → WriteRow
with_byte at x answer = from_lists bench_resources (put bench_devices at (x ∷ [])) answer

-- any lists, written as version 2
abbrev pub wide_from : List ℕ → List ℕ → ℕ → List ℕ → WriteRow
wide_from rs ds room answer = record { version = 2; resources = rs; devices = ds; room = room; answer = answer }

-- a device without any object
abbrev pub bare_device : List ℕ
bare_device = 255 ∷ replicate 43 0 ++ replicate 9 255 ++ 0 ∷ []

-- a device that needs r40 in D0
abbrev pub few_device : List ℕ
few_device = put bare_device 2 (bytes 10 0x0100_0000000000010000)

-- what the writer answers for version 2
abbrev pub wide_write_rows : List WriteRow
wide_write_rows =
    -- done with exact room; 9; 258 and 65,538 are no versions
    as_version 2 212 (0 ∷ 0 ∷ 212 ∷ []) ∷
    as_version 2 211 (9 ∷ 0 ∷ 0 ∷ []) ∷
    as_version 258 212 (1 ∷ 0 ∷ 0 ∷ []) ∷
    as_version 65538 212 (1 ∷ 0 ∷ 0 ∷ []) ∷
    -- 33 and 64 of each are allowed, 64 devices being 9 and no 2; a part of a 65th is 2, which comes before 9
    wide_from (replicate 132 0) [] 140 (0 ∷ 0 ∷ 140 ∷ []) ∷
    wide_from (replicate 256 0) [] 264 (0 ∷ 0 ∷ 264 ∷ []) ∷
    wide_from [] (replicate 3456 255) 4103 (9 ∷ 0 ∷ 0 ∷ []) ∷
    wide_from (replicate 260 0) [] 268 (2 ∷ 0 ∷ 0 ∷ []) ∷
    wide_from (replicate 257 0) [] 0 (2 ∷ 0 ∷ 0 ∷ []) ∷
    wide_from [] (replicate 3457 255) 0 (2 ∷ 0 ∷ 0 ∷ []) ∷
    -- r40 among 41 resources and among 40; 4 and 6 as in version 1, 4 at r63
    wide_from (replicate 164 0) few_device 236 (0 ∷ 0 ∷ 236 ∷ []) ∷
    wide_from (replicate 160 0) few_device 232 (5 ∷ 0 ∷ 0 ∷ []) ∷
    wide_from (replicate 252 0 ++ 5 ∷ 0 ∷ 0 ∷ 0 ∷ []) [] 264 (4 ∷ 63 ∷ 0 ∷ []) ∷
    wide_from [] (put bare_device 3 (2 ∷ [])) 72 (6 ∷ 0 ∷ 0 ∷ []) ∷
    []

abbrev pub write_rows : List WriteRow
write_rows =
    -- done, with exact and with more room; 9; versions that there are not, before 9
    as_version 1 140 (0 ∷ 0 ∷ 140 ∷ []) ∷
    as_version 1 2000 (0 ∷ 0 ∷ 140 ∷ []) ∷
    as_version 1 139 (9 ∷ 0 ∷ 0 ∷ []) ∷
    as_version 0 139 (1 ∷ 0 ∷ 0 ∷ []) ∷
    as_version 3 140 (1 ∷ 0 ∷ 0 ∷ []) ∷
    as_version 65537 140 (1 ∷ 0 ∷ 0 ∷ []) ∷
    -- no record at all
    record { version = 1; resources = []; devices = []; room = 8; answer = 0 ∷ 0 ∷ 8 ∷ [] } ∷
    record { version = 1; resources = []; devices = []; room = 7; answer = 9 ∷ 0 ∷ 0 ∷ [] } ∷
    -- 32 of each are allowed, 32 devices being 9 and no 2; 33 and a part of a 33rd are 2, which comes after 1 and before 9
    record { version = 1; resources = replicate 128 0; devices = []; room = 136; answer = 0 ∷ 0 ∷ 136 ∷ [] } ∷
    record { version = 1; resources = []; devices = replicate 1728 255; room = 1287; answer = 9 ∷ 0 ∷ 0 ∷ [] } ∷
    record { version = 1; resources = replicate 132 0; devices = []; room = 140; answer = 2 ∷ 0 ∷ 0 ∷ [] } ∷
    record { version = 1; resources = replicate 129 0; devices = []; room = 0; answer = 2 ∷ 0 ∷ 0 ∷ [] } ∷
    record { version = 1; resources = []; devices = replicate 1729 255; room = 0; answer = 2 ∷ 0 ∷ 0 ∷ [] } ∷
    record { version = 3; resources = replicate 132 0; devices = []; room = 0; answer = 1 ∷ 0 ∷ 0 ∷ [] } ∷
    -- 9 before the records, of whole ones and of one cut short
    record { version = 1; resources = 5 ∷ 0 ∷ 0 ∷ 0 ∷ []; devices = []; room = 11; answer = 9 ∷ 0 ∷ 0 ∷ [] } ∷
    record { version = 1; resources = 3 ∷ 0 ∷ 0 ∷ []; devices = []; room = 11; answer = 9 ∷ 0 ∷ 0 ∷ [] } ∷
    record { version = 1; resources = []; devices = 255 ∷ []; room = 47; answer = 9 ∷ 0 ∷ 0 ∷ [] } ∷
    record { version = 1; resources = []; devices = 255 ∷ []; room = 48; answer = 5 ∷ 0 ∷ 0 ∷ [] } ∷
    -- 4: systemlevel, byte 1; the lowest; cut short; before any 5
    from_lists (put bench_resources 8 (5 ∷ [])) bench_devices (4 ∷ 2 ∷ 0 ∷ []) ∷
    from_lists (put bench_resources 5 (1 ∷ 0 ∷ 0 ∷ 5 ∷ [])) bench_devices (4 ∷ 1 ∷ 0 ∷ []) ∷
    from_lists (take 11 bench_resources) bench_devices (4 ∷ 2 ∷ 0 ∷ []) ∷
    from_lists (take 9 bench_resources) (put bench_devices 0 (0 ∷ [])) (4 ∷ 2 ∷ 0 ∷ []) ∷
    -- 5: parents; masks; flags; `_PR0` of the camera with r3 alone, with more, with r40 and with r63; a set without its object; `_S1D`,
    -- `_S3D`; `_S3D` above `_S3W`; `_S0W`; deepest
    with_byte 0 0 (5 ∷ 0 ∷ 0 ∷ []) ∷
    with_byte 108 2 (5 ∷ 2 ∷ 0 ∷ []) ∷
    with_byte 108 254 (5 ∷ 2 ∷ 0 ∷ []) ∷
    with_byte 55 29 (5 ∷ 1 ∷ 0 ∷ []) ∷
    with_byte 56 29 (5 ∷ 1 ∷ 0 ∷ []) ∷
    with_byte 57 7 (5 ∷ 1 ∷ 0 ∷ []) ∷
    with_byte 58 8 (5 ∷ 1 ∷ 0 ∷ []) ∷
    with_byte 58 15 (5 ∷ 1 ∷ 0 ∷ []) ∷
    with_byte 63 1 (5 ∷ 1 ∷ 0 ∷ []) ∷
    with_byte 65 128 (5 ∷ 1 ∷ 0 ∷ []) ∷
    with_byte 66 1 (5 ∷ 1 ∷ 0 ∷ []) ∷
    with_byte 98 4 (5 ∷ 1 ∷ 0 ∷ []) ∷
    with_byte 100 4 (5 ∷ 1 ∷ 0 ∷ []) ∷
    with_byte 105 1 (5 ∷ 1 ∷ 0 ∷ []) ∷
    with_byte 102 5 (5 ∷ 1 ∷ 0 ∷ []) ∷
    with_byte 107 5 (5 ∷ 1 ∷ 0 ∷ []) ∷
    with_byte 161 1 (5 ∷ 2 ∷ 0 ∷ []) ∷
    -- 6: `_PS3`; `_PR0`; `_DSW` without `_PRW`
    with_byte 1 1 (6 ∷ 0 ∷ 0 ∷ []) ∷
    from_lists bench_resources (put bench_devices 110 (0x08 ∷ 0 ∷ 0 ∷ [])) (6 ∷ 2 ∷ 0 ∷ []) ∷
    with_byte 111 2 (6 ∷ 2 ∷ 0 ∷ []) ∷
    -- cut short; 5 before 6; 6 before 5 of a later device
    from_lists bench_resources (take 161 bench_devices) (5 ∷ 2 ∷ 0 ∷ []) ∷
    with_byte 55 4 (6 ∷ 1 ∷ 0 ∷ []) ∷
    from_lists bench_resources (put bench_devices 54 (1 ∷ 4 ∷ [])) (5 ∷ 1 ∷ 0 ∷ []) ∷
    from_lists bench_resources (put (take 109 bench_devices) 55 (4 ∷ [])) (6 ∷ 1 ∷ 0 ∷ []) ∷
    wide_write_rows

abbrev pub answered : WriteRow → List ℕ
answered r = let v = write_verdict r.version r.resources r.devices r.room in number_of v ∷ place_of v ∷ count_of v ∷ []

-- what describing a table answers with so much room in the two buffers
abbrev pub describing : List ℕ → ℕ → ℕ → List ℕ
describing t roomR roomD = let v = describe_verdict t roomR roomD in number_of v ∷ place_of v ∷ count_of v ∷ []
