-- Rows of our own on tables of version 2, under the same statements as those of version 1; and what version 1 keeps.
use Rattle.std.specs.Prelude.{ℕ, ◌-◌, List, [], ◌∷◌, ◌++◌, map, take, drop, replicate}
use Rattle.words.specs.Words.{put}
use Rattle.rules.specs.Index.{join}
use Rattle.rules.specs.Rows.{bytes, image, bench_table, camera, move, arm, disarm, fresh_in, given, lend, Answer, done, refused, no_room}
use Rattle.rules.specs.Rows.{conforms, differs, Row, row}
use Rattle.rules.specs.OwnRows.{with_lists}
use Rattle.rules.specs.Damaged.{Edit, edit, bad_table}
use Rattle.rules.specs.BringUpRows.{BringUpRow, lent_bring_up}
use Rattle.rules.specs.SleepRows.{SleepRow, lent_sleep, sleep, sleep_done}
use Rattle.rules.specs.WideStation.{rig, flash, rig_table, wide_image, rig_state, rig_in, few_device, few_table}
use Rattle.rules.specs.WideStation.{wide_camera, wide_bench, wide_bench_table}

-- the OFFs of the k resources from r down
abbrev pub offs_down : ℕ → ℕ → List ℕ
offs_down r k = join (λ i. 2 ∷ (r - i) ∷ 0 ∷ 0 ∷ []) k

-- rig and flash after a request: the calls, the entries and the on-set
abbrev pub rig_to : List ℕ → ℕ → ℕ → Answer
rig_to calls entries on = done calls (bytes 8 entries) on

-- the rows that the edits in must-fail/ break; those after them are computed in crates/rows
abbrev pub wide_first_rows : List Row
wide_first_rows =
    -- W5
    row (lend wide_bench_table (fresh_in 264) (move 2 4 ∷ move 1 3 ∷ []) 260) (move 1 0) wide_camera
    (done (bytes 12 0x01020000_01010000_03010000) (bytes 12 0x00000000_00000000_04000000) 7) ∷
    -- rig from D3cold to D0. r0 and r32, of equal order, exchanged; r0 a second time where r32 is due; without r32; r64 too
    with_lists
    (conforms 24 0x013f0000_01280000_011f0000_01200000_01000000_03000000
    ∷ differs 24 0x013f0000_011f0000_01280000_01000000_01000000_03000000
    ∷ differs 20 0x013f0000_011f0000_01280000_01000000_03000000
    ∷ differs 28 0x013f0000_011f0000_01280000_01000000_01200000_01400000_03000000
    ∷ [])
    (row (rig_in 0x04000000_04000000 0) (move 0 0) rig
    (rig_to (bytes 24 0x013f0000_011f0000_01280000_01000000_01200000_03000000) 0x00000000_04000000 0x80000101_80000001)) ∷
    -- 41 resources
    row (lend (few_table 41) (given (wide_image 1 0 0x180_00000000)) [] 260) (move 0 0) few_device
    (done (bytes 4 0x02270000) (bytes 4 0) 0x100_00000000) ∷
    -- 9: 64 words; version 1 keeps its state of 132 bytes
    row (lend wide_bench_table (fresh_in 264) [] 259) (move 2 4) (drop 128 wide_bench) (no_room 0) ∷
    row (lend bench_table (given (wide_image 3 0 7)) [] 260) (move 1 2) camera (refused 7 0) ∷
    []

abbrev pub wide_done_rows : List Row
wide_done_rows =
    -- flash to D3hot from a fresh state: 59 OFFs of equal order, by falling number
    row (lend rig_table (fresh_in 264) [] 260) (move 1 3) flash
    (rig_to (offs_down 62 22 ++ offs_down 39 7 ++ offs_down 30 30) 0x00000000_03000000 0x80000101_80000001) ∷
    -- flash from D1 to D2, each set being at its place
    row (lend rig_table (given (rig_state 0x00000000_00000000 0xc0000101_80000001)) (move 1 1 ∷ []) 260) (move 1 2) flash
    (rig_to (bytes 8 0x012f0000_02210000) 0x00000000_02000000 0x80008101_80000001) ∷
    -- rig to D3hot: r32 stays on. r31 and r40, of equal order, exchanged; a lower order first; r32 for r0; r8 for r40; cut short
    with_lists
    (conforms 20 0x03000300_02000000_021f0000_02280000_023f0000
    ∷ differs 20 0x03000300_02280000_02000000_021f0000_023f0000
    ∷ differs 20 0x03000300_02200000_02280000_021f0000_023f0000
    ∷ differs 20 0x03000300_02000000_02080000_021f0000_023f0000
    ∷ differs 16 0x03000300_02000000_02280000_021f0000
    ∷ [])
    (row (rig_in 0x00000000_03000000 0x80000101_80000001) (move 0 3) rig
    (rig_to (bytes 20 0x03000300_02000000_02280000_021f0000_023f0000) 0x03000000_03000000 0x1_00000000)) ∷
    -- D3hot to D3cold
    row (rig_in 0x03000000_04000000 0x1_00000000) (move 0 4) rig (rig_to (bytes 4 0x02200000) 0x04000000_04000000 0) ∷
    -- arming, which turns r40 on, with a longer plan; disarming
    row (lend rig_table (given (rig_state 0x03000000_04000000 0x1_00000000)) [] 263) (arm 0 2 3) rig
    (rig_to (bytes 8 0x01280000_04000283) 0x03010203_04000000 0x101_00000000) ∷
    row (rig_in 0x03010203_04000000 0x101_00000000) (disarm 0) rig
    (rig_to (bytes 8 0x04000000_02280000) 0x03000000_04000000 0x1_00000000) ∷
    []

-- each edit alone makes the table of rig and flash, or that of the bench station, one that is refused
abbrev pub bad_rigs : ℕ → ℕ → List Edit → List Row
bad_rigs number place edits = map (λ e. bad_table number place (put rig_table e.at e.to)) edits

abbrev pub bad_benches : ℕ → ℕ → List Edit → List Row
bad_benches number place edits = map (λ e. bad_table number place (put wide_bench_table e.at e.to)) edits

-- a state of the bench station, and of rig and flash in D0, is refused
abbrev pub bad_state : ℕ → ℕ → List ℕ → Row
bad_state number place b = row (lend wide_bench_table (given b) [] 260) (move 1 0) wide_camera (refused number place)

abbrev pub bad_rig_state : ℕ → ℕ → Row
bad_rig_state place on = row (rig_in 0 on) (move 0 0) rig (refused 8 place)

-- a fresh state in so many bytes
abbrev pub bad_fresh : ℕ → Row
bad_fresh n = row (lend wide_bench_table (fresh_in n) [] 260) (move 1 0) wide_camera (refused 7 0)

abbrev pub wide_refused_rows : List Row
wide_refused_rows =
    -- 1: version 258, 513; 2: 65 of each, and version 1 with 64; 3, and no 2: 33 of each, 64 devices; a byte less and more; records of 40
    -- bytes
    bad_rigs 1 0 (edit 5 1 0x01 ∷ edit 4 2 0x0102 ∷ [])
    ++ bad_rigs 2 0 (edit 3 1 0x41 ∷ edit 6 1 0x41 ∷ edit 4 1 0x01 ∷ [])
    ++ bad_rigs 3 0 (edit 3 1 0x21 ∷ edit 6 1 0x21 ∷ edit 6 1 0x40 ∷ edit 392 1 0x00 ∷ [])
    ++ bad_table 3 0 (take 391 rig_table) ∷
    bad_table 3 0 (take 344 rig_table) ∷
    -- 4: r32, r63
    bad_rigs 4 32 (edit 136 1 0x05 ∷ [])
    ++ bad_rigs 4 63 (edit 261 1 0x01 ∷ [])
    -- 5: the camera's parent, masks and flags; `_PR0` to `_PR3` and `_PRW` with r3, r32 or r63, and `_PR1`, which is absent
    ++ bad_benches 5 1 (edit 84 1 0x01 ∷ edit 85 1 0x1d ∷ edit 86 1 0x1d ∷ edit 87 1 0x07 ∷ [])
    ++ bad_benches 5 1 (edit 88 1 0x0f ∷ edit 92 1 0x01 ∷ edit 95 1 0x80 ∷ edit 96 1 0x01 ∷ edit 104 1 0x0d ∷ edit 111 1 0x80 ∷ [])
    ++ bad_benches 5 1 (edit 112 1 0x09 ∷ edit 119 1 0x80 ∷ edit 120 1 0x0c ∷ edit 127 1 0x80 ∷ [])
    -- `_S1D`, `_S4D`; `_S3W` below `_S3D`; `_S0W`, `_S4W`; deepest, and of a bus without `_PRW`; the first and the last of the ten zeros
    ++ bad_benches 5 1 (edit 128 1 0x04 ∷ edit 131 1 0x04 ∷ edit 135 1 0x01 ∷ edit 132 1 0x05 ∷ edit 136 1 0x05 ∷ edit 137 1 0x05 ∷ [])
    ++ bad_benches 5 0 (edit 73 1 0x01 ∷ [])
    ++ bad_benches 5 1 (edit 138 1 0x01 ∷ edit 147 1 0x01 ∷ [])
    ++ bad_benches 5 2 (edit 211 1 0x01 ∷ [])
    -- r40, where there are 40 resources
    ++ bad_table 5 0 (few_table 40) ∷
    -- 6: `_PS3`; `_PR0`; `_DSW` without `_PRW`
    bad_benches 6 0 (edit 21 1 0x01 ∷ [])
    ++ bad_benches 6 2 (edit 150 10 0x0800_0000000000000000 ∷ edit 151 1 0x02 ∷ [])
    -- 7: a value; entries 3, 32 and 63; r3; 132, 263 and 265 bytes; r41, where there are 41 resources; a fresh state in 132 and 263 bytes
    ++ bad_state 7 0 (wide_image 1 0x05000000 7) ∷
    bad_state 7 0 (wide_image 4 0x03000000 7) ∷
    bad_state 7 0 (wide_image 33 0x03000000 7) ∷
    bad_state 7 0 (wide_image 64 0x00000001 7) ∷
    bad_state 7 0 (wide_image 3 0 0xf) ∷
    bad_state 7 0 (image 3 0 7) ∷
    bad_state 7 0 (take 263 (wide_image 3 0 7)) ∷
    bad_state 7 0 (wide_image 3 0 7 ++ 0 ∷ []) ∷
    row (lend (few_table 41) (given (wide_image 1 0 0x300_00000000)) [] 260) (move 0 0) few_device (refused 7 0) ∷
    bad_fresh 132 ∷
    bad_fresh 263 ∷
    -- 8: r32 is off, r63, r62
    bad_rig_state 0 0xc0000100_80000001 ∷
    bad_rig_state 0 0x40000101_80000001 ∷
    bad_rig_state 1 0x80000101_80000001 ∷
    -- 9: the 33 words of version 1; 10: a device past D
    row (lend wide_bench_table (fresh_in 264) [] 132) (move 3 4) [] (no_room 10) ∷
    row (lend wide_bench_table (fresh_in 264) [] 260) (move 3 4) [] (refused 10 0) ∷
    -- 16; 17, as r40 has level 2; 18 by `_S1W` and by `_S2D`
    row (rig_in 0 0xc0000101_80000001) (arm 0 4 3) rig (refused 16 0) ∷
    row (rig_in 0 0xc0000101_80000001) (arm 0 3 3) rig (refused 17 0) ∷
    row (rig_in 0 0xc0000101_80000001) (arm 0 1 4) rig (refused 18 0) ∷
    row (rig_in 0 0xc0000101_80000001) (arm 0 2 0) rig (refused 18 0) ∷
    -- version 1 keeps its fresh state of 132 bytes and its 32 resources
    row (lend bench_table (fresh_in 264) [] 260) (move 1 2) camera (refused 7 0) ∷
    bad_table 2 0 (bytes 8 0x5057542101000000 ++ replicate 132 0) ∷
    []

abbrev pub wide_bring_up_rows : List BringUpRow
wide_bring_up_rows =
    -- nothing on; r0 on, r32 off, and r0 for r32; r40 by `_PRW` alone; 9
    lent_bring_up rig_table (rig_state 0 0) 260
    (rig_to (bytes 24 0x013e0000_013f0000_011f0000_01280000_01000000_01200000) 0 0xc0000101_80000001)
    (conforms 24 0x013f0000_013e0000_01280000_011f0000_01200000_01000000
    ∷ differs 24 0x013e0000_013f0000_011f0000_01280000_01000000_01000000
    ∷ [])
    ∷
    lent_bring_up rig_table (rig_state 0x03000000_03000000 1) 260 (rig_to (bytes 8 0x01200000_02000000) 0x03000000_03000000 0x1_00000000)
    (differs 0 0 ∷ differs 8 0x01000000_02200000 ∷ [])
    ∷
    lent_bring_up rig_table (rig_state 0x03010203_03000000 0x80000000_00000000) 260
    (rig_to (bytes 12 0x01280000_01200000_023f0000) 0x03010203_03000000 0x101_00000000) []
    ∷
    lent_bring_up rig_table (rig_state 0 0xc0000101_80000001) 259 (no_room 0) [] ∷
    []

abbrev pub wide_sleep_rows : List SleepRow
wide_sleep_rows =
    -- the level of r40 is too low for D0 of the rig; 9 with 4,159 words, and with version 1's 1,056
    lent_sleep rig_table (rig_state 0 0xc0000101_80000001) (sleep 3) 16640
    (sleep_done (bytes 24 0x023e0000_03000300_02000000_02280000_021f0000_023f0000) (bytes 8 0x03000000_03000000) 0x1_00000000)
    ∷
    lent_sleep wide_bench_table (wide_image 3 0 7) (sleep 3) 16639 (no_room 10) ∷
    lent_sleep wide_bench_table (wide_image 3 0 7) (sleep 3) 4224 (no_room 10) ∷
    []
