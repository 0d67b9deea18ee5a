-- Rows of our own on refused tables and states, answers 1 to 8.
use Rattle.std.specs.Prelude.{ℕ, List, [], ◌∷◌, ◌++◌, map, take}
use Rattle.words.specs.Words.{put}
use Rattle.rules.specs.Rows.{bytes, bench_table, disarm, fresh_in, given, lend, refused, Row, row}
use Rattle.rules.specs.OwnStation.{own_header, hub, disk, radio, fan, led, own_table, own_state}

-- n bytes from `at` on, to be put in the place of others
pub record Edit : Type 0 where
  pub at : ℕ
  pub to : List ℕ

abbrev pub edit : ℕ → ℕ → ℕ → Edit
edit at n x = record { at = at; to = bytes n x }

-- a table is refused with this number and place, also by a fresh state whose buffer is too small
abbrev pub bad_table : ℕ → ℕ → List ℕ → Row
bad_table number place t = row (lend t (fresh_in 131) [] 132) (disarm 0) [] (refused number place)

-- a state of our station is refused
abbrev pub bad_state : ℕ → ℕ → List ℕ → Row
bad_state number place b = row (lend own_table (given b) [] 132) (disarm 1) disk (refused number place)

-- each edit alone makes our table, or our state, such a one
abbrev pub bad_tables : ℕ → ℕ → List Edit → List Row
bad_tables number place edits = map (λ e. bad_table number place (put own_table e.at e.to)) edits

abbrev pub bad_states : ℕ → ℕ → List Edit → List Row
bad_states number place edits = map (λ e. bad_state number place (put own_state e.at e.to)) edits

abbrev pub damaged_rows : List Row
damaged_rows =
    -- 1: mark, version, byte 7; before 2; under 8 bytes
    bad_tables 1 0 (edit 0 1 0x51 ∷ edit 1 1 0x77 ∷ edit 2 1 0x74 ∷ edit 4 1 0x00 ∷ edit 4 1 0x03 ∷ edit 5 1 0x01 ∷ edit 7 1 0x01 ∷ [])
    ++ bad_tables 1 0 (edit 0 4 0x51575421 ∷ [])
    ++ bad_table 1 0 (bytes 7 0x50575400010000) ∷
    bad_table 1 0 [] ∷
    -- 2: R, D; 3: too long, too short, the records of version 1 in a table of version 2; before 4
    bad_tables 2 0 (edit 3 1 0x21 ∷ edit 6 1 0x21 ∷ [])
    ++ bad_tables 3 0 (edit 3 1 0x20 ∷ edit 6 1 0x20 ∷ edit 232 1 0x00 ∷ edit 4 1 0x02 ∷ edit 3 6 0x05010005_0005 ∷ [])
    ++ bad_table 3 0 (take 139 bench_table) ∷
    bad_table 3 0 (bench_table ++ 0 ∷ []) ∷
    -- 4: systemlevel, reserved byte; the lowest; before 5
    bad_tables 4 4 (edit 24 1 0x05 ∷ edit 25 1 0x01 ∷ [])
    ++ bad_tables 4 1 (edit 12 5 0x0500ff00_05 ∷ [])
    ++ bad_tables 4 5 (edit 28 5 0x05000000_fe ∷ [])
    -- 5: the hub's parent; sets and deepest state whose objects are absent
    ++ bad_tables 5 0 (edit 32 1 0x00 ∷ edit 32 1 0xfe ∷ [])
    ++ bad_tables 5 0 (edit 40 1 0x01 ∷ edit 44 1 0x01 ∷ edit 48 1 0x01 ∷ edit 52 1 0x01 ∷ edit 65 1 0x01 ∷ [])
    -- the disk's parent, masks and flags; sets with r6; `_SxD`, `_SxW` and their pair; deepest state; reserved bytes
    ++ bad_tables 5 1 (edit 72 1 0x01 ∷ edit 73 1 0x1f ∷ edit 74 1 0x1f ∷ edit 75 1 0x07 ∷ [])
    ++ bad_tables 5 1 (edit 76 1 0x40 ∷ edit 79 1 0x01 ∷ edit 80 1 0x40 ∷ edit 84 1 0x40 ∷ edit 88 1 0x40 ∷ edit 92 1 0x40 ∷ [])
    ++ bad_tables 5 1 (edit 96 1 0x04 ∷ edit 98 1 0xfe ∷ edit 99 1 0x04 ∷ edit 100 1 0x05 ∷ edit 103 1 0x05 ∷ edit 104 1 0x05 ∷ [])
    ++ bad_tables 5 1 (edit 102 1 0x00 ∷ edit 104 1 0x01 ∷ [])
    ++ bad_tables 5 1 (edit 105 1 0x05 ∷ edit 106 1 0x01 ∷ edit 111 1 0x01 ∷ [])
    -- the last device; 5 before 6
    ++ bad_tables 5 4 (edit 192 1 0x04 ∷ edit 231 1 0x01 ∷ [])
    ++ bad_tables 5 3 (edit 153 3 0x030004 ∷ [])
    -- 6: `_PS0`, `_PS3`; `_PR0`; masks that differ in bit 1, in bit 2; `_DSW` without `_PRW`; before 5 of a later device
    ++ bad_tables 6 3 (edit 153 1 0x03 ∷ edit 153 1 0x0a ∷ [])
    ++ bad_tables 6 2 (edit 114 3 0x020100 ∷ [])
    ++ bad_tables 6 1 (edit 73 1 0x0d ∷ edit 73 1 0x0b ∷ [])
    ++ bad_tables 6 4 (edit 195 1 0x02 ∷ [])
    ++ bad_table 6 0 (own_header ++ put hub 1 (0x01 ∷ []) ++ put disk 0 (0x01 ∷ []) ++ radio ++ fan ++ led) ∷
    -- 7: values, pairs of the unarmed, entries past D, on-set, size; before 8
    bad_states 7 0 (edit 4 1 0x05 ∷ edit 5 1 0x02 ∷ edit 9 1 0x02 ∷ edit 6 1 0x05 ∷ edit 7 1 0x05 ∷ edit 10 1 0x01 ∷ edit 11 1 0x01 ∷ [])
    ++ bad_states 7 0 (edit 20 1 0x01 ∷ edit 21 1 0x01 ∷ edit 124 1 0x01 ∷ edit 128 1 0x40 ∷ edit 131 1 0x80 ∷ edit 132 1 0x00 ∷ [])
    ++ bad_states 7 0 (edit 4 2 0x0002 ∷ [])
    ++ bad_state 7 0 (take 131 own_state) ∷
    row (lend own_table (fresh_in 131) [] 132) (disarm 1) disk (refused 7 0) ∷
    row (lend own_table (fresh_in 133) [] 132) (disarm 1) disk (refused 7 0) ∷
    -- 8: not supported; needs that are off; shallower than the parent
    bad_states 8 0 (edit 0 1 0x01 ∷ edit 128 1 0x07 ∷ [])
    ++ bad_states 8 1 (edit 4 1 0x00 ∷ edit 128 1 0x16 ∷ edit 0 1 0x03 ∷ [])
    -- armed: the state deeper than wake D; outside the range; S above the deepest; a `_PRW` resource's level
    ++ bad_states 8 1 (edit 4 1 0x03 ∷ edit 6 1 0x01 ∷ edit 7 1 0x04 ∷ edit 6 2 0x0403 ∷ [])
    ++ bad_states 8 2 (edit 9 3 0x010203 ∷ edit 8 1 0x02 ∷ [])
    ++ bad_states 8 3 (edit 12 1 0x02 ∷ edit 13 1 0x01 ∷ edit 12 5 0x0200000000 ∷ [])
    ++ bad_states 8 4 (edit 16 1 0x00 ∷ edit 16 1 0x01 ∷ [])
    -- 8, before 9
    ++ row (lend own_table (given (put own_state 4 (0x00 ∷ []))) [] 131) (disarm 1) disk (refused 8 1) ∷
    []
