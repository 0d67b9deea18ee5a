-- Rows of our own, under the same statement as W1 to W12: the answers, ranges and orders that the bench station does not reach.
use Rattle.std.specs.Prelude.{ℕ, List, [], ◌∷◌, ◌++◌, replicate}
use Rattle.rules.specs.Rows.{bytes, bench_table, lamp, request, move, arm, disarm, fresh_in, given, lend, done, refused, no_room}
use Rattle.rules.specs.Rows.{Listed, conforms, differs, Row, row}
use Rattle.rules.specs.Holds.{words_in}
use Rattle.rules.specs.OwnStation.{hub, disk, radio, fan, led, own_table, own_state, full_device, full_table, bare_device, bare, new}
use Rattle.rules.specs.OwnStation.{lent_state, from, to, asleep}
use Rattle.rules.specs.Damaged.{damaged_rows}

abbrev pub with_lists : List Listed → Row → Row
with_lists lists r = record { lent = r.lent; asked = r.asked; part = r.part; answer = r.answer; lists = lists }

-- other lists for the disk's move to D1
abbrev pub down_lists : List Listed
down_lists =
    -- r0 and r2, of equal order, exchanged; a lower order first; own last; the ON last; no call
    conforms 20 0x03010100_01010000_02000000_02020000_02030000 ∷
    differs 20 0x03010100_01010000_02030000_02020000_02000000 ∷
    differs 20 0x01010000_02020000_02000000_02030000_03010100 ∷
    differs 20 0x03010100_02020000_02000000_02030000_01010000 ∷
    differs 0 0x0 ∷
    -- without the own call; without the last; the last twice; a word that is no call, a byte and two bytes past the end
    differs 16 0x01010000_02020000_02000000_02030000 ∷
    differs 16 0x03010100_01010000_02020000_02000000 ∷
    differs 24 0x03010100_01010000_02020000_02000000_02030000_02030000 ∷
    differs 24 0x03010100_01010000_02020000_02000000_02030000_00000000 ∷
    differs 21 0x03010100_01010000_02020000_02000000_02030000_00 ∷
    differs 22 0x03010100_01010000_02020000_02000000_02030000_0000 ∷
    -- another state; an OFF with another fourth byte; an OFF of r4, which stays on
    differs 20 0x03010200_01010000_02020000_02000000_02030000 ∷
    differs 20 0x03010100_01010000_02020080_02000000_02030000 ∷
    differs 24 0x03010100_01010000_02040000_02020000_02000000_02030000 ∷
    []

-- other lists for its move back to D0: r0 and r2 exchanged; a higher order first; own first; without it; the OFF first
abbrev pub up_lists : List Listed
up_lists =
    conforms 20 0x01030000_01020000_01000000_02010000_03010000 ∷
    differs 20 0x01000000_01030000_01020000_02010000_03010000 ∷
    differs 20 0x03010000_01030000_01000000_01020000_02010000 ∷
    differs 16 0x01030000_01000000_01020000_02010000 ∷
    differs 20 0x02010000_01030000_01000000_01020000_03010000 ∷
    []

abbrev pub own_rows : List Row
own_rows =
    -- disk to D1: own, ON, OFFs by falling order, equal ones by falling number
    with_lists down_lists
    (row (from 0x00000000 0x3d) (move 1 1) disk (to (bytes 20 0x03010100_01010000_02020000_02000000_02030000) 0x01000000 0x32)) ∷
    -- and back to D0: ONs by rising order, equal ones by rising number, OFF, own
    with_lists up_lists
    (row (from 0x01000000 0x32) (move 1 0) disk (to (bytes 20 0x01030000_01000000_01020000_02010000_03010000) 0x00000000 0x3d)) ∷
    -- D2 to D3cold: `_PS3`, and r1, of order 255, before r3; D3hot to D3cold: no own call; D3cold to D0
    row (from 0x02000000 0x3a) (move 1 4) disk (to (bytes 12 0x03010300_02010000_02030000) 0x04000000 0x30) ∷
    row (from 0x03000000 0x30) (move 1 4) disk (to [] 0x04000000 0x30) ∷
    row (from 0x04000000 0x30) (move 1 0) disk (to (bytes 16 0x01030000_01000000_01020000_03010000) 0x00000000 0x3d) ∷
    -- moves to the present state; D1 by `_PS` alone, by `_PR` alone
    row (from 0x01000000 0x32) (move 1 1) disk (to [] 0x01000000 0x32) ∷
    row new (move 3 0) fan (done (bytes 4 0x02010000) (bytes 20 0x0) 0x3d) ∷
    row new (move 3 1) fan (done (bytes 8 0x03030100_02010000) (bytes 20 0x00000000_00000000_00000000_01000000_00000000) 0x3d) ∷
    row new (move 2 1) radio (done (bytes 4 0x02050000) (bytes 20 0x00000000_00000000_01000000_00000000_00000000) 0x1f) ∷
    -- D3hot without `_PR3`: the radio needs its `_PR1`, the hub its `_PR0`
    row new (move 2 3) radio (done (bytes 4 0x02050000) (bytes 20 0x00000000_00000000_03000000_00000000_00000000) 0x1f) ∷
    row (lent_state 0x00000000_03000000_03000000_03000000_04000000 0x12) (move 0 3) hub
    (done (bytes 4 0x03000300) (bytes 20 0x03000000_03000000_03000000_03000000_04000000) 0x12) ∷
    -- arming by `_SxD` only, by both, by `_SxW` only, for S0; again; in D2 for D2, its `_PRW` resource off before
    row (from 0x00000000 0x3d) (arm 1 1 1) disk (to (bytes 4 0x04010181) 0x00010101 0x3d) ∷
    row (from 0x00000000 0x3d) (arm 1 2 3) disk (to (bytes 4 0x04010283) 0x00010203 0x3d) ∷
    row (from 0x00000000 0x3d) (arm 1 3 0) disk (to (bytes 4 0x04010380) 0x00010300 0x3d) ∷
    row (from 0x00000000 0x3d) (arm 1 0 4) disk (to (bytes 4 0x04010084) 0x00010004 0x3d) ∷
    row (from 0x00010201 0x3d) (arm 1 3 2) disk (to (bytes 4 0x04010382) 0x00010302 0x3d) ∷
    row (from 0x02000000 0x3a) (arm 1 2 2) disk (to (bytes 8 0x01000000_04010282) 0x02010202 0x3b) ∷
    -- armed for D1, to D1; armed for D3cold, to D3cold: r0 stays on; then disarmed; disarmed when not armed
    row (from 0x00010201 0x3d) (move 1 1) disk (to (bytes 16 0x03010100_01010000_02020000_02030000) 0x01010201 0x33) ∷
    row (from 0x00010004 0x3d) (move 1 4) disk (to (bytes 12 0x03010300_02020000_02030000) 0x04010004 0x31) ∷
    row (from 0x04010004 0x31) (disarm 1) disk (to (bytes 8 0x04010000_02000000) 0x04000000 0x30) ∷
    row (from 0x00000000 0x3d) (disarm 1) disk (to [] 0x00000000 0x3d) ∷
    -- without `_DSW` no own call, for arming and disarming
    row new (arm 2 1 3) radio (done (bytes 4 0x02010000) (bytes 20 0x00000000_00000000_00010103_00000000_00000000) 0x3d) ∷
    row (lent_state 0x00000000_00000000_00010103_00000000_00000000 0x3d) (disarm 2) radio (done [] (bytes 20 0x0) 0x3d) ∷
    -- more on than needed; a plan of more than 132 bytes
    row (lend own_table (given own_state) [] 137) (disarm 1) disk
    (done (bytes 12 0x04010000_02020000_02000000) (bytes 20 0x00000000_01000000_03000000_00000000_04000000) 0x12) ∷
    -- without any object: D0 and D3hot only
    row bare (move 0 3) bare_device (done [] (bytes 4 0x03000000) 0) ∷ row bare (move 0 1) bare_device (refused 11 0) ∷
    -- sets of four bytes; D3cold needs nothing
    row (lend full_table (given (replicate 128 0 ++ bytes 4 0x01010181)) [] 132) (move 0 3) full_device
    (done (bytes 20 0x03000300_02180000_02100000_02080000_02000000) (bytes 4 0x03000000) 0x80000000) ∷
    row (lend full_table (given (bytes 4 0x03000000 ++ replicate 124 0 ++ bytes 4 0x00000080)) [] 132) (move 0 0) full_device
    (done (bytes 20 0x01000000_01080000_01100000_01180000_03000000) (bytes 4 0x0) 0x81010101) ∷
    row (lend full_table (given (bytes 4 0x03000000 ++ replicate 124 0 ++ bytes 4 0x00000080)) [] 132) (move 0 4) full_device
    (done (bytes 4 0x021f0000) (bytes 4 0x04000000) 0) ∷
    -- 9, before 10
    row (lend bench_table (fresh_in 132) [] 131) (move 2 4) lamp (no_room 0) ∷
    row (lend bench_table (fresh_in 132) [] 131) (move 2 5) lamp (no_room 10) ∷
    -- 10: kind, numbers, unused ones; device
    row new (request 0 1 0 0) disk (refused 10 0) ∷ row new (request 5 1 0 0) disk (refused 10 0) ∷
    row new (request 257 1 0 0) disk (refused 10 0) ∷ row new (move 1 5) disk (refused 10 0) ∷
    row new (request 1 1 1 1) disk (refused 10 0) ∷
    row new (arm 1 5 1) disk (refused 10 0) ∷ row new (arm 1 1 5) disk (refused 10 0) ∷
    row new (request 3 1 1 0) disk (refused 10 0) ∷ row new (request 3 1 0 1) disk (refused 10 0) ∷ row new (move 5 0) [] (refused 10 0) ∷
    row (lend (bytes 8 0x5057540001000000) (fresh_in 132) [] 132) (move 0 0) [] (refused 10 0) ∷
    -- 11, before 12, 14 and 15
    row new (move 0 1) hub (refused 11 0) ∷ row new (move 0 2) hub (refused 11 0) ∷ row new (move 0 4) hub (refused 11 0) ∷
    row asleep (move 3 2) fan (refused 11 0) ∷ row asleep (move 3 4) fan (refused 11 0) ∷
    row (lent_state 0x00000000_00000000_00010103_00000000_00000000 0x3d) (move 2 4) radio (refused 11 0) ∷
    -- 12, before 13; 13
    row asleep (move 1 1) disk (refused 12 0) ∷ row asleep (move 1 0) disk (refused 13 0) ∷ row asleep (move 4 0) led (refused 13 1) ∷
    -- 14 at the lowest child that is shallower, before 15
    row new (move 0 3) hub (refused 14 1) ∷
    row (lent_state 0x00000000_03000000_03000000_00000000_04000000 0x12) (move 0 3) hub (refused 14 3) ∷
    row (lent_state 0x00000000_00010201_00000000_00000000_00000000 0x3d) (move 1 2) disk (refused 14 4) ∷
    row (from 0x00010201 0x3d) (move 1 2) disk (refused 15 0) ∷ row (from 0x00010201 0x3d) (move 1 4) disk (refused 15 0) ∷
    -- 16, before 17; 17, before 18
    row new (arm 0 0 0) hub (refused 16 0) ∷ row new (arm 1 4 3) disk (refused 16 0) ∷ row new (arm 2 3 0) radio (refused 16 0) ∷
    row new (arm 2 2 3) radio (refused 17 0) ∷ row new (arm 2 2 2) radio (refused 17 0) ∷
    -- 18: not supported; outside each range; S0 has no `_SxD`; shallower than the present state
    row new (arm 2 1 2) radio (refused 18 0) ∷ row new (arm 2 0 0) radio (refused 18 0) ∷
    row new (arm 1 1 0) disk (refused 18 0) ∷ row new (arm 1 1 2) disk (refused 18 0) ∷ row new (arm 1 2 0) disk (refused 18 0) ∷
    row new (arm 1 2 4) disk (refused 18 0) ∷ row new (arm 1 3 3) disk (refused 18 0) ∷
    row (from 0x02000000 0x3a) (arm 1 2 1) disk (refused 18 0) ∷
    damaged_rows

-- words at the ends of their ranges: each is a call
abbrev pub call_words : List ℕ
call_words = words_in (bytes 32 0x01000000_01ff0000_02ff0000_03ff0000_03000300_04ff0000_04000484_04000080)

-- and words just past them, which are none
abbrev pub other_words : List ℕ
other_words =
    words_in (bytes 24 0x00000000_05000000_01000100_01000001_02000100_02000001)
    ++ words_in (bytes 28 0x03000400_03000001_04000100_04000001_04000580_0400007f_04000085)
