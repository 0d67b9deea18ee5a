-- Rows of our own on bring-up and its checker (RULES.md 10.6, 12): the entries that were kept, and the on-set as `_STA` reports it.
use Rattle.std.specs.Prelude.{ℕ, ◌-◌, List, [], ◌∷◌, ◌++◌, take, replicate}
use Rattle.words.specs.Words.{put}
use Rattle.rules.specs.Index.{join}
use Rattle.rules.specs.Rows.{bytes, image, bench_table, Answer, Listed, with_answer, conforms, differs, done, refused, no_room}
use Rattle.rules.specs.OwnStation.{own_table, full_table, state}

-- what is lent, what must come, and other lists for the checker
pub record BringUpRow : Type 0 where
  pub table : List ℕ
  pub state : List ℕ
  pub room : ℕ
  pub answer : Answer
  pub lists : List Listed

-- any table and state, and any room
abbrev pub lent_bring_up : List ℕ → List ℕ → ℕ → Answer → List Listed → BringUpRow
lent_bring_up table state room answer lists = record { table = table; state = state; room = room; answer = answer; lists = lists }

-- the bench station, with the entries of bus, camera and lamp and an on-set
abbrev pub bench_bring_up : ℕ → ℕ → Answer → List Listed → BringUpRow
bench_bring_up entries on answer lists = lent_bring_up bench_table (image 3 entries on) 132 answer lists

-- the station of our own rows, all its resources on, refused with 8
abbrev pub own_refused : ℕ → ℕ → BringUpRow
own_refused entries place = lent_bring_up own_table (state entries 0x3f) 132 (refused 8 place) []

-- accepted, with lists that conform and lists that do not
abbrev pub done_rows : List BringUpRow
done_rows =
    -- all in D0 and nothing on: r0, r2, r1, of which the first two have the same order. These two exchanged conform; a higher order first,
    -- a call too few, a call twice, a method, a byte too many and no call do not
    bench_bring_up 0x00000000_00000000_00000000 0 (done (bytes 12 0x01000000_01020000_01010000) (bytes 12 0x00000000_00000000_00000000) 7)
    (conforms 12 0x01020000_01000000_01010000
    ∷ differs 12 0x01000000_01010000_01020000
    ∷ differs 8 0x01000000_01020000
    ∷ differs 16 0x01000000_01020000_01010000_01010000
    ∷ differs 16 0x01000000_01020000_01010000_03010000
    ∷ differs 13 0x01000000_01020000_01010000_00
    ∷ differs 0 0
    ∷ [])
    ∷
    -- the same with all on: no calls, and no ONs of what is on
    bench_bring_up 0x00000000_00000000_00000000 7 (done [] (bytes 12 0x00000000_00000000_00000000) 7)
    (differs 12 0x01000000_01020000_01010000 ∷ differs 4 0x01000000 ∷ differs 4 0x02000000 ∷ differs 1 0 ∷ [])
    ∷
    -- camera in D2, lamp in D3cold, r1 on alone: two ONs, then the OFF, and no `_PS2`
    bench_bring_up 0x00000000_02000000_04000000 2 (done (bytes 12 0x01000000_01020000_02010000) (bytes 12 0x00000000_02000000_04000000) 5)
    (differs 12 0x02010000_01000000_01020000
    ∷ differs 16 0x03010200_01000000_01020000_02010000
    ∷ differs 16 0x01000000_01020000_02010000_03010200
    ∷ [])
    ∷
    -- r0 is on: only r2 is turned on
    bench_bring_up 0x00000000_02000000_04000000 3 (done (bytes 8 0x01020000_02010000) (bytes 12 0x00000000_02000000_04000000) 5)
    (differs 12 0x01000000_01020000_02010000 ∷ [])
    ∷
    -- a consistent state: OFFs alone, the higher order first
    bench_bring_up 0x00000000_03000000_04000000 7 (done (bytes 8 0x02010000_02020000) (bytes 12 0x00000000_03000000_04000000) 1)
    (differs 8 0x02020000_02010000 ∷ [])
    ∷
    -- all in D3cold: equal orders by falling number, and in any sequence for the checker
    bench_bring_up 0x04000000_04000000_04000000 7 (done (bytes 12 0x02010000_02020000_02000000) (bytes 12 0x04000000_04000000_04000000) 0)
    (conforms 12 0x02010000_02000000_02020000 ∷ [])
    ∷
    -- camera in D2, armed for S3 and D2: no `_DSW`
    bench_bring_up 0x00000000_02010302_04000000 0 (done (bytes 8 0x01000000_01020000) (bytes 12 0x00000000_02010302_04000000) 5)
    (differs 12 0x01000000_01020000_04010382 ∷ [])
    ∷
    -- camera in D3hot, armed for S3 and D3hot: r2 is needed by its `_PRW` set alone
    bench_bring_up 0x00000000_03010303_04000000 2 (done (bytes 12 0x01000000_01020000_02010000) (bytes 12 0x00000000_03010303_04000000) 5)
    (differs 8 0x01000000_02010000 ∷ [])
    ∷
    -- camera in D0, armed for D2, which is deeper: neither `_PS0` nor `_DSW`
    bench_bring_up 0x00000000_00010302_00000000 5 (done (bytes 4 0x01010000) (bytes 12 0x00000000_00010302_00000000) 7)
    (differs 8 0x01010000_04010382 ∷ differs 8 0x01010000_03010000 ∷ [])
    ∷
    -- r1 is needed by the lamp alone; no OFF between the ONs
    bench_bring_up 0x00000000_03000000_00000000 4 (done (bytes 12 0x01000000_01010000_02020000) (bytes 12 0x00000000_03000000_00000000) 3)
    (differs 12 0x01000000_02020000_01010000 ∷ differs 8 0x01000000_02020000 ∷ [])
    ∷
    -- r1 is on and the lamp alone needs it: it stays
    bench_bring_up 0x00000000_02000000_00000000 7 (done [] (bytes 12 0x00000000_02000000_00000000) 7) (differs 4 0x02010000 ∷ []) ∷
    -- r0 is needed by the bus alone
    bench_bring_up 0x00000000_04000000_04000000 0 (done (bytes 4 0x01000000) (bytes 12 0x00000000_04000000_04000000) 1) (differs 0 0 ∷ []) ∷
    -- all in D3hot: r0 by `_PR3` of bus and camera; the lamp's `_PR3` is there and empty
    bench_bring_up 0x03000000_03000000_03000000 6 (done (bytes 12 0x01000000_02010000_02020000)
    (bytes 12 0x03000000_03000000_03000000) 1) [] ∷
    -- whole words are compared: another fourth byte, another third, r32 for r0, a word cut short
    bench_bring_up 0x00000000_00000000_00000000 6 (done (bytes 4 0x01000000) (bytes 12 0x00000000_00000000_00000000) 7)
    (differs 4 0x01000080 ∷ differs 4 0x01000100 ∷ differs 4 0x01200000 ∷ differs 3 0x010000 ∷ [])
    ∷
    -- 32 resources of equal order: sets of four bytes, and a plan of 34 words and a byte; and the longest list
    lent_bring_up full_table (replicate 132 0) 137
    (done (bytes 20 0x01000000_01080000_01100000_01180000_011f0000) (bytes 4 0x00000000) 0x81010101) []
    ∷
    lent_bring_up full_table (image 1 0x04000000 0xffff_ffff) 132
    (done (join (λ k. 2 ∷ (31 - k) ∷ 0 ∷ 0 ∷ []) 32) (bytes 4 0x04000000) 0) []
    ∷
    -- our station, all but the led in D3hot: r4 by the hub's `_PR0`, r1 by the radio's `_PR1`; orders 255, 65535, then 256, 5, 0
    lent_bring_up own_table (state 0x03000000_03000000_03000000_03000000_04000000 0x29) 132
    (done (bytes 20 0x01010000_01040000_02000000_02030000_02050000) (bytes 20 0x03000000_03000000_03000000_03000000_04000000) 0x12) []
    ∷
    -- no resources and no devices
    lent_bring_up (bytes 8 0x5057540001000000) (replicate 132 0) 133 (done [] (bytes 12 0) 0) (differs 4 0x01000000 ∷ []) ∷
    []

-- refused, with the first answer that applies
abbrev pub refused_rows : List BringUpRow
refused_rows =
    -- 8, with all on and with nothing on: camera in D1, which it has not
    bench_bring_up 0x00000000_01000000_00000000 7 (refused 8 1) [] ∷
    bench_bring_up 0x00000000_01000000_00000000 0 (refused 8 1) [] ∷
    -- camera and lamp shallower than the bus, and the lamp alone; shallower than the parent, which is not device 0
    bench_bring_up 0x03000000_00000000_00000000 7 (refused 8 1) [] ∷
    bench_bring_up 0x03000000_03000000_00000000 0 (refused 8 2) [] ∷
    own_refused 0x00000000_03000000_00000000_00000000_00000000 4 ∷
    -- armed for S2, for which there is no range; deeper than wake D; a lamp that is armed without `_PRW`, and with a range for S0 too
    bench_bring_up 0x00000000_00010202_00000000 7 (refused 8 1) [] ∷
    bench_bring_up 0x00000000_03010302_00000000 0 (refused 8 1) [] ∷
    bench_bring_up 0x00000000_00000000_00010000 0 (refused 8 2) [] ∷
    lent_bring_up (put bench_table 128 (0 ∷ [])) (image 3 0x00000000_00000000_00010000 7) 132 (refused 8 2) [] ∷
    -- a `_PRW` resource of too low a level; S above the deepest; wake D that it has not; D3cold that it has not
    own_refused 0x00000000_00000000_03010203_00000000_00000000 2 ∷
    own_refused 0x00000000_03010403_00000000_00000000_04000000 1 ∷
    own_refused 0x00000000_00000000_00010102_00000000_00000000 2 ∷
    own_refused 0x00000000_00000000_00000000_04000000_00000000 3 ∷
    -- two devices: the lowest counts
    bench_bring_up 0x00000000_01000000_00010000 7 (refused 8 1) [] ∷
    -- 7 before 8: r3, which there is not; armed 2; the pair of a device that is not armed; entries past D; a byte too few and too many
    bench_bring_up 0x00000000_01000000_00000000 8 (refused 7 0) [] ∷
    bench_bring_up 0x00000000_01020000_00000000 7 (refused 7 0) [] ∷
    bench_bring_up 0x00000000_01000302_00000000 7 (refused 7 0) [] ∷
    lent_bring_up bench_table (put (image 3 0x00000000_01000000_00000000 7) 12 (3 ∷ [])) 132 (refused 7 0) [] ∷
    lent_bring_up bench_table (put (image 3 0x00000000_01000000_00000000 7) 124 (3 ∷ [])) 132 (refused 7 0) [] ∷
    lent_bring_up bench_table (replicate 131 0) 132 (refused 7 0) [] ∷
    lent_bring_up bench_table (image 3 0 7 ++ 0 ∷ []) 132 (refused 7 0) (with_answer 7 (bytes 5 0) ∷ []) ∷
    -- 1 to 6 before 7 and 9, whatever the list is
    lent_bring_up [] [] 0 (refused 1 0) (with_answer 1 (bytes 1 0) ∷ []) ∷
    lent_bring_up (put bench_table 3 (33 ∷ [])) [] 0 (refused 2 0) [] ∷
    lent_bring_up (take 139 bench_table) [] 0 (refused 3 0) [] ∷
    lent_bring_up (put bench_table 12 (5 ∷ [])) [] 0 (refused 4 1) [] ∷
    lent_bring_up (put bench_table 60 (1 ∷ [])) [] 0 (refused 5 1) [] ∷
    lent_bring_up (put bench_table 103 (2 ∷ [])) [] 0 (refused 6 2) [] ∷
    -- 8 before 9; 9 for a byte too few, whatever the calls; the checker has no 9
    lent_bring_up bench_table (image 3 0x00000000_01000000_00000000 7) 131 (refused 8 1) [] ∷
    lent_bring_up bench_table (image 3 0 7) 131 (no_room 0) [] ∷
    lent_bring_up bench_table (image 3 0 0) 131 (no_room 19) [] ∷
    []
