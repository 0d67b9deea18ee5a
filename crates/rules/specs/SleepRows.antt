-- Rows of our own on sleep entry (RULES.md 13): the states that are taken, the calls of the moves, answers 9, 10, 20 and 21; and kinds that
-- are not sleep entry.
use Rattle.std.specs.Prelude.{ℕ, List, [], ◌∷◌, ◌++◌, replicate}
use Rattle.words.specs.Words.{put}
use Rattle.rules.specs.declared.Request.{Request}
use Rattle.rules.specs.Rows.{bytes, image, bench_table, request, Answer, refused, no_room}
use Rattle.rules.specs.OwnStation.{own_table, state, bare_device}

-- r0 (0, 1), r1 (1, 2), r2 (2, 3), r3 (3, 4)
-- 0 modem: every `_PS`; `_PR0` {0}, `_PR1` {1}, `_PR2` {2}, `_PR3` {3}
abbrev pub modem : List ℕ
modem = bytes 40 0xff0f0f00_01000000_02000000_04000000_08000000_00000000_ffffffff_ffffffffff_00_000000000000

-- 1 screen: every `_PS`, no `_PR`; `_S1D` to `_S4D` are 0 to 3
abbrev pub screen : List ℕ
screen = bytes 40 0xff0f0000_00000000_00000000_00000000_00000000_00000000_00010203_ffffffffff_00_000000000000

-- 2 pen: parent 1; without any object, so D0 and D3hot only
unfoldable pub steps_table : List ℕ
steps_table = bytes 24 0x5057540401000300_00000100_01000200_02000300_03000400 ++ modem ++ screen ++ put bare_device 0 (1 ∷ [])

-- r0 (2, 1), r1 (2, 2)
-- 0 port: `_PS0`, `_PS3`; `_PR0` {0}, `_PR3` empty; `_PRW` {1} to S2, `_DSW`; wake ranges: S1 and S2 0 to 4
abbrev pub port : List ℕ
port = bytes 40 0xff090903_01000000_00000000_00000000_00000000_02000000_ffffffff_ff0404ffff_02_000000000000

-- 1 stick: parent 0; no `_PS`; `_PR0` {0}, `_PR3` empty
abbrev pub stick : List ℕ
stick = bytes 40 0x00000900_01000000_00000000_00000000_00000000_00000000_ffffffff_ffffffffff_00_000000000000

unfoldable pub port_table : List ℕ
port_table = bytes 16 0x5057540201000200_02000100_02000200 ++ port ++ stick

-- r0 (4, 1), r1 (1, 2); a scanner: no `_PS`; `_PR0` {0}, `_PR1` {1} and no `_PR3`, so D3hot needs r1 as D1 does; `_S2D` is 1
abbrev pub scanner : List ℕ
scanner = bytes 40 0xff000300_01000000_02000000_00000000_00000000_00000000_ff01ffff_ffffffffff_00_000000000000

unfoldable pub scanner_table : List ℕ
scanner_table = bytes 16 0x5057540201000100_04000100_01000200 ++ scanner

-- what is lent and asked, and what must come
pub record SleepRow : Type 0 where
  pub table : List ℕ
  pub state : List ℕ
  pub asked : Request
  pub room : ℕ
  pub answer : Answer

abbrev pub lent_sleep : List ℕ → List ℕ → Request → ℕ → Answer → SleepRow
lent_sleep table state asked room answer = record { table = table; state = state; asked = asked; room = room; answer = answer }

-- done, and refused with a number above 8: the checker answers 10
abbrev pub sleep_done : List ℕ → List ℕ → ℕ → Answer
sleep_done calls entries on = record { number = 0; place = 0; checked = 10; calls = calls; entries = entries; on = on }

abbrev pub sleep_refused : ℕ → ℕ → Answer
sleep_refused number place = record { number = number; place = place; checked = 10; calls = []; entries = []; on = 0 }

-- sleep entry for Sx, in a plan of just the bytes that it needs
abbrev pub sleep : ℕ → Request
sleep x = request 4 0 x 0

abbrev pub to_sleep : List ℕ → List ℕ → ℕ → Answer → SleepRow
to_sleep table state x = lent_sleep table state (sleep x) 4224

-- the stations, each with the entries of its devices, an on-set and x
abbrev pub on_bench : ℕ → ℕ → ℕ → Answer → SleepRow
on_bench entries on = to_sleep bench_table (image 3 entries on)

abbrev pub on_own : ℕ → ℕ → ℕ → Answer → SleepRow
on_own entries on = to_sleep own_table (state entries on)

abbrev pub on_steps : ℕ → ℕ → ℕ → Answer → SleepRow
on_steps entries on = to_sleep steps_table (image 3 entries on)

abbrev pub on_port : ℕ → ℕ → ℕ → Answer → SleepRow
on_port entries on = to_sleep port_table (image 2 entries on)

abbrev pub on_scanner : ℕ → ℕ → ℕ → Answer → SleepRow
on_scanner entries on = to_sleep scanner_table (image 1 entries on)

-- the bench station with other bytes in its table, all on
abbrev pub on_bench_with : ℕ → List ℕ → ℕ → ℕ → Answer → SleepRow
on_bench_with at bs entries = to_sleep (put bench_table at bs) (image 3 entries 7)

-- the bench station with its camera armed for S3 and D2, any request and any room
abbrev pub waking_bench : Request → ℕ → Answer → SleepRow
waking_bench = lent_sleep bench_table (image 3 0x00000000_00010302_00000000 7)

-- the rows that the edits in must-fail/ break; those after them are computed in crates/rows
abbrev pub sleep_first_rows : List SleepRow
sleep_first_rows =
    -- W9, then S3: the lamp moves first, without calls, as the camera needs r1; then the camera to its wake state
    on_bench 0x00000000_00010302_00000000 7 3 (sleep_done (bytes 8 0x03010200_02010000) (bytes 12 0x00000000_02010302_03000000) 5) ∷
    -- again with r1 on: it goes off, though no device moves
    on_bench 0x00000000_02010302_03000000 7 3 (sleep_done (bytes 4 0x02010000) (bytes 12 0x00000000_02010302_03000000) 5) ∷
    -- armed for D3hot: deeper than D2, which would do if it were not armed; r2 stays on by its `_PRW` set
    on_bench 0x00000000_00010303_00000000 7 3 (sleep_done (bytes 8 0x03010300_02010000) (bytes 12 0x00000000_03010303_03000000) 5) ∷
    -- for S4: the level of r0 is too low for the bus, so D3cold alone is left for it, and for its children; moves by falling number
    on_bench 0x00000000_00000000_00000000 7 4
    (sleep_done (bytes 20 0x03010300_02010000_02020000_03000300_02000000) (bytes 12 0x04000000_04000000_04000000) 0) ∷
    -- S3: the modem moves until what it needs is of the level, the screen to `_S3D`, the pen with the screen
    on_steps 0x00000000_00000000_00000000 1 3
    (sleep_done (bytes 16 0x03010200_03000300_01030000_02000000) (bytes 12 0x03000000_02000000_03000000) 8) ∷
    -- 20 for the lowest of two that are armed for S1, before 21; 9: 1,055 words
    on_own 0x00000000_00010101_00010103_00000000_00000000 0x3d 2 (sleep_refused 20 1) ∷
    waking_bench (sleep 3) 4223 (no_room 10) ∷
    []

-- done
abbrev pub sleep_done_rows : List SleepRow
sleep_done_rows =
    -- a second time: no calls; with r1 on and a longer plan: it goes off, though no device moves
    on_bench 0x00000000_02010302_03000000 5 3 (sleep_done [] (bytes 12 0x00000000_02010302_03000000) 5) ∷
    lent_sleep bench_table (image 3 0x00000000_02010302_03000000 7) (sleep 3) 4231
    (sleep_done (bytes 4 0x02010000) (bytes 12 0x00000000_02010302_03000000) 5) ∷
    -- not armed, for S1: D0 of camera and lamp needs r1, of level 0, and the camera has no D1
    on_bench 0x00000000_00000000_00000000 7 1 (sleep_done (bytes 8 0x03010200_02010000) (bytes 12 0x00000000_02000000_03000000) 5) ∷
    -- r1 is on and not needed: the lamp stays and gives no calls, so the camera's `_PS3` comes first; no `_PS3` from D3hot to D3cold
    on_bench 0x00000000_02000000_04000000 7 4
    (sleep_done (bytes 20 0x03010300_02010000_02020000_03000300_02000000) (bytes 12 0x04000000_04000000_04000000) 0) ∷
    on_bench 0x00000000_03000000_04000000 7 4
    (sleep_done (bytes 16 0x02010000_02020000_03000300_02000000) (bytes 12 0x04000000_04000000_04000000) 0) ∷
    on_bench 0x03000000_03000000_03000000 1 4 (sleep_done (bytes 4 0x02000000) (bytes 12 0x04000000_04000000_04000000) 0) ∷
    -- only the lamp moves, and r2, which no device needs, goes off too
    on_bench 0x00000000_03000000_00000000 7 3 (sleep_done (bytes 8 0x02010000_02020000) (bytes 12 0x00000000_03000000_03000000) 1) ∷
    -- none moves: turn-off calls alone, by falling order, equal ones by falling number
    on_bench 0x04000000_04000000_04000000 7 4 (sleep_done (bytes 12 0x02010000_02020000_02000000) (bytes 12 0x04000000_04000000_04000000) 0) ∷
    -- a camera whose D2 needs r1 too
    on_bench_with 72 (7 ∷ []) 0x00000000_00000000_00000000 3
    (sleep_done (bytes 12 0x03010300_02010000_02020000) (bytes 12 0x00000000_03000000_03000000) 1) ∷
    -- our station, all on: the disk to its `_S1D`, the led with it. r1, which no device needs in D0, goes off with the led's move
    on_own 0x00000000_00000000_00000000_00000000_00000000 0x3f 1
    (sleep_done (bytes 24 0x02010000_03010100_01010000_02020000_02000000_02030000)
    (bytes 20 0x00000000_01000000_00000000_00000000_03000000) 0x32) ∷
    -- disk armed for D1: r0 stays on; radio armed for D3hot, which needs its `_PR1`
    on_own 0x00000000_00010101_00010103_00000000_00000000 0x3d 1
    (sleep_done (bytes 20 0x01010000_02050000_03010100_02020000_02030000) (bytes 20 0x00000000_01010101_03010103_00000000_03000000) 0x13) ∷
    -- none moves: the disk in D2, deeper than `_S1D`; the hub and all below it in D3hot
    on_own 0x00000000_02000000_00000000_00000000_04000000 0x3f 1
    (sleep_done (bytes 8 0x02020000_02000000) (bytes 20 0x00000000_02000000_00000000_00000000_04000000) 0x3a) ∷
    on_own 0x03000000_03000000_03000000_03000000_04000000 0x3f 1
    (sleep_done (bytes 16 0x02020000_02000000_02030000_02050000) (bytes 20 0x03000000_03000000_03000000_03000000_04000000) 0x12) ∷
    -- S1, S2 and S4: the modem moves until what it needs is of the level, the screen to `_SxD` of this x, the pen with the screen
    on_steps 0x00000000_00000000_00000000 1 1 (sleep_done (bytes 12 0x03000100_01010000_02000000) (bytes 12 0x01000000_00000000_00000000) 2) ∷
    on_steps 0x00000000_00000000_00000000 1 2
    (sleep_done (bytes 16 0x03010100_03000200_01020000_02000000) (bytes 12 0x02000000_01000000_03000000) 4) ∷
    on_steps 0x00000000_00000000_00000000 1 4 (sleep_done (bytes 12 0x03010300_03000300_02000000) (bytes 12 0x04000000_03000000_03000000) 0) ∷
    -- the modem from D1 to D2; not back from D2 to D1; the screen in D2, deeper than `_S2D`
    on_steps 0x01000000_00000000_00000000 2 2
    (sleep_done (bytes 16 0x03010100_03000200_01020000_02010000) (bytes 12 0x02000000_01000000_03000000) 4) ∷
    on_steps 0x02000000_00000000_00000000 4 1 (sleep_done [] (bytes 12 0x02000000_00000000_00000000) 4) ∷
    on_steps 0x02000000_02000000_03000000 0xf 2
    (sleep_done (bytes 12 0x02030000_02010000_02000000) (bytes 12 0x02000000_02000000_03000000) 4) ∷
    -- the port armed for D3cold, and the stick with it; for D0, and both stay; r1 is needed
    on_port 0x00010204_00000000 3 2 (sleep_done (bytes 8 0x03000300_02000000) (bytes 8 0x04010204_04000000) 2) ∷
    on_port 0x00010200_00000000 3 2 (sleep_done [] (bytes 8 0x00010200_00000000) 3) ∷
    -- not armed: r1 is not needed and its level does not count; it goes off alone, or with the first move
    on_port 0x00000000_00000000 3 2 (sleep_done (bytes 4 0x02010000) (bytes 8 0x00000000_00000000) 1) ∷
    on_port 0x00000000_00000000 3 3 (sleep_done (bytes 12 0x02010000_03000300_02000000) (bytes 8 0x03000000_03000000) 0) ∷
    -- the scanner has no `_S1D`; no devices at all
    on_scanner 0x00000000 3 1 (sleep_done (bytes 4 0x02010000) (bytes 4 0x00000000) 1) ∷
    lent_sleep (bytes 16 0x5057540201000000_00000100_00000200) (image 0 0 3) (sleep 4) 4224
    (sleep_done (bytes 8 0x02010000_02000000) (bytes 0 0) 0) ∷
    []

-- refused, with the first answer that applies
abbrev pub sleep_refused_rows : List SleepRow
sleep_refused_rows =
    -- 20: the camera is armed for S3; the port, device 0
    on_bench 0x00000000_00010302_00000000 7 1 (sleep_refused 20 1) ∷
    on_bench 0x00000000_00010302_00000000 7 4 (sleep_refused 20 1) ∷
    on_port 0x00010204_00000000 3 3 (sleep_refused 20 0) ∷
    -- armed for S0; the second of two, the first being armed for x, which would be 21
    on_own 0x00000000_00010004_00000000_00000000_00000000 0x3d 1 (sleep_refused 20 1) ∷
    on_own 0x00000000_00010202_00010100_00000000_00000000 0x3d 2 (sleep_refused 20 2) ∷
    -- 21: the level of r4 is too low for the hub, which has no D3cold; also with the disk armed for this x
    on_own 0x00000000_00000000_00000000_00000000_00000000 0x3f 2 (sleep_refused 21 0) ∷
    on_own 0x00000000_00010202_00000000_00000000_00000000 0x3d 2 (sleep_refused 21 0) ∷
    -- by `_S2D`, as D0 would do; by the level alone, in D1
    on_scanner 0x00000000 3 2 (sleep_refused 21 0) ∷
    on_scanner 0x01000000 2 2 (sleep_refused 21 0) ∷
    -- by the needs of wake D, as D3hot would do; by the bus, for which D3cold alone is left: wake D is shallower; the lamp has no D3cold
    on_bench_with 72 (7 ∷ []) 0x00000000_00010302_00000000 3 (sleep_refused 21 0) ∷
    to_sleep (put (put bench_table 8 (2 ∷ [])) 72 (4 ∷ [])) (image 3 0x00000000_00010302_00000000 7) 3 (sleep_refused 21 0) ∷
    on_bench_with 102 (0 ∷ 0 ∷ 0 ∷ []) 0x00000000_00000000_00000000 4 (sleep_refused 21 0) ∷
    -- 10, before 20 and 21: x, and the other two numbers, each as a whole
    waking_bench (sleep 0) 4224 (sleep_refused 10 0) ∷
    waking_bench (sleep 5) 4224 (sleep_refused 10 0) ∷
    waking_bench (sleep 259) 4224 (sleep_refused 10 0) ∷
    waking_bench (request 4 1 3 0) 4224 (sleep_refused 10 0) ∷
    waking_bench (request 4 256 3 0) 4224 (sleep_refused 10 0) ∷
    waking_bench (request 4 0 3 1) 4224 (sleep_refused 10 0) ∷
    waking_bench (request 4 0 3 256) 4224 (sleep_refused 10 0) ∷
    -- 9, before 10: 1,055 words, also with a number too many; the 33 words of other kinds
    waking_bench (sleep 0) 4223 (no_room 10) ∷
    waking_bench (request 4 1 3 0) 132 (no_room 10) ∷
    waking_bench (sleep 3) 132 (no_room 10) ∷
    waking_bench (sleep 3) 131 (no_room 10) ∷
    -- other kinds need 33 words, and get 10 with more too: 0, 5, and those whose low byte is 4
    waking_bench (request 0 0 3 0) 132 (sleep_refused 10 0) ∷
    waking_bench (request 5 0 3 0) 132 (sleep_refused 10 0) ∷
    waking_bench (request 260 0 3 0) 132 (sleep_refused 10 0) ∷
    waking_bench (request 260 0 3 0) 4224 (sleep_refused 10 0) ∷
    -- 1 to 8 before 9, and 8 before 10
    lent_sleep [] [] (sleep 3) 0 (refused 1 0) ∷
    lent_sleep bench_table (replicate 131 0) (sleep 3) 132 (refused 7 0) ∷
    lent_sleep bench_table (image 3 0x00000000_00010202_00000000 7) (sleep 3) 132 (refused 8 1) ∷
    lent_sleep bench_table (image 3 0x00000000_00000000_00000000 5) (sleep 0) 4224 (refused 8 1) ∷
    []
