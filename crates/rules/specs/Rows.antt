-- RULES.md 10: the bench station's table, byte for byte, and the worked rows W1 to W12. What a row must meet is in Holds; rows of our own
-- are in OwnRows.
use Rattle.std.specs.Prelude.{ℕ, zero, suc, ◌-◌, ◌*◌, ◌/◌, ◌%◌, List, [], ◌∷◌, ◌++◌, reverse, length, replicate}
use Rattle.rules.specs.declared.Request.{Request}

-- the n bytes of x as they stand in a hexadecimal number, the highest first
abbrev pub bytes_onto : List ℕ → ℕ → ℕ → List ℕ
bytes_onto l zero x = l
bytes_onto l (suc n) x = bytes_onto (x % 256 ∷ l) n (x / 256)

abbrev pub bytes : ℕ → ℕ → List ℕ
bytes n x = bytes_onto [] n x

-- RULES.md 10.1: the records of the bench station's devices
abbrev pub bus : List ℕ
bus = bytes 40 0xff090900_01000000_00000000_00000000_01000000_00000000_ffffffff_ffffffffff_00_000000000000

abbrev pub camera : List ℕ
camera = bytes 40 0x000d0d03_07000000_00000000_05000000_01000000_04000000_ffff02ff_ffffff03ff_03_000000000000

abbrev pub lamp : List ℕ
lamp = bytes 40 0x00000900_02000000_00000000_00000000_00000000_00000000_ffffffff_ffffffffff_00_000000000000

-- header; r0 (3, 1), r1 (0, 2), r2 (3, 1); bus, camera, lamp
abbrev pub bench_table : List ℕ
bench_table = bytes 20 0x5057540301000300_03000100_00000200_03000100 ++ bus ++ camera ++ lamp

-- RULES.md 11.1: the bench station's devices described, 54 bytes each, its sets of 8 bytes
abbrev pub bench_devices : List ℕ
bench_devices =
    bytes 54 0xff090900_0100000000000000_0000000000000000_0000000000000000_0100000000000000_0000000000000000_ffffffff_ffffffffff_00
    ++ bytes 54 0x000d0d03_0700000000000000_0000000000000000_0500000000000000_0100000000000000_0400000000000000_ffff02ff_ffffff03ff_03
    ++ bytes 54 0x00000900_0200000000000000_0000000000000000_0000000000000000_0000000000000000_0000000000000000_ffffffff_ffffffffff_00

-- a state image with an on-set of w bytes: the bytes of entries, zeros, and the on-set; the same of the entries of n devices, in version 1
abbrev pub image_from : ℕ → List ℕ → ℕ → List ℕ
image_from w entries on = entries ++ replicate (32 * w - length entries) 0 ++ reverse (bytes w on)

abbrev pub image : ℕ → ℕ → ℕ → List ℕ
image n entries on = image_from 4 (bytes (4 * n) entries) on

-- a request by its four numbers; a device to state x, armed for S and D, disarmed
abbrev pub request : ℕ → ℕ → ℕ → ℕ → Request
request kind device a b = record { kind = kind; device = device; a = a; b = b }

abbrev pub move : ℕ → ℕ → Request
move device x = request 1 device x 0

abbrev pub arm : ℕ → ℕ → ℕ → Request
arm device s x = request 2 device s x

abbrev pub disarm : ℕ → Request
disarm device = request 3 device 0 0

-- the state that is lent: a fresh one, made in so many bytes A5; or these bytes
pub data Start : Type 0 where
  fresh_in : ℕ → Start
  given : List ℕ → Start

-- what is lent: a table; a state, with requests before that must all be accepted; and the bytes that the plan has
pub record Lent : Type 0 where
  pub table : List ℕ
  pub start : Start
  pub before : List Request
  pub room : ℕ

-- what must come: number and place; the number of the checker, given the row's calls; and, where it is done, the bytes of the calls, the
-- entries of the devices and the on-set afterwards
pub record Answer : Type 0 where
  pub number : ℕ
  pub place : ℕ
  pub checked : ℕ
  pub calls : List ℕ
  pub entries : List ℕ
  pub on : ℕ

-- another list for the checker, and the number that it answers
pub record Listed : Type 0 where
  pub list : List ℕ
  pub number : ℕ

abbrev pub with_answer : ℕ → List ℕ → Listed
with_answer number list = record { list = list; number = number }

-- lists that the checker answers with 0; with 19
abbrev pub conforms : ℕ → ℕ → Listed
conforms n x = with_answer 0 (bytes n x)

abbrev pub differs : ℕ → ℕ → Listed
differs n x = with_answer 19 (bytes n x)

-- a row: what is lent and asked, the record that is handed out for the request's device, what must come, and other lists
pub record Row : Type 0 where
  pub lent : Lent
  pub asked : Request
  pub part : List ℕ
  pub answer : Answer
  pub lists : List Listed

abbrev pub lend : List ℕ → Start → List Request → ℕ → Lent
lend table start before room = record { table = table; start = start; before = before; room = room }

abbrev pub done : List ℕ → List ℕ → ℕ → Answer
done calls entries on = record { number = 0; place = 0; checked = 0; calls = calls; entries = entries; on = on }

abbrev pub refused : ℕ → ℕ → Answer
refused number place = record { number = number; place = place; checked = number; calls = []; entries = []; on = 0 }

-- 9 is the planner's alone
abbrev pub no_room : ℕ → Answer
no_room checked = record { number = 9; place = 0; checked = checked; calls = []; entries = []; on = 0 }

abbrev pub row : Lent → Request → List ℕ → Answer → Row
row lent asked part answer = record { lent = lent; asked = asked; part = part; answer = answer; lists = [] }

-- the bench station after requests from a fresh state, with a plan of 132 bytes
abbrev pub bench : List Request → Lent
bench before = lend bench_table (fresh_in 132) before 132

abbrev pub rows : List Row
rows =
    -- W1 camera to D2
    row (bench []) (move 1 2) camera (done (bytes 4 0x03010200) (bytes 12 0x00000000_02000000_00000000) 7) ∷
    -- W2 W1, then lamp to D3cold
    row (bench (move 1 2 ∷ [])) (move 2 4) lamp (done (bytes 4 0x02010000) (bytes 12 0x00000000_02000000_04000000) 5) ∷
    -- W3 W2, then camera to D0
    row (bench (move 1 2 ∷ move 2 4 ∷ [])) (move 1 0) camera
    (done (bytes 8 0x01010000_03010000) (bytes 12 0x00000000_00000000_04000000) 7) ∷
    -- W4 lamp to D3cold, no calls; then camera to D3hot
    row (bench []) (move 2 4) lamp (done [] (bytes 12 0x00000000_00000000_04000000) 7) ∷
    row (bench (move 2 4 ∷ [])) (move 1 3) camera (done (bytes 12 0x03010300_02010000_02020000) (bytes 12 0x00000000_03000000_04000000) 1) ∷
    -- W5 W4, then camera to D0
    row (bench (move 2 4 ∷ move 1 3 ∷ [])) (move 1 0) camera
    (done (bytes 12 0x01020000_01010000_03010000) (bytes 12 0x00000000_00000000_04000000) 7) ∷
    -- W6 W2, then bus to D3hot
    row (bench (move 1 2 ∷ move 2 4 ∷ [])) (move 0 3) bus (refused 14 1) ∷
    -- W7 W4, then camera to D2
    row (bench (move 2 4 ∷ move 1 3 ∷ [])) (move 1 2) camera (refused 12 0) ∷
    -- W8 camera to D1
    row (bench []) (move 1 1) camera (refused 11 0) ∷
    -- W9 arm camera for S3, D2
    row (bench []) (arm 1 3 2) camera (done (bytes 4 0x04010382) (bytes 12 0x00000000_00010302_00000000) 7) ∷
    -- W10 W9, then camera to D3hot
    row (bench (arm 1 3 2 ∷ [])) (move 1 3) camera (refused 15 0) ∷
    -- W11 arm camera for S4, D2
    row (bench []) (arm 1 4 2) camera (refused 16 0) ∷
    -- W12 arm camera for S2, D2
    row (bench []) (arm 1 2 2) camera (refused 18 0) ∷
    []

-- n bytes A5: what a lent buffer holds before
abbrev pub blank : ℕ → List ℕ
blank n = replicate n 0xa5
