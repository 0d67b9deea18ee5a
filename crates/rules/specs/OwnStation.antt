-- The station of our own rows, and one with 32 resources.
use Rattle.std.specs.Prelude.{ℕ, ◌+◌, ◌*◌, List, [], ◌++◌, replicate}
use Rattle.rules.specs.Rows.{bytes, image, fresh_in, given, Lent, lend, Answer, done}

-- resources (level, order): r0 (4, 256), r1 (4, 255), r2 (2, 256), r3 (4, 5), r4 (1, 65535), r5 (4, 0); rising: r5, r3, r1, r0 with r2, r4
abbrev pub own_header : List ℕ
own_header = bytes 32 0x5057540601000500_04000001_0400ff00_02000001_04000500_0100ffff_04000000

-- 0 hub: no parent; `_PS0`, `_PS3`; `_PR0` {4} and no `_PR3`
abbrev pub hub : List ℕ
hub = bytes 40 0xff090100_10000000_00000000_00000000_00000000_00000000_ffffffff_ffffffffff_00_000000000000

-- 1 disk: parent 0; every `_PS`; `_PR0` {0, 2, 3}, `_PR1` {1}, `_PR2` {1, 3}, `_PR3` empty; `_PRW` {0} to S3, `_DSW`
-- wake ranges: S0 only `_S0W`, 4; S1 only `_S1D`, 1; S2 1 to 3; S3 only `_S3W`, 2; S4 3 to 4
abbrev pub disk : List ℕ
disk = bytes 40 0x000f0f03_0d000000_02000000_0a000000_00000000_01000000_0101ff03_04ff030204_03_000000000000

-- 2 radio: parent 0; no `_PS`; `_PR0` {5}, `_PR1` {1}; `_PRW` {4} to S2, no `_DSW`; wake ranges: S1 0 to 4; S2 3 to 3
abbrev pub radio : List ℕ
radio = bytes 40 0x00000301_20000000_02000000_00000000_00000000_10000000_0003ffff_ff0403ffff_02_000000000000

-- 3 fan: parent 0; `_PS0`, `_PS1`, `_PS3`, no `_PR`; `_PRW` empty, to S4; no wake range
abbrev pub fan : List ℕ
fan = bytes 40 0x000b0001_00000000_00000000_00000000_00000000_00000000_ffffffff_ffffffffff_04_000000000000

-- 4 led: parent 1; `_PR0` and `_PR3`, both empty
abbrev pub led : List ℕ
led = bytes 40 0x01000900_00000000_00000000_00000000_00000000_00000000_ffffffff_ffffffffff_00_000000000000

unfoldable pub own_table : List ℕ
own_table = own_header ++ hub ++ disk ++ radio ++ fan ++ led

-- 32 resources of equal order, and one device: `_PR0` {0, 8, 16, 24, 31}, `_PR3` {31}
abbrev pub full_device : List ℕ
full_device = bytes 40 0xff090900_01010181_00000000_00000000_00000080_00000000_ffffffff_ffffffffff_00_000000000000

unfoldable pub full_table : List ℕ
full_table = bytes 8 0x5057542001000100 ++ replicate 128 0 ++ full_device

-- no resource, and a device without any object
abbrev pub bare_device : List ℕ
bare_device = bytes 40 0xff000000_00000000_00000000_00000000_00000000_00000000_ffffffff_ffffffffff_00_000000000000

abbrev pub bare : Lent
bare = lend (bytes 8 0x5057540001000100 ++ bare_device) (fresh_in 132) [] 132

-- our station with a fresh state, in which nothing needs r1
abbrev pub new : Lent
new = lend own_table (fresh_in 132) [] 132

-- a state: five entries and an on-set
abbrev pub state : ℕ → ℕ → List ℕ
state = image 5

abbrev pub lent_state : ℕ → ℕ → Lent
lent_state entries on = lend own_table (given (state entries on)) [] 132

-- the disk's entry, the led in D3cold so that the disk may go deeper, and the others in D0
abbrev pub entries_with : ℕ → ℕ
entries_with x = 0x1_0000_0000_0000_0000_0000_0000 * x + 0x04000000

-- the hub in D3hot, and so all below it
abbrev pub asleep : Lent
asleep = lent_state 0x03000000_03000000_03000000_03000000_04000000 0x12

-- as a state that is lent, and as one that comes
abbrev pub from : ℕ → ℕ → Lent
from x on = lent_state (entries_with x) on

abbrev pub to : List ℕ → ℕ → ℕ → Answer
to calls x on = done calls (bytes 20 (entries_with x)) on

-- disk in D1, armed for S2, D2; radio in D3hot; led in D3cold; on are r0, r1 and r4, which are needed, and r2
unfoldable pub own_state : List ℕ
own_state = state 0x00000000_01010202_03000000_00000000_04000000 0x17
