-- Stations of version 2: one with 64 resources, one with 34 devices, one with few, and the bench station.
use Rattle.std.specs.Prelude.{ℕ, ◌*◌, List, [], ◌∷◌, ◌++◌, replicate}
use Rattle.words.specs.Words.{put}
use Rattle.rules.specs.Index.{join}
use Rattle.rules.specs.Rows.{bytes, image_from, given, Lent, lend}

-- 64 resources (level, order): r0 (4, 256), r31 (3, 1), r32 (4, 256), r40 (2, 1), r63 (4, 0), each other (0, 0)
-- rising: the others with r63, r31 with r40, r0 with r32
abbrev pub rig_resources : List ℕ
rig_resources =
    bytes 4 0x04000001
    ++ replicate 120 0
    ++ bytes 8 0x03000100_04000001
    ++ replicate 28 0
    ++ bytes 4 0x02000100
    ++ replicate 88 0
    ++ bytes 4 0x04000000

-- 0 rig: no parent; `_PS0`, `_PS3`; `_PR0` {0, 31, 32, 40, 63}, `_PR3` {32}; `_PRW` {40} to S3, `_DSW`
-- wake ranges: S0 only `_S0W`, 0; S1 0 to 3; S2 3 to 4; none for S3
abbrev pub rig : List ℕ
rig =
    bytes 44 0xff090903_0100008001010080_0000000000000000_0000000000000000_0000000001000000_0000000000010000
    ++ bytes 20 0x0003ffff_000304ffff_03_00000000000000000000

-- 1 flash: parent 0; no `_PS`; `_PR0` {62, 63}, `_PR1` {33}, `_PR2` {47}, `_PR3` empty
abbrev pub flash : List ℕ
flash =
    bytes 44 0x00000f00_00000000000000c0_0000000002000000_0000000000800000_0000000000000000_0000000000000000
    ++ bytes 20 0xffffffff_ffffffffff_00_00000000000000000000

unfoldable pub rig_table : List ℕ
rig_table = bytes 8 0x5057544002000200 ++ rig_resources ++ rig ++ flash

-- a state image of version 2 with the entries of n devices
abbrev pub wide_image : ℕ → ℕ → ℕ → List ℕ
wide_image n entries on = image_from 8 (bytes (4 * n) entries) on

-- the entries of rig and flash, and an on-set
abbrev pub rig_state : ℕ → ℕ → List ℕ
rig_state = wide_image 2

abbrev pub rig_in : ℕ → ℕ → Lent
rig_in entries on = lend rig_table (given (rig_state entries on)) [] 260

-- a device without any object
abbrev pub bare_wide : List ℕ
bare_wide = bytes 4 0xff000000 ++ replicate 40 0 ++ replicate 9 0xff ++ replicate 11 0

-- 34 devices and no resources: the last is attached to device 32 and has `_PS0` and `_PS3`, the others have no objects
abbrev pub last_device : List ℕ
last_device = put bare_wide 0 (bytes 2 0x2009)

unfoldable pub long_table : List ℕ
long_table = bytes 8 0x5057540002002200 ++ join (λ d. bare_wide) 33 ++ last_device

-- R resources, and a device that needs r40 in D0
abbrev pub few_device : List ℕ
few_device = put bare_wide 0 (bytes 12 0xff000100_0000000000010000)

abbrev pub few_table : ℕ → List ℕ
few_table resources = bytes 3 0x505754 ++ resources ∷ bytes 4 0x02000100 ++ replicate (4 * resources) 0 ++ few_device

-- the bench station's devices
abbrev pub wide_camera : List ℕ
wide_camera =
    bytes 44 0x000d0d03_0700000000000000_0000000000000000_0500000000000000_0100000000000000_0400000000000000
    ++ bytes 20 0xffff02ff_ffffff03ff_03_00000000000000000000

abbrev pub wide_bench : List ℕ
wide_bench =
    bytes 44 0xff090900_0100000000000000_0000000000000000_0000000000000000_0100000000000000_0000000000000000
    ++ bytes 20 0xffffffff_ffffffffff_00_00000000000000000000
    ++ wide_camera
    ++ bytes 44 0x00000900_0200000000000000_0000000000000000_0000000000000000_0000000000000000_0000000000000000
    ++ bytes 20 0xffffffff_ffffffffff_00_00000000000000000000

unfoldable pub wide_bench_table : List ℕ
wide_bench_table = bytes 20 0x5057540302000300_03000100_00000200_03000100 ++ wide_bench
