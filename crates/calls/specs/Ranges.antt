-- The calls of RULES.md 2.9: resources and devices that a byte holds, `_PS0` to `_PS3`, and the wake pairs. These have a word of 32
-- bits.
use Rattle.std.specs.Prelude.{◌≤◌, ◌<◌}
use Rattle.rules.specs.declared.Wake.{Wake}
use Rattle.rules.specs.declared.Wake.TheVariants.{Enable, Disable}
use Rattle.rules.specs.declared.Call.{Call}
use Rattle.rules.specs.declared.Call.TheVariants.{ResourceOn, ResourceOff, SetState, SetWake}
use Rattle.std.specs.Prelude.{Option, Some, None}

abbrev pub WakeInRange : Wake → Type 0
WakeInRange (Enable s x) = (s ≤ 4) × (x ≤ 4)
WakeInRange Disable = Unit {0}

abbrev pub InRange : Call → Type 0
InRange (ResourceOn r) = r < 256
InRange (ResourceOff r) = r < 256
InRange (SetState d x) = (d < 256) × (x ≤ 3)
InRange (SetWake d k) = (d < 256) × WakeInRange k

-- a call of RULES.md 2.9, or none
abbrev pub OptionalInRange : Option Call → Type 0
OptionalInRange (Some c) = InRange c
OptionalInRange None = Unit {0}
