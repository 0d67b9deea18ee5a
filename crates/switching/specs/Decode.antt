-- What a decoded word switches.
use Rattle.std.specs.Prelude.{ℕ, Bool, cond}
use Rattle.rules.specs.declared.Call.{Call}
use Rattle.rules.specs.declared.Call.TheVariants.{ResourceOn, ResourceOff, SetState, SetWake}
use Rattle.std.specs.Prelude.{Option, Some, None}
use Rattle.std.specs.Prelude.{Option, Some, None}

-- the resource that a call turns off, or on
unfoldable pub switched_by : Bool → Call → Option ℕ
switched_by off (ResourceOn r) = cond off None (Some r)
switched_by off (ResourceOff r) = cond off (Some r) None
switched_by off (SetState d x) = None
switched_by off (SetWake d k) = None

-- the same of a call or none
unfoldable pub switched : Bool → Option Call → Option ℕ
switched off (Some c) = switched_by off c
switched off None = None
