-- RULES.md 9.3: the number, place and count of each answer, and how a chain of checks comes to one.
use Rattle.std.specs.Prelude.{ℕ, Bool, true, false, cond, List, [], ◌∷◌, ltb}
use Rattle.rules.specs.Index.{least}
use Rattle.rules.specs.Verdict.{Verdict}
use Rattle.std.specs.Prelude.{Ok, Err}
use Rattle.rules.specs.Verdict.{refuse}
use Rattle.rules.specs.declared.Reason.{Reason}
use Rattle.rules.specs.declared.Reason.TheVariants.{NotATable, TooMany, WrongLength, BadResource, BadDevice, BadObjects}
use Rattle.rules.specs.declared.Reason.TheVariants.{BadState, Inconsistent, NoRoom, BadRequest, Unsupported, Shallower}
use Rattle.rules.specs.declared.Reason.TheVariants.{ParentDeeper, ChildShallower, TooDeepToWake, NoWake, WakeUnpowered}
use Rattle.rules.specs.declared.Reason.TheVariants.{BadWakeState, NotConforming, ArmedForOther, NoChoice}

-- the number of a refusal
abbrev pub reason_number : Reason → ℕ
reason_number NotATable = 1
reason_number TooMany = 2
reason_number WrongLength = 3
reason_number BadResource = 4
reason_number BadDevice = 5
reason_number BadObjects = 6
reason_number BadState = 7
reason_number Inconsistent = 8
reason_number NoRoom = 9
reason_number BadRequest = 10
reason_number Unsupported = 11
reason_number Shallower = 12
reason_number ParentDeeper = 13
reason_number ChildShallower = 14
reason_number TooDeepToWake = 15
reason_number NoWake = 16
reason_number WakeUnpowered = 17
reason_number BadWakeState = 18
reason_number NotConforming = 19
reason_number ArmedForOther = 20
reason_number NoChoice = 21

-- the number of the answer: 0 is done
abbrev pub number_of : Verdict → ℕ
number_of (Ok n) = 0
number_of (Err r) = reason_number r.0

-- its place: that of the refusal, and 0 where it is done
abbrev pub place_of : Verdict → ℕ
place_of (Ok n) = 0
place_of (Err r) = r.1

-- its count where it is done, of calls or of bytes written, else 0
abbrev pub count_of : Verdict → ℕ
count_of (Ok n) = n
count_of (Err r) = 0

-- the answer is no refusal
unfoldable pub passes : Verdict → Bool
passes (Ok n) = true
passes (Err r) = false

-- the first refusal of a list of checks, in its order; without one, the last answer
unfoldable pub first_of : List Verdict → Verdict → Verdict
first_of [] last = last
first_of (v ∷ vs) last = elim (passes v) [ true ↦ first_of vs last | false ↦ v ]

-- a check: the refusal with its place, unless it holds
unfoldable pub unless : Bool → Reason → ℕ → Verdict
unless good why at = cond good (Ok 0) (refuse why at)

-- a check of the numbers below n: the refusal of the lowest bad one, if there is one
unfoldable pub lowest : (ℕ → Bool) → ℕ → (ℕ → Verdict) → Verdict
lowest bad n refusal = cond (ltb (least bad n) n) (refusal (least bad n)) (Ok 0)
