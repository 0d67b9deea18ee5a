-- RULES.md 5: which requests are refused, answers 10 to 18, and what an accepted one changes. No rule here looks at the on-set.
use Rattle.std.specs.Prelude.{ℕ, Bool, ◌&&◌, ◌||◌, not, cond, [], ◌∷◌, eqb, leb, ltb}
use Rattle.rules.specs.declared.Request.{Request}
use Rattle.rules.specs.Verdict.{Verdict}
use Rattle.std.specs.Prelude.{Ok}
use Rattle.rules.specs.Verdict.{refuse}
use Rattle.rules.specs.declared.Reason.TheVariants.{BadRequest, Unsupported, Shallower, ParentDeeper, ChildShallower}
use Rattle.rules.specs.declared.Reason.TheVariants.{TooDeepToWake, NoWake, WakeUnpowered, BadWakeState}
use Rattle.rules.specs.Answers.{first_of, unless, lowest}
use Rattle.rules.specs.Station.{Station}
use Rattle.rules.specs.declared.Entry.{Entry}
use Rattle.rules.specs.Power.{is_armed, supported, wake_from, wake_powered, wake_state}
use Rattle.rules.specs.Status.{parent_allows}

-- kind 1 moves to state a; kind 2 arms for S = a, D = b; kind 3 disarms
abbrev pub is_move : Request → Bool
is_move q = eqb q.kind 1

abbrev pub is_arm : Request → Bool
is_arm q = eqb q.kind 2

abbrev pub is_disarm : Request → Bool
is_disarm q = eqb q.kind 3

-- kind and numbers in range, unused ones zero
unfoldable pub numbers_good : Request → Bool
numbers_good q =
    is_move q && leb q.a 4 && eqb q.b 0 || is_arm q && leb q.a 4 && leb q.b 4 || is_disarm q && eqb q.a 0 && eqb q.b 0

-- 10 (RULES.md 5.1): kind, device and numbers in range, unused ones zero
unfoldable pub form_good : Station → Request → Bool
form_good s q = ltb q.device s.devices && numbers_good q

-- 12: the target is not shallower than the present state, or D0
unfoldable pub not_shallower_or_d0 : Entry → ℕ → Bool
not_shallower_or_d0 e x = eqb x 0 || leb e.state x

-- 14: c is a child of d and shallower than the target
unfoldable pub child_bars : Station → (ℕ → Entry) → ℕ → ℕ → ℕ → Bool
child_bars s entries d x c = eqb (s.device c).parent d && ltb (entries c).state x

-- 15: not armed, or the target is not deeper than wake D
unfoldable pub wake_allows : Entry → ℕ → Bool
wake_allows e x = not (is_armed e) || leb x e.wake

-- 11 to 15 (RULES.md 5.2): device d to state x; 13 is a parent that is deeper than x
unfoldable pub move_verdict : Station → (ℕ → Entry) → ℕ → ℕ → Verdict
move_verdict s entries d x =
    first_of
    (unless (supported s d x) Unsupported 0
    ∷ unless (not_shallower_or_d0 (entries d) x) Shallower 0
    ∷ unless (parent_allows s entries d x) ParentDeeper (s.device d).parent
    ∷ lowest (child_bars s entries d x) s.devices (refuse ChildShallower)
    ∷ unless (wake_allows (entries d) x) TooDeepToWake 0
    ∷ [])
    (Ok 0)

-- 16 to 18 (RULES.md 5.3): arm device d for S = x, D = y; D is not shallower than the present state
unfoldable pub arm_verdict : Station → (ℕ → Entry) → ℕ → ℕ → ℕ → Verdict
arm_verdict s entries d x y =
    first_of
    (unless (wake_from s d x) NoWake 0
    ∷ unless (wake_powered s d x) WakeUnpowered 0
    ∷ unless (wake_state s d x y && leb (entries d).state y) BadWakeState 0
    ∷ [])
    (Ok 0)

-- what follows 10: the move's checks, those of arming, or none
unfoldable pub kind_verdict : Station → (ℕ → Entry) → Request → Verdict
kind_verdict s entries q =
    cond (is_move q) (move_verdict s entries q.device q.a) (cond (is_arm q) (arm_verdict s entries q.device q.a q.b) (Ok 0))

-- 10 to 18
unfoldable pub request_verdict : Station → (ℕ → Entry) → Request → Verdict
request_verdict s entries q = first_of (unless (form_good s q) BadRequest 0 ∷ kind_verdict s entries q ∷ []) (Ok 0)

-- an entry in another state
abbrev pub in_state : Entry → ℕ → Entry
in_state e x = record { state = x; armed = e.armed; sleep = e.sleep; wake = e.wake }

-- RULES.md 5.5: a move changes the state, arming writes the pair, disarming zeroes it
unfoldable pub new_entry : Entry → Request → Entry
new_entry e q =
    cond (is_move q) (in_state e q.a)
    (cond (is_arm q) (record { state = e.state; armed = 1; sleep = q.a; wake = q.b })
    (record { state = e.state; armed = 0; sleep = 0; wake = 0 }))

-- the entries with another one for device d
unfoldable pub replace_entry : (ℕ → Entry) → ℕ → Entry → ℕ → Entry
replace_entry entries d e k = cond (eqb k d) e (entries k)

-- the entries after the request: the device's new one, the others as before
abbrev pub entries_after : (ℕ → Entry) → Request → ℕ → Entry
entries_after entries q = replace_entry entries q.device (new_entry (entries q.device) q)
