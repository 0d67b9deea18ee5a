-- RULES.md 3: what a device can do and what it needs, over a station and a device's number.
use Rattle.std.specs.Prelude.{ℕ, zero, suc, Bool, false, ◌&&◌, ◌||◌, not, cond, eqb, leb, ltb}
use Rattle.sets.specs.Sets.{member, union}
use Rattle.rules.specs.declared.Entry.{Entry}
use Rattle.rules.specs.Index.{every}
use Rattle.rules.specs.Station.{Device, Station, absent, has_ps, has_pr, has_prw}

abbrev pub is_armed : Entry → Bool
is_armed e = eqb e.armed 1

-- RULES.md 3.1: D0 and D3hot always; D1 or D2 if either mask has its bit; D3cold if `_PR3` exists
unfoldable pub supported : Station → ℕ → ℕ → Bool
supported s d x =
    let v = s.device d in
    eqb x 0 || eqb x 3 || ltb x 3 && (has_ps v x || has_pr v x) || eqb x 4 && has_pr v 3

-- the set of `_PRx`, empty if it is absent
unfoldable pub own_set : Device → ℕ → ℕ
own_set v x = cond (has_pr v x) (v.sets x) 0

-- the set of `_PRx`, or of the next shallower state listed; empty if there is none
unfoldable pub listed_set : Device → ℕ → ℕ
listed_set v zero = own_set v 0
listed_set v (suc x) = cond (has_pr v (suc x)) (v.sets (suc x)) (listed_set v x)

-- RULES.md 3.2: in D0, D1 or D2 the state's own set; in D3hot `_PR3`'s or the next shallower listed; in D3cold nothing
unfoldable pub state_needs : Device → ℕ → ℕ
state_needs v x = cond (ltb x 3) (own_set v x) (cond (eqb x 3) (listed_set v 3) 0)

-- RULES.md 3.5: an armed device also needs its `_PRW` set
unfoldable pub wake_needs : Device → Entry → ℕ
wake_needs v e = cond (is_armed e && has_prw v) (v.sets 4) 0

-- what device d needs with an entry
unfoldable pub needs : Station → ℕ → Entry → ℕ
needs s d e = union (state_needs (s.device d) e.state) (wake_needs (s.device d) e)

-- what the devices below n need
unfoldable pub needed_below : Station → (ℕ → Entry) → ℕ → ℕ
needed_below s entries zero = 0
needed_below s entries (suc n) = union (needed_below s entries n) (needs s n (entries n))

-- RULES.md 3.6, the needed set: the union over all devices
unfoldable pub needed : Station → (ℕ → Entry) → ℕ
needed s entries = needed_below s entries s.devices

-- RULES.md 3.3, the wake range: both present, `_SxD` to `_SxW`; only `_SxD`, that state alone; only `_SxW`, 0 to it; neither, empty.
-- It is empty too for an `_SxD` or `_SxW` that no accepted table holds, and no state above 4 is in it
unfoldable pub wake_range : ℕ → ℕ → ℕ → Bool
wake_range sxd sxw x =
    cond (eqb sxd absent) (cond (eqb sxw absent) false (leb sxw 4 && leb x sxw))
    (leb sxd 3 && cond (eqb sxw absent) (eqb x sxd) (leb sxw 4 && leb sxd x && leb x sxw))

-- `_PRW` exists and S is not above its deepest state
unfoldable pub wake_from : Station → ℕ → ℕ → Bool
wake_from s d x = has_prw (s.device d) && leb x (s.device d).deepest

-- every resource of a set has systemlevel at least S
unfoldable pub powered_in : Station → ℕ → ℕ → Bool
powered_in s x set = every (λ r. not (member set r) || leb x (s.resource r).level) s.resources

-- every `_PRW` resource has
abbrev pub wake_powered : Station → ℕ → ℕ → Bool
wake_powered s d x = powered_in s x ((s.device d).sets 4)

-- D is supported and in the wake range for S
unfoldable pub wake_state : Station → ℕ → ℕ → ℕ → Bool
wake_state s d x y = supported s d y && wake_range ((s.device d).sxd x) ((s.device d).sxw x) y

-- RULES.md 3.4: the wake pair (S, D) is legal
unfoldable pub wake_pair : Station → ℕ → ℕ → ℕ → Bool
wake_pair s d x y = wake_from s d x && wake_powered s d x && wake_state s d x y
