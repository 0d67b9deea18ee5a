-- RULES.md 13, sleep entry: a request of kind 4 prepares the station for sleep state Sx, x being its a. This chapter says which states the
-- devices may take, which they take, which of them move, and answers 10, 20 and 21.
use Rattle.std.specs.Prelude.{ℕ, zero, suc, ◌≤◌, ◌<◌, ◌≡◌, Bool, true, ◌&&◌, ◌||◌, not, cond, List, [], ◌∷◌, map, ◌⊎◌, eqb, leb, ltb}
use Rattle.rules.specs.declared.Call.{Call}
use Rattle.rules.specs.declared.Call.TheVariants.{ResourceOff}
use Rattle.rules.specs.declared.Entry.{Entry}
use Rattle.rules.specs.declared.Request.{Request}
use Rattle.rules.specs.Verdict.{Verdict}
use Rattle.std.specs.Prelude.{Ok}
use Rattle.rules.specs.Verdict.{refuse}
use Rattle.rules.specs.declared.Reason.TheVariants.{BadRequest, ArmedForOther, NoChoice}
use Rattle.rules.specs.Index.{least, every}
use Rattle.rules.specs.Answers.{first_of, unless, lowest}
use Rattle.rules.specs.Station.{Station, absent}
use Rattle.rules.specs.Power.{is_armed, supported, needs, needed, powered_in}
use Rattle.rules.specs.Status.{Status, under_parent}
use Rattle.rules.specs.Request.{in_state}
use Rattle.rules.specs.Calls.{turn_off}

abbrev pub is_sleep : Request → Bool
is_sleep q = eqb q.kind 4

-- 10 (RULES.md 13.1): x is 1 to 4, and the other two numbers are zero
unfoldable pub sleep_form_good : Request → Bool
sleep_form_good q = leb 1 q.a && leb q.a 4 && eqb q.device 0 && eqb q.b 0

-- 20: armed, and not for x
unfoldable pub armed_for_other : Entry → ℕ → Bool
armed_for_other e x = is_armed e && not (eqb e.sleep x)

-- not shallower than `_SxD`, where it is present
unfoldable pub sxd_allows : Station → ℕ → ℕ → ℕ → Bool
sxd_allows s x d y = eqb ((s.device d).sxd x) absent || leb ((s.device d).sxd x) y

-- wake D, if armed
unfoldable pub wake_d_if_armed : Entry → ℕ → Bool
wake_d_if_armed e y = not (is_armed e) || eqb y e.wake

-- RULES.md 13.2: device d, whose entry is e, may take state y: it is supported, not shallower than the present one, nor than `_SxD` where
-- that is present; all that d needs in it, with `_PRW` if armed, has systemlevel at least x; and it is wake D if armed
unfoldable pub may_take : Station → ℕ → ℕ → Entry → ℕ → Bool
may_take s x d e y =
    supported s d y && leb e.state y && sxd_allows s x d y && powered_in s x (needs s d (in_state e y)) && wake_d_if_armed e y

-- a choice: a state for every device, each one that it may take, and none shallower than its parent's
pub record Choice (s : Station) (entries : ℕ → Entry) (x : ℕ) (states : ℕ → ℕ) : Type 0 where
  pub taken : (d : ℕ) → d < s.devices → may_take s x d (entries d) (states d) ≡ true
  pub parents : (d : ℕ) → d < s.devices → ((s.device d).parent ≡ absent) ⊎ (states (s.device d).parent ≤ states d)

-- device d may take state y, and y is not shallower than its parent's among these states
unfoldable pub may_take_under : Station → (ℕ → Entry) → ℕ → (ℕ → ℕ) → ℕ → ℕ → Bool
may_take_under s entries x states d y = may_take s x d (entries d) y && under_parent s states d y

-- the least such state; 5 if there is none
unfoldable pub least_state : Station → (ℕ → Entry) → ℕ → (ℕ → ℕ) → ℕ → ℕ
least_state s entries x states d = least (may_take_under s entries x states d) 5

-- the least states of the devices below n, by rising number, so that a parent has its state before its children; 0 from n on
unfoldable pub least_below : Station → (ℕ → Entry) → ℕ → ℕ → ℕ → ℕ
least_below s entries x zero d = 0
least_below s entries x (suc n) d =
    cond (eqb d n) (least_state s entries x (least_below s entries x n) n) (least_below s entries x n d)

-- RULES.md 13.3: the least choice, if there is a choice
unfoldable pub least_choice : Station → (ℕ → Entry) → ℕ → ℕ → ℕ
least_choice s entries x = least_below s entries x s.devices

-- every device has a state in the least choice, so there is a choice
unfoldable pub has_choice : Station → (ℕ → Entry) → ℕ → Bool
has_choice s entries x = every (λ d. ltb (least_choice s entries x d) 5) s.devices

-- 10, then 20 for the lowest device that is armed for another sleep state
unfoldable pub armed_verdict : Station → (ℕ → Entry) → Request → Verdict
armed_verdict s entries q =
    first_of
    (unless (sleep_form_good q) BadRequest 0
    ∷ lowest (λ d. armed_for_other (entries d) q.a) s.devices (refuse ArmedForOther)
    ∷ [])
    (Ok 0)

-- 10, 20 and 21
unfoldable pub sleep_verdict : Station → (ℕ → Entry) → Request → Verdict
sleep_verdict s entries q = first_of (armed_verdict s entries q ∷ unless (has_choice s entries q.a) NoChoice 0 ∷ []) (Ok 0)

-- the request that moves device d to state y
abbrev pub move_to : ℕ → ℕ → Request
move_to d y = record { kind = 1; device = d; a = y; b = 0 }

-- device d stays: its state is its present one
abbrev pub stays : (ℕ → Entry) → (ℕ → ℕ) → ℕ → Bool
stays entries states d = eqb (states d) (entries d).state

-- RULES.md 13.4: the moves of the devices below n to these states, by falling number; none for a device that stays
unfoldable pub moves : (ℕ → Entry) → (ℕ → ℕ) → ℕ → List Request
moves entries states zero = []
moves entries states (suc n) = cond (stays entries states n) (moves entries states n) (move_to n (states n) ∷ moves entries states n)

-- the moves of sleep entry
abbrev pub sleep_moves : Station → (ℕ → Entry) → ℕ → List Request
sleep_moves s entries x = moves entries (least_choice s entries x) s.devices

-- no device moves
unfoldable pub none_moving : Station → (ℕ → Entry) → ℕ → Bool
none_moving s entries x = every (stays entries (least_choice s entries x)) s.devices

-- the turn-off calls alone: what is on and not needed is turned off
unfoldable pub offs_alone : Station → Status → List Call
offs_alone s st = map ResourceOff (turn_off s st.on (needed s st.entries))
