-- RULES.md 2.9 and 6: a call as a word, the calls from an on-set to a target set and their order, and the planner's list for a request.
use Rattle.std.specs.Prelude.{ℕ, zero, suc, ◌+◌, ◌-◌, ◌*◌, ◌/◌, ◌%◌, Bool, ◌&&◌, ◌||◌, not, cond, List, [], ◌∷◌, ◌++◌, map, reverse, eqb, leb, ltb}
use Rattle.sets.specs.Sets.{member, minus}
use Rattle.rules.specs.declared.Request.{Request}
use Rattle.rules.specs.declared.Wake.{Wake}
use Rattle.rules.specs.declared.Wake.TheVariants.{Enable, Disable}
use Rattle.rules.specs.declared.Call.{Call}
use Rattle.rules.specs.declared.Call.TheVariants.{ResourceOn, ResourceOff, SetState, SetWake}
use Rattle.std.specs.Prelude.{Option, Some, None}
use Rattle.rules.specs.Station.{Station, has_ps, has_dsw}
use Rattle.rules.specs.declared.Entry.{Entry}
use Rattle.rules.specs.declared.Change.{Change}
use Rattle.rules.specs.declared.Switching.{Switching}
use Rattle.rules.specs.Power.{is_armed, needed}
use Rattle.rules.specs.Status.{Status}
use Rattle.rules.specs.Request.{is_move, is_arm, new_entry, entries_after}

-- the word with these bytes, lowest first
abbrev pub word4 : ℕ → ℕ → ℕ → ℕ → ℕ
word4 a b c d = a + 0x100 * b + 0x1_0000 * c + 0x100_0000 * d

-- 4, d, S, 128 + D for `_DSW` on; 4, d, 0, 0 for `_DSW` off
abbrev pub wake_word : ℕ → Wake → ℕ
wake_word d (Enable s x) = word4 4 d s (128 + x)
wake_word d Disable = word4 4 d 0 0

-- 1, r, 0, 0 for `_ON`; 2, r, 0, 0 for `_OFF`; 3, d, x, 0 for `_PSx`
abbrev pub word_of : Call → ℕ
word_of (ResourceOn r) = word4 1 r 0 0
word_of (ResourceOff r) = word4 2 r 0 0
word_of (SetState d x) = word4 3 d x 0
word_of (SetWake d k) = wake_word d k

-- `_DSW`'s last two bytes: S and 128 + D, or two zeros
unfoldable pub wake_of : ℕ → ℕ → ℕ → Option Call
wake_of d x y =
    cond (eqb x 0 && eqb y 0) (Some (SetWake d Disable))
    (cond (leb x 4 && leb 128 y && leb y 132) (Some (SetWake d (Enable x (y - 128)))) None)

-- RULES.md 2.9: the call with these bytes, if there is one
unfoldable pub call_of_bytes : ℕ → ℕ → ℕ → ℕ → Option Call
call_of_bytes a b c d =
    cond (eqb a 1 && eqb c 0 && eqb d 0) (Some (ResourceOn b))
    (cond (eqb a 2 && eqb c 0 && eqb d 0) (Some (ResourceOff b))
    (cond (eqb a 3 && leb c 3 && eqb d 0) (Some (SetState b c))
    (cond (eqb a 4) (wake_of b c d) None)))

unfoldable pub call_of : ℕ → Option Call
call_of w = call_of_bytes (w % 0x100) (w / 0x100 % 0x100) (w / 0x1_0000 % 0x100) (w / 0x100_0000)

-- a call, or none, as a list
unfoldable pub list_of : Option Call → List Call
list_of (Some c) = c ∷ []
list_of None = []

-- the call where the test holds
unfoldable pub only : Bool → Call → Option Call
only b c = cond b (Some c) None

-- the method that brings a device to state x: `_PSx`, and `_PS3` for D3cold
unfoldable pub method_for : ℕ → ℕ
method_for x = cond (eqb x 4) 3 x

-- a move from a state to x calls a method, if it exists: the state changes, and not from D3hot to D3cold
unfoldable pub calls_method : ℕ → ℕ → Bool
calls_method state x = not (eqb x state) && not (eqb state 3 && eqb x 4)

-- `_PSx` if the move calls a method and that method exists
unfoldable pub move_call : Station → Entry → ℕ → ℕ → Option Call
move_call s e d x = only (calls_method e.state x && has_ps (s.device d) (method_for x)) (SetState d (method_for x))

-- on arming, `_DSW` on if present; on disarming, `_DSW` off if present and it was armed
unfoldable pub wake_call : Station → Entry → Request → Option Call
wake_call s e q =
    cond (is_arm q) (only (has_dsw (s.device q.device)) (SetWake q.device (Enable q.a q.b)))
    (only (has_dsw (s.device q.device) && is_armed e) (SetWake q.device Disable))

-- RULES.md 6.2: the own call of the request's device, whose entry is e
unfoldable pub own_call : Station → Entry → Request → Option Call
own_call s e q = cond (is_move q) (move_call s e q.device q.a) (wake_call s e q)

-- RULES.md 6.3: moving to D0, or arming: the own call comes last; moving deeper, or disarming: first
unfoldable pub own_last : Request → Bool
own_last q = is_move q && eqb q.a 0 || is_arm q

-- the own calls of a request: one or none
abbrev pub own_calls : Station → Status → Request → List Call
own_calls s st q = list_of (own_call s (st.entries q.device) q)

-- the needed set after the request, which its calls lead to
unfoldable pub end_set : Station → (ℕ → Entry) → Request → ℕ
end_set s entries q = needed s (entries_after entries q)

-- RULES.md 6.1: from an on-set to a target set, what is to be turned on and what off
unfoldable pub to_turn_on : ℕ → ℕ → ℕ
to_turn_on on target = minus target on

unfoldable pub to_turn_off : ℕ → ℕ → ℕ
to_turn_off on target = minus on target

-- the members of a set among the k numbers from i on
unfoldable pub members_from : ℕ → ℕ → ℕ → List ℕ
members_from m i zero = []
members_from m i (suc k) = cond (member m i) (i ∷ members_from m (suc i) k) (members_from m (suc i) k)

-- a goes before b: the lower resourceorder first, equal orders by the lower number
unfoldable pub earlier : (ℕ → ℕ) → ℕ → ℕ → Bool
earlier order a b = ltb (order a) (order b) || eqb (order a) (order b) && leb a b

unfoldable pub insert : (ℕ → ℕ → Bool) → ℕ → List ℕ → List ℕ
insert before x [] = x ∷ []
insert before x (y ∷ l) = cond (before x y) (x ∷ y ∷ l) (y ∷ insert before x l)

unfoldable pub sort : (ℕ → ℕ → Bool) → List ℕ → List ℕ
sort before [] = []
sort before (x ∷ l) = insert before x (sort before l)

abbrev pub order_in : Station → ℕ → ℕ
order_in s r = (s.resource r).order

-- a set's resources by rising order, equal orders by rising number
unfoldable pub rising : Station → ℕ → List ℕ
rising s m = sort (earlier (order_in s)) (members_from m 0 s.resources)

-- RULES.md 6.4: what is turned on by rising order; what is turned off by falling order, equal orders by falling number
unfoldable pub turn_on : Station → ℕ → ℕ → List ℕ
turn_on s on target = rising s (to_turn_on on target)

unfoldable pub turn_off : Station → ℕ → ℕ → List ℕ
turn_off s on target = reverse (rising s (to_turn_off on target))

-- the own calls before or after the others
unfoldable pub arrange : Bool → List Call → List ℕ → List ℕ → List Call
arrange last own ons offs =
    cond last (map ResourceOn ons ++ map ResourceOff offs ++ own) (own ++ map ResourceOn ons ++ map ResourceOff offs)

-- the calls from an on-set to a target set, with own calls first or last
unfoldable pub switch_calls : Station → List Call → Bool → ℕ → ℕ → List Call
switch_calls s own last on target = arrange last own (turn_on s on target) (turn_off s on target)

-- the list of a request of kinds 1 to 3
unfoldable pub calls : Station → Status → Request → List Call
calls s st q = switch_calls s (own_calls s st q) (own_last q) st.on (end_set s st.entries q)

-- the status after it: the new entry, the others as before, and exactly the needed set on
unfoldable pub status_after : Station → Status → Request → Status
status_after s st q = record { entries = entries_after st.entries q; on = end_set s st.entries q }

-- the entries as they are, and exactly the needed set on
unfoldable pub status_needed : Station → Status → Status
status_needed s st = record { entries = st.entries; on = needed s st.entries }

-- the calls from an on-set to a target set as one value: what is turned on, what is turned off, the own call or none and whether it comes
-- last
abbrev pub switching_of : Option Call → Bool → ℕ → ℕ → Switching
switching_of own last on target = record { added = to_turn_on on target; removed = to_turn_off on target; own = own; last = last }

-- the words of all its calls
unfoldable pub switching_words : Station → Switching → List ℕ
switching_words s c = map word_of (arrange c.last (list_of c.own) (rising s c.added) (reverse (rising s c.removed)))

-- all that a request does as one value: the new entry, the set needed afterwards, and the calls
abbrev pub change_of : Station → Status → Request → Change
change_of s st q =
    record {
      entry = new_entry (st.entries q.device) q;
      needed = end_set s st.entries q;
      switching = switching_of (own_call s (st.entries q.device) q) (own_last q) st.on (end_set s st.entries q);
    }
