-- RULES.md 2.7 and 4: the image's bytes as a status, which are good, and answers 7 and 8.
use Rattle.std.specs.Prelude.{ℕ, ◌+◌, ◌*◌, ◌^◌, Bool, ◌&&◌, ◌||◌, not, List, [], ◌∷◌, ◌++◌, length, get_or, eqb, leb, ltb}
use Rattle.sets.specs.Sets.{subset, first_n}
use Rattle.words.specs.Words.{read_le, bytes_le}
use Rattle.rules.specs.Verdict.{Verdict}
use Rattle.std.specs.Prelude.{Ok}
use Rattle.rules.specs.Verdict.{refuse}
use Rattle.rules.specs.declared.Reason.TheVariants.{BadState, Inconsistent}
use Rattle.rules.specs.Index.{every, below, join_from}
use Rattle.rules.specs.Answers.{first_of, unless, lowest}
use Rattle.rules.specs.Station.{Station, absent, width, limit, station}
use Rattle.rules.specs.declared.Entry.{Entry}
use Rattle.rules.specs.Power.{is_armed, supported, needs, wake_pair}

-- the entries of the devices, and the set of the resources that are on
pub record Status : Type 0 where
  pub entries : ℕ → Entry
  pub on : ℕ

-- D0, not armed
abbrev pub no_entry : Entry
no_entry = record { state = 0; armed = 0; sleep = 0; wake = 0 }

-- four bytes a device
unfoldable pub entry_at : List ℕ → ℕ → Entry
entry_at b at = record { state = get_or b at 0; armed = get_or b (at + 1) 0; sleep = get_or b (at + 2) 0; wake = get_or b (at + 3) 0 }

unfoldable pub entry_bytes : Entry → List ℕ
entry_bytes e = e.state ∷ e.armed ∷ e.sleep ∷ e.wake ∷ []

-- RULES.md 2.7: four bytes a device for 8w devices, 128 or 256 bytes, then the on-set of w bytes; 132 or 264 bytes in all
abbrev pub entries_size : ℕ → ℕ
entries_size w = 32 * w

abbrev pub image_size : ℕ → ℕ
image_size w = 33 * w

unfoldable pub entries_of : ℕ → List ℕ → ℕ → Entry
entries_of w b = below (limit w) no_entry (λ k. entry_at b (4 * k))

unfoldable pub status_of : ℕ → List ℕ → Status
status_of w b = record { entries = entries_of w b; on = read_le w b (entries_size w) }

-- the entries and the whole status of an image, read with a table's width
abbrev pub entries : List ℕ → List ℕ → ℕ → Entry
entries t b = entries_of (width t) b

abbrev pub status : List ℕ → List ℕ → Status
status t b = status_of (width t) b

-- the bytes of the k entries from i on
abbrev pub entries_bytes : (ℕ → Entry) → ℕ → ℕ → List ℕ
entries_bytes entries i k = join_from (λ d. entry_bytes (entries d)) i k

-- the image of a status
unfoldable pub image_of : ℕ → Status → List ℕ
image_of w s = entries_bytes s.entries 0 (limit w) ++ bytes_le w s.on

-- RULES.md 4.1: every device in D0, none armed, all R resources on
unfoldable pub fresh_status : Station → Status
fresh_status s = record { entries = λ k. no_entry; on = first_n s.resources }

-- state 0 to 4; armed 0 or 1; wake S and wake D 0 to 4; not armed means both wake numbers are zero
unfoldable pub entry_good : Entry → Bool
entry_good e =
    leb e.state 4 && leb e.armed 1 && leb e.sleep 4 && leb e.wake 4 && (eqb e.armed 1 || eqb e.sleep 0 && eqb e.wake 0)

unfoldable pub entry_zero : Entry → Bool
entry_zero e = eqb e.state 0 && eqb e.armed 0 && eqb e.sleep 0 && eqb e.wake 0

-- of the n entries each is good, and those at or above D are zero
unfoldable pub entries_good : ℕ → Station → (ℕ → Entry) → Bool
entries_good n s entries = every (λ k. entry_good (entries k) && (ltb k s.devices || entry_zero (entries k))) n

-- no bit at or above R
unfoldable pub on_good : Station → ℕ → Bool
on_good s on = ltb on (2 ^ s.resources)

-- d's parent, if there is one, has in these states one that is not deeper than x
abbrev pub under_parent : Station → (ℕ → ℕ) → ℕ → ℕ → Bool
under_parent s states d x = eqb (s.device d).parent absent || leb (states (s.device d).parent) x

-- d's parent, if there is one, is not deeper than state x
unfoldable pub parent_allows : Station → (ℕ → Entry) → ℕ → ℕ → Bool
parent_allows s entries d x = under_parent s (λ k. (entries k).state) d x

-- if armed, its pair is legal and its state is not deeper than wake D
unfoldable pub wake_consistent : Station → ℕ → Entry → Bool
wake_consistent s d e = not (is_armed e) || wake_pair s d e.sleep e.wake && leb e.state e.wake

-- RULES.md 4.3, consistent apart from power: a supported state, not shallower than its parent, the wake rules
unfoldable pub consistent_but_power : Station → (ℕ → Entry) → ℕ → Bool
consistent_but_power s entries d =
    supported s d (entries d).state && parent_allows s entries d (entries d).state && wake_consistent s d (entries d)

-- everything it needs is on
unfoldable pub powered : Station → Status → ℕ → Bool
powered s st d = subset (needs s d (st.entries d)) st.on

-- RULES.md 4.3, of one device
unfoldable pub consistent : Station → Status → ℕ → Bool
consistent s st d = consistent_but_power s st.entries d && powered s st d

-- RULES.md 4.2: no value of a status with n entries is out of its rules; else 7
unfoldable pub values_good : ℕ → Station → Status → Bool
values_good n s st = entries_good n s st.entries && on_good s st.on

-- an image has its size, and its values are good
unfoldable pub image_good : List ℕ → List ℕ → Bool
image_good t b = eqb (length b) (image_size (width t)) && values_good (limit (width t)) (station t) (status t b)

-- 7: an image that is not good
unfoldable pub values_verdict : List ℕ → List ℕ → Verdict
values_verdict t b = unless (image_good t b) BadState 0

-- 8: the lowest device that is not consistent
unfoldable pub consistency_verdict : Station → Status → Verdict
consistency_verdict s st = lowest (λ d. not (consistent s st d)) s.devices (refuse Inconsistent)

-- 7, then 8
unfoldable pub state_verdict : List ℕ → List ℕ → Verdict
state_verdict t b = first_of (values_verdict t b ∷ consistency_verdict (station t) (status t b) ∷ []) (Ok 0)
