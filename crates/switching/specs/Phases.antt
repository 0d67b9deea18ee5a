-- The phases of a list in terms of the test `conforming`.
use Rattle.std.specs.Prelude.{ℕ, ◌≡◌, Bool, true, false, not, cond, ◌&&◌, ◌||◌, List, [], map}
use Rattle.sets.specs.Sets.{member}
use Rattle.rules.specs.declared.Switching.{Switching}
use Rattle.rules.specs.declared.Call.{Call}
use Rattle.rules.specs.Station.{Station}
use Rattle.rules.specs.Calls.{word_of, list_of}
use Rattle.rules.specs.Check.{Rest, left, refused, and_then, take_words, take_set, is_end, not_lower, not_higher}
use Rattle.calls.specs.Switch.{switch_word}
use Rattle.std.specs.Prelude.{Option, Some, None, is_none, unwrap_or}
use Rattle.std.specs.Borrow.{Bor}

-- a phase leaves the rest of the list; one that is refused leaves nothing to go on with
abbrev pub Leaves : Option (Bor (List ℕ)) → Rest → Type 0
Leaves (Some ws) rest = left ws.now ≡ rest
Leaves None rest = refused ≡ rest

-- r may follow the resource before it
unfoldable pub follows : Station → Bool → ℕ → ℕ → Bool
follows s true = not_higher s
follows s false = not_lower s

-- the words that turn the resources of a set off, or on, stand at the front, in order, after the last one that was switched, if any
abbrev pub take_phase : Station → Bool → ℕ → Option ℕ → List ℕ → Rest
take_phase s off todo last = take_set (switch_word off) (follows s off) todo (is_none last) (unwrap_or last 0)

-- r may be switched next: it is still to be switched, and it is the first or may follow the last one
unfoldable pub comes_next : Station → Bool → ℕ → Option ℕ → ℕ → Bool
comes_next s off todo last r = member todo r && (is_none last || follows s off (unwrap_or last 0) r)

-- the own call's word where it is due here, none elsewhere
unfoldable pub own_words : Bool → Option Call → List ℕ
own_words here own = cond here (map word_of (list_of own)) []

-- the words that turn one set on, then those that turn another off, stand at the front
unfoldable pub take_phases : Station → ℕ → ℕ → List ℕ → Rest
take_phases s on off ws =
    and_then (take_phase s false on None ws) λ a. take_phase s true off None a

-- the own call first or last, and what is to be switched after or before it
unfoldable pub take_switching : Station → Switching → List ℕ → Rest
take_switching s c ws =
    and_then (take_words (own_words (not c.last) c.own) ws)
    λ a. and_then (take_phases s c.added c.removed a)
    λ b. take_words (own_words c.last c.own) b

-- these and nothing else
unfoldable pub walked : Station → Switching → List ℕ → Bool
walked s c ws = is_end (take_switching s c ws)
