-- The test that a checker computes: the words are taken from the front, phase by phase, and the first that cannot stand there ends it.
-- That it says what `Conforms` says (RULES.md 7), for sets of resources that a byte can name, is proved in crates/laws.
use Rattle.std.specs.Prelude.{ℕ, ◌/◌, ◌%◌, Bool, true, false, ◌&&◌, ◌||◌, cond, List, [], ◌∷◌, map, eqb, leb}
use Rattle.sets.specs.Sets.{member, minus, single}
use Rattle.rules.specs.declared.Call.{Call}
use Rattle.rules.specs.declared.Call.TheVariants.{ResourceOn, ResourceOff}
use Rattle.rules.specs.declared.Request.{Request}
use Rattle.rules.specs.Station.{Station}
use Rattle.rules.specs.Status.{Status}
use Rattle.rules.specs.Calls.{word_of, own_calls, own_last, end_set, to_turn_on, to_turn_off, order_in}

-- what is left of a list once a phase has taken its words, or that it cannot
pub data Rest : Type 0 where
  left : List ℕ → Rest
  refused : Rest

-- go on with what is left
unfoldable pub and_then : Rest → (List ℕ → Rest) → Rest
and_then (left ws) next = next ws
and_then refused next = refused

-- these words stand at the front
unfoldable pub take_words : List ℕ → List ℕ → Rest
take_words [] ws = left ws
take_words (v ∷ vs) [] = refused
take_words (v ∷ vs) (w ∷ ws) = elim (eqb w v) [ true ↦ take_words vs ws | false ↦ refused ]

-- the resource that a word names, by its second byte
abbrev pub resource_in : ℕ → ℕ
resource_in w = w / 0x100 % 0x100

-- word w switches a resource of the set, and it is the first to be switched or its order is not before the last one's
unfoldable pub may_come : (ℕ → ℕ) → (ℕ → ℕ → Bool) → ℕ → Bool → ℕ → ℕ → Bool
may_come word after todo first last w = eqb w (word (resource_in w)) && member todo (resource_in w) && (first || after last (resource_in w))

-- the words that switch each resource of the set stand at the front, in order
unfoldable pub take_set : (ℕ → ℕ) → (ℕ → ℕ → Bool) → ℕ → Bool → ℕ → List ℕ → Rest
take_set word after todo first last [] = cond (eqb todo 0) (left []) refused
take_set word after todo first last (w ∷ ws) =
    elim (eqb todo 0) [
      | true ↦ left (w ∷ ws)
      | false ↦ elim (may_come word after todo first last w) [
        | true ↦ take_set word after (minus todo (single (resource_in w))) false (resource_in w) ws
        | false ↦ refused
      ]
    ]

abbrev pub on_word : ℕ → ℕ
on_word r = word_of (ResourceOn r)

abbrev pub off_word : ℕ → ℕ
off_word r = word_of (ResourceOff r)

-- the resourceorder is not lower than the last one's; not higher
abbrev pub not_lower : Station → ℕ → ℕ → Bool
not_lower s last r = leb (order_in s last) (order_in s r)

abbrev pub not_higher : Station → ℕ → ℕ → Bool
not_higher s last r = leb (order_in s r) (order_in s last)

-- the own calls where they stand first or last, none elsewhere
unfoldable pub first_calls : Bool → List Call → List Call
first_calls last own = cond last [] own

unfoldable pub last_calls : Bool → List Call → List Call
last_calls last own = cond last own []

unfoldable pub is_end : Rest → Bool
is_end (left []) = true
is_end (left (w ∷ ws)) = false
is_end refused = false

-- the own calls first or last, the ONs and then the OFFs from an on-set to a target set, and nothing else
unfoldable pub conforming : Station → List Call → Bool → ℕ → ℕ → List ℕ → Bool
conforming s own last on target ws =
    is_end
    (and_then (take_words (map word_of (first_calls last own)) ws)
    λ a. and_then (take_set on_word (not_lower s) (to_turn_on on target) true 0 a)
    λ b. and_then (take_set off_word (not_higher s) (to_turn_off on target) true 0 b)
    λ c. take_words (map word_of (last_calls last own)) c)

-- the test of a list for a request
abbrev pub conforming_to : Station → Status → Request → List ℕ → Bool
conforming_to s st q = conforming s (own_calls s st q) (own_last q) st.on (end_set s st.entries q)
