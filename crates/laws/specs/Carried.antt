-- The statement of the execution theorem: what carrying out a list keeps, where it ends, and what the words at its two ends find.
use Rattle.std.specs.Prelude.{ℕ, ◌%◌, ◌≤◌, ◌<◌, ◌≡◌, Bool, true, not, ◌&&◌, List, [], ◌∷◌, ◌++◌, map, length, take, ltb}
use Rattle.rules.specs.Check.{on_word, off_word}
use Rattle.rules.specs.Conforms.{times}
use Rattle.rules.specs.Execution.{execution}

-- every element of a list has the property
unfoldable pub All : {A : Type 0} → (A → Type 0) → List A → Type 0
All P [] = Unit {0}
All P (x ∷ l) = P x × All P l

-- neither `_ON` nor `_OFF`: its lowest byte is above 2
abbrev pub Other : ℕ → Type 0
Other w = 3 ≤ w % 0x100

-- r stands in the list
abbrev pub has_in : ℕ → List ℕ → Bool
has_in r l = ltb 0 (times r l)

-- a list of words: others, then ONs, OFFs, then others
abbrev pub listed : List ℕ → List ℕ → List ℕ → List ℕ → List ℕ
listed first ons offs last = first ++ map on_word ons ++ map off_word offs ++ last

-- the ONs are what the target has and the start has not, the OFFs what the start has and the target has not
pub record Arranged (start target : ℕ → Bool) (first ons offs last : List ℕ) : Type 0 where
  pub first_other : All Other first
  pub last_other : All Other last
  pub ons_small : All (λ r. r < 256) ons
  pub offs_small : All (λ r. r < 256) offs
  pub ons_are : (r : ℕ) → has_in r ons ≡ target r && not (start r)
  pub offs_are : (r : ℕ) → has_in r offs ≡ start r && not (target r)

-- what holds of such a list: after any n of its words all that is in both sets is on; it ends with the target; the words at its front find
-- the start, and those at its end find the target
pub record Carried (start target : ℕ → Bool) (first ons offs last : List ℕ) : Type 0 where
  pub keeps : (n r : ℕ) → start r ≡ true → target r ≡ true → execution start (take n (listed first ons offs last)) r ≡ true
  pub ends : (r : ℕ) → execution start (listed first ons offs last) r ≡ target r
  pub first_finds : (n r : ℕ) → n ≤ length first → execution start (take n (listed first ons offs last)) r ≡ start r
  pub last_finds : (n r : ℕ) → length (first ++ map on_word ons ++ map off_word offs) ≤ n
      → execution start (take n (listed first ons offs last)) r ≡ target r
