-- Where a word that is neither `_ON` nor `_OFF` can stand in an arranged list: before all ONs and OFFs, or after them.
use mathlib.Core.Path.{◌≡◌, ap, ap₂, ◌∙◌}
use mathlib.Core.List.{List, [], ◌∷◌, ◌++◌, map, append_assoc}
use mathlib.Core.Logic.{◌⊎◌, inl, inr}
use Prim.Native.Nat.{ℕ, ◌+◌, ◌-◌, ◌%◌, ◌≤◌, ◌<◌}
use native.Mathlib.Omega.{arith}
use borrow.Author.Tests.{ltb-true, ltb-false}
use lib.Dec.{ltb}
use lib.ListN.{length, get_or, length-append, get_or-append}
use lib.Seq.{get_or-append-add}
use Rattle.sets.proofs.Laws.{decide}
use Rattle.rules.specs.Check.{on_word, off_word}
use Rattle.laws.specs.Carried.{All, Other, listed}
use Rattle.laws.proofs.All.{all_append, all_at, all_map}

-- an `_ON` or `_OFF` word
abbrev Switch : ℕ → Type 0
Switch w = w % 0x100 < 3

all_of : (P : ℕ → Type 0) → ((x : ℕ) → P x) → (l : List ℕ) → All P l
unfolding All
all_of P h [] = tt
all_of P h (x ∷ l) = (h x, all_of P h l)

middle_switches : (ons offs : List ℕ) → All Switch (map on_word ons ++ map off_word offs)
middle_switches ons offs =
    all_append Switch (map on_word ons) (map off_word offs)
    (all_map Switch on_word ons (all_of (λ r. Switch (on_word r)) (λ r. omega arith) ons))
    (all_map Switch off_word offs (all_of (λ r. Switch (off_word r)) (λ r. omega arith) offs))

pub other_place : (first ons offs last : List ℕ) (n : ℕ) → Other (get_or (listed first ons offs last) n 0)
    → (n < length first) ⊎ (length (first ++ map on_word ons ++ map off_word offs) ≤ n)
other_place first ons offs last n o =
    let mid = map on_word ons ++ map off_word offs in
    let same : listed first ons offs last ≡ first ++ (mid ++ last) = simp append_assoc in
    let long : length (first ++ map on_word ons ++ map off_word offs) ≡ length first + length mid =
    ap length (append_assoc first (map on_word ons) (map off_word offs)) ∙ length-append first mid in
    decide (ltb n (length first)) (λ e. inl (ltb-true n (length first) e))
    (λ e.
    let k = n - length first in
    let after : length first ≤ n = ltb-false n (length first) e in
    let at : n ≡ length first + k = omega arith in
    let here : get_or (listed first ons offs last) n 0 ≡ get_or (mid ++ last) k 0 =
    ap₂ (λ (l : List ℕ) (i : ℕ). get_or l i 0) same at ∙ get_or-append-add first (mid ++ last) k 0 in
    decide (ltb k (length mid))
    (λ f.
    let in-mid : Switch (get_or mid k 0) = all_at Switch mid k 0 (middle_switches ons offs) (ltb-true k (length mid) f) in
    let e2 : get_or (listed first ons offs last) n 0 ≡ get_or mid k 0 = here ∙ get_or-append mid last 0 k (ltb-true k (length mid) f) in
    let bad : Other (get_or mid k 0) = rw e2 at o in
    absurd (omega arith))
    (λ f. inr (omega (arith, ltb-false k (length mid) f))))
