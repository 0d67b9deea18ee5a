-- A phase of the checker takes exactly the words that are due from the front of a list: given words, or those of a set's members, each once
-- and in order. For any test of two neighbours and any word that names its resource; from the laws of one member taken out.
use mathlib.Core.Path.{◌≡◌, refl, sym, ap, ◌∙◌}
use mathlib.Core.Bool.{Bool, true, false, ◌||◌, true≢false}
use mathlib.Core.List.{List, [], ◌∷◌, ◌++◌, map}
use Prim.Native.Nat.{ℕ, ◌^◌, ◌≤◌, ◌<◌}
use native.Mathlib.Omega.{arith}
use borrow.Author.Tests.{eqb-true, eq-eqb, ne_eqb}
use lib.Dec.{eqb}
use Rattle.sets.specs.Sets.{member, minus, single}
use Rattle.sets.proofs.Laws.{member_below, decide, member_none, minus_lt}
use Rattle.rules.specs.Check.{Rest, left, refused, take_words, resource_in, may_come, take_set}
use Rattle.rules.specs.Conforms.{times, EachOnce}
use Rattle.laws.proofs.Chain.{Follows}
use Rattle.laws.proofs.Tests.{both_true}
use Rattle.laws.proofs.Select.{once_none, once_head, once_cons}

-- ---- given words, at the front

pub take_words_of : (vs rest : List ℕ) → take_words vs (vs ++ rest) ≡ left rest
unfolding take_words
take_words_of [] rest = refl
take_words_of (v ∷ vs) rest = rw (eq-eqb v v refl, take_words) (take_words_of vs rest)

pub take_words_at : (vs ws rest : List ℕ) → take_words vs ws ≡ left rest → ws ≡ vs ++ rest
unfolding take_words
take_words_at [] ws rest e = cc
take_words_at (v ∷ vs) [] rest e = cc
take_words_at (v ∷ vs) (w ∷ ws) rest e =
    let ih = take_words_at vs ws rest in
    decide (eqb w v)
    (λ p. rw (← eqb-true w v p) (ap (◌∷◌ w) (ih (rw (p, take_words) at e))))
    (λ p. let z : refused ≡ left rest = rw (p, take_words) at e in cc)

pub not_left : (x : Rest) (rest : List ℕ) → x ≡ refused → x ≡ left rest → ⊥
not_left x rest p q = let z : ◌≡◌ {A = ℕ} 0 1 = cc in omega arith

-- ---- the words of a set's members, at the front; what is left after them

pub record PhaseTaken (word : ℕ → ℕ) (after : ℕ → ℕ → Bool) (todo : ℕ) (first : Bool) (last : ℕ) (ws rest : List ℕ) : Type 0 where
  pub list : List ℕ
  pub whole : ws ≡ map word list ++ rest
  pub once : EachOnce todo list
  pub chain : Follows after first last list

module _ (word : ℕ → ℕ) (after : ℕ → ℕ → Bool) where
  -- the test's four ways: nothing is due, no word is left, a word that may not come, and one that may
  pub take_stop : (todo : ℕ) (first : Bool) (last : ℕ) (ws : List ℕ) → eqb todo 0 ≡ true → take_set word after todo first last ws ≡ left ws
  unfolding take_set
  take_stop todo first last [] z = rw (z, take_set) refl
  take_stop todo first last (w ∷ ws) z = rw (z, take_set) refl

  pub take_short : (todo : ℕ) (first : Bool) (last : ℕ) → eqb todo 0 ≡ false → take_set word after todo first last [] ≡ refused
  unfolding take_set
  take_short todo first last z = rw (z, take_set) refl

  pub take_bad : (todo : ℕ) (first : Bool) (last w : ℕ) (ws : List ℕ) → eqb todo 0 ≡ false → may_come word after todo first last w ≡ false
      → take_set word after todo first last (w ∷ ws) ≡ refused
  unfolding take_set
  take_bad todo first last w ws z p = rw (z, p, take_set) refl

  pub take_one : (todo : ℕ) (first : Bool) (last w : ℕ) (ws : List ℕ) → eqb todo 0 ≡ false → may_come word after todo first last w ≡ true
      → take_set word after todo first last (w ∷ ws) ≡ take_set word after (minus todo (single (resource_in w))) false (resource_in w) ws
  unfolding take_set
  take_one todo first last w ws z p = rw (z, p, take_set) refl

  may_yes : (todo : ℕ) (first : Bool) (last w : ℕ) → may_come word after todo first last w ≡ true
      → (w ≡ word (resource_in w)) × (member todo (resource_in w) ≡ true) × ((first || after last (resource_in w)) ≡ true)
  unfolding may_come
  may_yes todo first last w e =
      let a = both_true _ _ e in
      let b = both_true _ _ a.0 in
      (eqb-true _ _ b.0, b.1, a.1)

  none_taken : (todo : ℕ) (first : Bool) (last : ℕ) (ws rest : List ℕ) → eqb todo 0 ≡ true
      → take_set word after todo first last ws ≡ left rest
      → PhaseTaken word after todo first last ws rest
  unfolding EachOnce times Follows
  none_taken todo first last ws rest z e =
      let same : ws ≡ rest = cc (take_stop todo first last ws z) in
      record { list = []; whole = same; once = λ r. rw (eqb-true todo 0 z, member_none r); chain = tt }

  -- what was taken
  pub take_at : (ws : List ℕ) (todo : ℕ) (first : Bool) (last : ℕ) (rest : List ℕ) → take_set word after todo first last ws ≡ left rest
      → PhaseTaken word after todo first last ws rest
  unfolding Follows
  take_at [] todo first last rest e =
      decide (eqb todo 0)
      (λ z. none_taken todo first last [] rest z e)
      (λ z. absurd (not_left _ rest (take_short todo first last z) e))
  take_at (w ∷ ws) todo first last rest e =
      let r = resource_in w in
      let ih = take_at ws (minus todo (single r)) false r rest in
      decide (eqb todo 0)
      (λ z. none_taken todo first last (w ∷ ws) rest z e)
      (λ z. decide (may_come word after todo first last w)
      (λ p.
      let m = may_yes todo first last w p in
      let t = ih (sym (take_one todo first last w ws z p) ∙ e) in
      record {
        list = r ∷ t.list;
        whole = cc m.0;
        once = (once_cons todo r t.list m.1).0 t.once;
        chain = (m.2, t.chain);
      })
      (λ p. absurd (not_left _ rest (take_bad todo first last w ws z p) e)))

  -- and such words are taken, where a word names its resource by a byte
  module _ (n : ℕ) (small : n ≤ 256) (index : (r : ℕ) → r < 256 → resource_in (word r) ≡ r) where
    may_of : (todo : ℕ) (first : Bool) (last r : ℕ) → r < 256 → member todo r ≡ true → (first || after last r) ≡ true
        → may_come word after todo first last (word r) ≡ true
    unfolding may_come
    may_of todo first last r l h a = rw (index r l, eq-eqb (word r) (word r) refl, h, a)

    pub take_of : (l : List ℕ) (todo : ℕ) (first : Bool) (last : ℕ) (rest : List ℕ) → todo < 2 ^ n → EachOnce todo l
        → Follows after first last l
        → take_set word after todo first last (map word l ++ rest) ≡ left rest
    unfolding Follows
    take_of [] todo first last rest u o f = take_stop todo first last rest (eq-eqb todo 0 (once_none n todo u o))
    take_of (r ∷ l) todo first last rest u o f =
        let h = once_head todo r l o in
        let below : r < 256 = omega (arith, member_below n todo r u h) in
        let some = ne_eqb todo 0 (λ z. true≢false (sym h ∙ ap (λ (x : ℕ). member x r) z ∙ member_none r)) in
        let ih = take_of l (minus todo (single r)) false r rest (minus_lt n todo (single r) u) ((once_cons todo r l h).1 o) f.1 in
        take_one todo first last (word r) _ some (may_of todo first last r below h f.0) ∙ rw (index r below) ih
