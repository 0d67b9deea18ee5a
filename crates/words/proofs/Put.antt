-- Writing into a list from a place on: `put` is one run of elements, runs that follow one another are one longer run, and two records say
-- what a loop that writes keeps: `Emitted`, what was written so far, and `Going`, what is still to be written.
use mathlib.Core.Path.{◌≡◌, refl, sym, ap, ◌∙◌}
use mathlib.Core.List.{List, [], ◌∷◌, ◌++◌, append_assoc, append-nil}
use Prim.Native.Nat.{ℕ, ◌+◌, ◌≤◌, ◌<◌}
use native.Mathlib.Nat.{add_assoc, add-zero}
use native.Mathlib.Numerals.{add-one}
use native.Mathlib.Omega.{arith}
use lib.ListN.{length, get_or, set, take, drop, length-append, length-take, length-drop, drop_of_length-le, take-append-drop}
use lib.Seq.{length-take-le, take-suc, take_all, sets, sets-eq, take_at, drop_at, drop-drop}
use Rattle.words.specs.Words.{put}

-- ---- one run

pub put_none : {A : Type 0} (d : List A) (at : ℕ) → put d at [] ≡ d
unfolding put
put_none d at = rw (add-zero at, append-nil (take at d)) (take-append-drop at d)

pub length_put : {A : Type 0} (d : List A) (at : ℕ) (ws : List A) → at + length ws ≤ length d → length (put d at ws) ≡ length d
unfolding put
length_put d at ws h = simp (length-append, length-take, length-drop) (omega arith)

-- a second run, from where the first ends
pub put_put : {A : Type 0} (d : List A) (at : ℕ) (xs ys : List A) → at + length xs ≤ length d
    → put (put d at xs) (at + length xs) ys ≡ put d at (xs ++ ys)
unfolding put
put_put d at xs ys h =
    let n = at + length xs in
    let p = take at d ++ xs in
    let e : length p ≡ n = simp (length-append, length-take) (omega arith) in
    rw (take_at p (drop n d) n e, ← drop-drop (length ys) n (p ++ drop n d), drop_at p (drop n d) n e, drop-drop, length-append, add_assoc)
    (simp append_assoc)

-- one run after another, each a call's: the second begins where the first ends
pub put_then : (d l : List ℕ) (at n : ℕ) (xs ys : List ℕ) → at + length xs ≤ length d → n ≡ at + length xs → l ≡ put (put d at xs) n ys
    → l ≡ put d at (xs ++ ys)
put_then d l at n xs ys h e f = f ∙ rw e (put_put d at xs ys h)

-- stores one after another, as straight code makes them
pub sets_put : {A : Type 0} (d : List A) (at : ℕ) (ws : List A) → at + length ws ≤ length d → sets d at ws ≡ put d at ws
unfolding put
sets_put d at ws h = sets-eq ws d at h

-- one store more
pub put_one : {A : Type 0} (d : List A) (at : ℕ) (ws : List A) (w : A) → at + length ws < length d
    → set (put d at ws) (at + length ws) w ≡ put d at (ws ++ w ∷ [])
put_one d at ws w h =
    let l = length_put d at ws (omega arith) in
    sets_put (put d at ws) (at + length ws) (w ∷ []) (omega arith) ∙ put_put d at ws (w ∷ []) (omega arith)

-- what was put at the start is read back
pub take_put : (d ws : List ℕ) (n : ℕ) → length ws ≡ n → take n (put d 0 ws) ≡ ws
unfolding put
take_put d ws n e = take_at ws (drop (0 + length ws) d) n e

-- a run that fills the list
pub put_all : (d ws : List ℕ) → length ws ≡ length d → put d 0 ws ≡ ws
unfolding put
put_all d ws e = rw (drop_of_length-le d {i = 0 + length ws} (omega arith)) (append-nil ws)

-- a turn of a loop that copies src, and its end
module _ {A : Type 0} (d l src : List A) (at i : ℕ) (e : l ≡ put d at (take i src)) where
  pub put_next : (x : A) → x ≡ get_or src i x → i < length src → at + length src ≤ length d
      → set l (at + i) x ≡ put d at (take (i + 1) src)
  put_next x f h k =
      let long = length-take-le i src (omega (arith, h)) in
      let place : at + i ≡ at + length (take i src) = omega arith in
      rw (add-one i, take-suc src i x h, ← f, e, place) (put_one d at (take i src) x (omega arith))

  pub put_last : length src ≤ i → l ≡ put d at src
  put_last h = e ∙ ap (put d at) (take_all i src h)

-- ---- what was written: d is the list at the start, ws what was put from `at` on, l the list now, p the next place

pub record Emitted (d : List ℕ) (at : ℕ) (ws l : List ℕ) (p : ℕ) : Type 0 where
  pub list : l ≡ put d at ws
  pub place : p ≡ at + length ws
  pub long : length l ≡ length d

pub emitted_none : (d : List ℕ) (at : ℕ) → Emitted d at [] d at
emitted_none d at = record { list = sym (put_none d at); place = sym (add-zero at); long = refl }

-- a run more, as a call's `ensures` gives it
pub emitted_run : {d ws l l' : List ℕ} {at p r : ℕ} (vs : List ℕ) → Emitted d at ws l p → (r ≡ p + length vs)
    × (l' ≡ put l p vs) → r ≤ length d
    → Emitted d at (ws ++ vs) l' r
emitted_run {d} {ws} {l} {l'} {at} {p} {r} vs e q h =
    record {
      list = rw (q.1, e.list, e.place) (put_put d at ws vs (omega arith));
      place = simp length-append (omega arith);
      long = rw q.1 (length_put l p vs (omega arith) ∙ e.long);
    }

-- ---- what is still to be written: `rest`, put into l from p on, gives what `all`, put into d from `at` on, gives

pub record Going (all d : List ℕ) (at : ℕ) (l rest : List ℕ) (p : ℕ) : Type 0 where
  pub list : put l p rest ≡ put d at all
  pub place : p + length rest ≡ at + length all
  pub long : length l ≡ length d

pub going_start : (all d : List ℕ) (at : ℕ) → Going all d at d all at
going_start all d at = record { list = refl; place = refl; long = refl }

-- a run more, as a call's `ensures` gives it
pub going_run : {all d l l' rest : List ℕ} {at p r : ℕ} (vs next : List ℕ) → Going all d at l rest p → rest ≡ vs ++ next
    → (r ≡ p + length vs) × (l' ≡ put l p vs) → at + length all ≤ length d → Going all d at l' next r
going_run {all} {d} {l} {l'} {rest} {at} {p} {r} vs next g e q h =
    let n : length rest ≡ length vs + length next = ap length e ∙ length-append vs next in
    record {
      list = rw (q.1, q.0) (put_put l p vs next (omega arith) ∙ rw (← e) g.list);
      place = omega arith;
      long = rw q.1 (length_put l p vs (omega arith) ∙ g.long);
    }

-- one store more
pub going_one : {all d l rest : List ℕ} {at p : ℕ} (w : ℕ) (next : List ℕ) → Going all d at l rest p → rest ≡ w ∷ next
    → at + length all ≤ length d
    → Going all d at (set l p w) next (p + 1)
going_one {l = l} {p = p} w next g e h =
    going_run (w ∷ []) next g e (refl, sets_put l p (w ∷ []) (omega (arith, ap length e))) h

pub going_done : {all d l rest : List ℕ} {at p : ℕ} → Going all d at l rest p → rest ≡ [] → (p ≡ at + length all) × (l ≡ put d at all)
going_done {l = l} {p = p} g e = let f = rw e at g in (omega (arith, f.place), sym (put_none l p) ∙ f.list)
