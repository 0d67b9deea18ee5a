-- What one entry written changes: that entry and no other; with a request's new entry, the image is the one after the request.
use mathlib.Core.Path.{◌≡◌, refl, sym, ap, ◌∙◌, fun_ext}
use mathlib.Core.List.{List, [], ◌∷◌}
use mathlib.Core.Logic.{◌⊎◌, inl, inr, ⊎_elim}
use Prim.Native.Nat.{ℕ, zero, suc, ◌+◌, ◌*◌, ◌≤◌, ◌<◌}
use native.Mathlib.Nat.{add-zero}
use native.Mathlib.Numerals.{towards_suc}
use native.Mathlib.Omega.{arith}
use borrow.Author.Tests.{eqb-true, eqb-false, ltb-true, ltb-false}
use lib.Dec.{eqb, ltb}
use lib.ListN.{length, get_or, take, set, length-set}
use lib.Seq.{sets, length-take-le, get_or-set_same, get_or-set_other, length-sets}
use Rattle.sets.proofs.Laws.{decide}
use Rattle.words.specs.Words.{bytes_le}
use Rattle.rules.specs.declared.Entry.{Entry}
use Rattle.rules.specs.declared.Request.{Request}
use Rattle.rules.specs.Station.{width, limit, count_r, station_of, station}
use Rattle.rules.specs.Status.{entry_at, entry_bytes, entries_size, entries_of, entries, status_of, status, image_of, image_size}
use Rattle.rules.specs.Status.{fresh_status}
use Rattle.rules.specs.Request.{in_state, new_entry, replace_entry}
use Rattle.rules.specs.Calls.{end_set, status_after}
use Rattle.rules.specs.Outcomes.{state_after}
use Rattle.status.specs.Ready.{status_with, entry_with}
use Rattle.status.specs.State.{Held, loaded, stored, status_in, fresh_held, changed}
use Rattle.status.proofs.Held.{entry_in, entry_out, entry_same, entries_front, image_of_lem, fresh_image}

-- ---- a run of stores

-- what is before and after it stays
sets_other : (vs l : List ℕ) (i j : ℕ) → (j < i) ⊎ (i + length vs ≤ j) → get_or (sets l i vs) j 0 ≡ get_or l j 0
sets_other [] l i j h = refl
sets_other (a ∷ vs) l i j h =
    sets_other vs (set l i a) (suc i) j (⊎_elim (λ g. inl (omega arith)) (λ g. inr (omega arith)) h)
    ∙ get_or-set_other l i j a 0 (⊎_elim (λ g e. omega arith) (λ g e. omega arith) h)

sets_same : (vs l : List ℕ) (i j : ℕ) → j < length vs → i + j < length l → get_or (sets l i vs) (i + j) 0 ≡ get_or vs j 0
sets_same [] l i j h g = absurd (omega arith)
sets_same (a ∷ vs) l i zero h g =
    rw add-zero (sets_other vs (set l i a) (suc i) i (inl (omega arith)) ∙ get_or-set_same l i a 0 (omega arith))
sets_same (a ∷ vs) l i (suc j) h g =
    let n : i + suc j ≡ suc i + j = omega arith in
    rw n (sets_same vs (set l i a) (suc i) j (omega arith) (simp length-set (omega arith)))

-- ---- one entry

-- the four stores, as the code makes them
pub four_stores : (ds : List ℕ) (d : ℕ) (e : Entry)
    → set (set (set (set ds (4 * d) e.state) (4 * d + 1) e.armed) (4 * d + 2) e.sleep) (4 * d + 3) e.wake
    ≡ sets ds (4 * d) (entry_bytes e)
unfolding entry_bytes
four_stores ds d e = simp towards_suc

module _ (w : ℕ) (ds : List ℕ) (d : ℕ) (e : Entry) where
  abbrev new : List ℕ
  new = sets ds (4 * d) (entry_bytes e)

  entry_written : d < limit w → length ds ≡ entries_size w → entries_of w new d ≡ e
  unfolding entry_bytes entry_at
  entry_written h l =
      let vs = e.state ∷ e.armed ∷ e.sleep ∷ e.wake ∷ [] in
      let at : (j : ℕ) → j < 4 → get_or new (4 * d + j) 0 ≡ get_or vs j 0 = λ j g. sets_same vs ds (4 * d) j g (omega arith) in
      entry_in w new d h ∙ rw (rw add-zero at (at 0 (omega arith)), at 1 (omega arith), at 2 (omega arith), at 3 (omega arith)) refl

  entry_kept : (k : ℕ) → (k ≡ d → ⊥) → entries_of w new k ≡ entries_of w ds k
  unfolding entry_bytes
  entry_kept k n =
      let vs = e.state ∷ e.armed ∷ e.sleep ∷ e.wake ∷ [] in
      let apart : (k < d) ⊎ (d < k) = decide (ltb k d) (λ a. inl (ltb-true k d a)) (λ a. inr (omega (arith, ltb-false k d a))) in
      decide (ltb k (limit w))
      (λ a. entry_in w new k (ltb-true k _ a)
      ∙ entry_same new ds (4 * k) (λ i g. sets_other vs ds (4 * d) (4 * k + i)
      (⊎_elim (λ b. inl (omega arith)) (λ b. inr (omega arith)) apart))
      ∙ sym (entry_in w ds k (ltb-true k _ a)))
      (λ a. entry_out w new k (ltb-false k _ a) ∙ sym (entry_out w ds k (ltb-false k _ a)))

  -- that entry is replaced and the others are as before
  entry_replaced : d < limit w → length ds ≡ entries_size w → entries_of w new ≡ replace_entry (entries_of w ds) d e
  unfolding replace_entry
  entry_replaced h l =
      fun_ext (λ k. decide (eqb k d) (λ z. rw (z, eqb-true k d z) (entry_written h l))
      (λ z. rw z (entry_kept k (eqb-false k d z))))

-- the code changes a state by value
pub changed_is : (h : Held) (d : ℕ) (e : Entry) (on : ℕ) (ds : List ℕ) → ds ≡ sets h.devices (4 * d) (entry_bytes e)
    → record { devices = ds; on = on } ≡ changed h d e on
unfolding changed
changed_is h d e on ds q = rw q refl

changed_long : (w : ℕ) (b : List ℕ) (d : ℕ) (e : Entry) (on : ℕ)
    → length (changed (loaded w b) d e on).devices ≡ length (take (entries_size w) b)
unfolding changed loaded
changed_long w b d e on = length-sets (take (entries_size w) b) (4 * d) (entry_bytes e)

changed_status : (w : ℕ) (b : List ℕ) (d : ℕ) (e : Entry) (on : ℕ) → d < limit w → length (take (entries_size w) b) ≡ entries_size w
    → status_in w (changed (loaded w b) d e on) ≡ record { entries = replace_entry (entries_of w b) d e; on = on }
unfolding changed loaded status_in
changed_status w b d e on h l = rw (entry_replaced w (take (entries_size w) b) d e h l, entries_front w b) refl

-- what is loaded from an image, changed and stored is the image of the status with that entry and that on-set
changed_image : (w : ℕ) (b : List ℕ) (d : ℕ) (e : Entry) (on : ℕ) → length b ≡ image_size w → d < limit w
    → stored w (changed (loaded w b) d e on) ≡ image_of w (record { entries = replace_entry (entries_of w b) d e; on = on })
changed_image w b d e on l h =
    let ds = take (entries_size w) b in
    let long : length ds ≡ entries_size w = length-take-le (entries_size w) b (omega arith) in
    let new = changed (loaded w b) d e on in
    sym (image_of_lem w new (changed_long w b d e on ∙ long)) ∙ ap (image_of w) (changed_status w b d e on h long)

-- a set of which w bytes are stored may be cut to them before
stored_low : (w : ℕ) (h : Held) (d : ℕ) (e : Entry) (on x : ℕ) → bytes_le w x ≡ bytes_le w on
    → stored w (changed h d e x) ≡ stored w (changed h d e on)
unfolding stored changed
stored_low w h d e on x q = rw q refl

resources_are : (t : List ℕ) (n : ℕ) → n ≡ count_r t → n ≡ (station t).resources
unfolding station_of
resources_are t n e = e

-- ---- the state of a version, whose sets have w bytes, in the image of a table of that version
module _ (w : ℕ) (t : List ℕ) (same : w ≡ width t) where
  pub entry_stored : (b : List ℕ) (d : ℕ) (e : Entry) (on x : ℕ) (before after : Held) (b' : List ℕ) → length b ≡ image_size (width t)
      → d < limit (width t) → before ≡ loaded w b → after ≡ changed before d e x → bytes_le w x ≡ bytes_le w on → b' ≡ stored w after
      → b' ≡ image_of (width t) (entry_with t b d e on)
  entry_stored b d e on x before after b' l h r c q s =
      rw (sym same, s, c, r) (stored_low w (loaded w b) d e on x q ∙ changed_image w b d e on (omega arith) (omega arith))

  pub fresh_stored : (n : ℕ) (st : Held) (b' : List ℕ) → n ≡ count_r t → st ≡ fresh_held w n → b' ≡ stored w st
      → b' ≡ image_of (width t) (fresh_status (station t))
  fresh_stored n st b' r f s =
      s ∙ ap (stored w) (f ∙ ap (fresh_held w) (resources_are t n r)) ∙ fresh_image w (station t)
      ∙ ap (λ (k : ℕ). image_of k (fresh_status (station t))) same

-- a state written in the image itself
module _ (t b : List ℕ) (d y : ℕ) (h : d < limit (width t)) (l : length b ≡ image_size (width t)) where
  abbrev here : List ℕ
  here = set b (4 * d) y

  state_in : entries t here d ≡ in_state (entries t b d) y
  unfolding entry_at
  state_in =
      let other : (j : ℕ) → 0 < j → get_or here (4 * d + j) 0 ≡ get_or b (4 * d + j) 0 =
      λ j g. get_or-set_other b (4 * d) (4 * d + j) y 0 (λ e. omega arith) in
      entry_in (width t) here d h
      ∙ rw (get_or-set_same b (4 * d) y 0 (omega arith), other 1 (omega arith), other 2 (omega arith), other 3 (omega arith))
      (ap (λ (e : Entry). in_state e y) (sym (entry_in (width t) b d h)))

  others_in : (k : ℕ) → (k ≡ d → ⊥) → entries t here k ≡ entries t b k
  others_in k n =
      decide (ltb k (limit (width t)))
      (λ a. entry_in (width t) here k (ltb-true k _ a)
      ∙ entry_same here b (4 * k) (λ i g. get_or-set_other b (4 * d) (4 * k + i) y 0 (λ e. n (omega arith)))
      ∙ sym (entry_in (width t) b k (ltb-true k _ a)))
      (λ a. entry_out (width t) here k (ltb-false k _ a) ∙ sym (entry_out (width t) b k (ltb-false k _ a)))

  pub state_replaced : entries t here ≡ replace_entry (entries t b) d (in_state (entries t b d) y)
  unfolding replace_entry
  state_replaced =
      fun_ext (λ k. decide (eqb k d) (λ z. rw (z, eqb-true k d z) state_in) (λ z. rw z (others_in k (eqb-false k d z))))

  pub state_image : (on : ℕ) (b' : List ℕ) → b' ≡ image_of (width t) (status_with t here on)
      → b' ≡ image_of (width t) (entry_with t b d (in_state (entries t b d) y) on)
  state_image on b' e = e ∙ rw state_replaced refl

  pub state_inside : 4 * d < length b
  state_inside = omega arith

  pub state_long : length here ≡ image_size (width t)
  state_long = simp length-set l

-- and what has its length has the length of the whole
pub set_same : (b b' : List ℕ) (i y : ℕ) → length b' ≡ length (set b i y) → length b' ≡ length b
set_same b b' i y e = e ∙ length-set b i y

pub ruleset in_image = (state_image, state_inside, state_long, set_same)

-- the state with the request's new entry and the set at its end is the one after the request
pub after_image : (t b : List ℕ) (q : Request) (e : Entry) (on : ℕ) → e ≡ new_entry ((status t b).entries q.device) q
    → on ≡ end_set (station t) (status t b).entries q
    → image_of (width t) (entry_with t b q.device e on) ≡ state_after t b q
unfolding status_after state_after status_of
after_image t b q e on n f = rw (n, f) refl
