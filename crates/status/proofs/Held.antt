-- A state, its image and its status say the same: what is loaded and stored, and what a fresh state says.
use mathlib.Core.Path.{◌≡◌, refl, sym, ap, ◌∙◌, fun_ext}
use mathlib.Core.List.{List, [], ◌∷◌, ◌++◌, append-nil}
use Prim.Native.Nat.{ℕ, zero, suc, ◌+◌, ◌*◌, ◌^◌, ◌≤◌, ◌<◌}
use native.Mathlib.Nat.{add-zero}
use native.Mathlib.Numerals.{towards_suc}
use native.Mathlib.Omega.{arith}
use borrow.Author.Tests.{ltb-true, ltb-false}
use lib.Dec.{ltb}
use lib.ListN.{length, get_or, take, drop, replicate, length-append, length-replicate, get_or-replicate, drop_of_length-le}
use lib.Seq.{length-take-le, get_or-take, drop-cons}
use Rattle.sets.specs.Sets.{first_n}
use Rattle.sets.proofs.Laws.{decide}
use Rattle.words.specs.Words.{read_le, bytes_le, put}
use Rattle.words.proofs.Laws.{bytes_length}
use Rattle.words.proofs.Put.{put_all, put_then}
use Rattle.rules.specs.declared.Entry.{Entry}
use Rattle.rules.specs.Station.{Station, width, limit, count_d}
use Rattle.rules.specs.Index.{join_from}
use Rattle.rules.specs.Status.{no_entry, entry_at, entry_bytes, entries_size, entries_of, entries, status_of, status, entries_bytes, image_of}
use Rattle.rules.specs.Status.{image_size, fresh_status}
use Rattle.rules.proofs.Index.{below_in, below_out}
use Rattle.table.specs.Layout.{WellSized}
use Rattle.status.specs.Ready.{status_with}
use Rattle.status.specs.State.{Held, loaded, stored, status_in, fresh_held}

-- ---- one entry

module _ (w : ℕ) (b : List ℕ) where
  pub entry_in : (k : ℕ) → k < limit w → entries_of w b k ≡ entry_at b (4 * k)
  unfolding entries_of
  entry_in k h = below_in (limit w) no_entry _ k h

  pub entry_out : (k : ℕ) → limit w ≤ k → entries_of w b k ≡ no_entry
  unfolding entries_of
  entry_out k h = below_out (limit w) no_entry _ k h

  -- entries are known by those below the limit
  pub entries_ext : (f : ℕ → Entry) → ((k : ℕ) → k < limit w → entry_at b (4 * k) ≡ f k)
      → ((k : ℕ) → limit w ≤ k → f k ≡ no_entry) → entries_of w b ≡ f
  entries_ext f h out =
      fun_ext
      (λ k. decide (ltb k (limit w)) (λ e. entry_in k (ltb-true k (limit w) e) ∙ h k (ltb-true k (limit w) e))
      (λ e. entry_out k (ltb-false k (limit w) e) ∙ sym (out k (ltb-false k (limit w) e))))

-- lists that agree at the four bytes from n on have the same entry there
pub entry_same : (a b : List ℕ) (n : ℕ) → ((i : ℕ) → i < 4 → get_or a (n + i) 0 ≡ get_or b (n + i) 0) → entry_at a n ≡ entry_at b n
unfolding entry_at
entry_same a b n h =
    rw (rw add-zero at (h 0 (omega arith)), h 1 (omega arith), h 2 (omega arith), h 3 (omega arith)) refl

-- the code reads an entry as `entry_at` does
pub entry_read : (b : List ℕ) (d : ℕ)
    → record {
      state = get_or b (4 * d) 0;
      armed = get_or b (4 * d + 1) 0;
      sleep = get_or b (4 * d + 2) 0;
      wake =
          get_or b (4 * d + 3) 0;
    } ≡ entry_at b (4 * d)
unfolding entry_at
entry_read b d = refl

-- and as a device's entry of a table's state
pub entry_is : (t b : List ℕ) (d : ℕ) (e : Entry) → WellSized t → d < count_d t → e ≡ entry_at b (4 * d) → e ≡ entries t b d
entry_is t b d e z h q = q ∙ sym (entry_in (width t) b d (omega (arith, z.devices)))

-- the on-set stands after the entries, at the table's width
pub on_read : (t b : List ℕ) (w v : ℕ) → w ≡ width t → (v ≡ read_le w b (32 * w)) × (v < 256 ^ w) → v ≡ (status t b).on
unfolding status_of
on_read t b w v e q = q.0 ∙ ap (λ (n : ℕ). read_le n b (32 * n)) e

pub on_inside : (t b : List ℕ) (w : ℕ) → w ≡ width t → length b ≡ image_size (width t) → 32 * w + w ≤ length b
on_inside t b w e h = omega arith

-- ---- what is loaded

-- the first bytes hold all entries
pub entries_front : (w : ℕ) (b : List ℕ) → entries_of w (take (entries_size w) b) ≡ entries_of w b
entries_front w b =
    entries_ext w (take (entries_size w) b) (entries_of w b)
    (λ k h. entry_same (take (entries_size w) b) b (4 * k) (λ i l. get_or-take (entries_size w) b (4 * k + i) 0 (omega arith))
    ∙ sym (entry_in w b k h)) (entry_out w b)

-- the first bytes, copied over as many others, and the number after them
pub loaded_is : (w n : ℕ) (b ds₀ ds : List ℕ) (on : ℕ) → n ≡ entries_size w → ds ≡ put ds₀ 0 (take n b) → length ds₀ ≡ n
    → length b ≡ image_size w → on ≡ read_le w b n
    → record { devices = ds; on = on } ≡ loaded w b
unfolding loaded
loaded_is w n b ds₀ ds on same e l m r =
    let long : length (take n b) ≡ n = length-take-le n b (omega arith) in
    rw (e ∙ put_all ds₀ (take n b) (omega arith), r, same) refl

pub loaded_status : (w : ℕ) (b : List ℕ) → status_in w (loaded w b) ≡ status_of w b
unfolding loaded status_in status_of
loaded_status w b = rw (entries_front w b) refl

-- ---- what is stored

-- the device part over the first bytes, and the number after it
pub stored_is : (w n : ℕ) (ds : List ℕ) (on : ℕ) (b l m : List ℕ) → n ≡ entries_size w → l ≡ put b 0 ds → m ≡ put l n (bytes_le w on)
    → length ds ≡ n → length b ≡ image_size w → m ≡ stored w (record { devices = ds; on = on })
unfolding stored
stored_is w n ds on b l m same e f d k =
    let long = bytes_length w on in
    let one = put_then b m 0 n ds (bytes_le w on) (omega (arith, long)) (omega arith) (rw e at f) in
    one ∙ put_all b (ds ++ bytes_le w on) (length-append ds (bytes_le w on) ∙ omega (arith, long))

-- the four bytes of an entry, and those after it
entry_cut : (ds : List ℕ) (n : ℕ) → n + 4 ≤ length ds → drop n ds ≡ entry_bytes (entry_at ds n) ++ drop (n + 4) ds
unfolding entry_bytes entry_at
entry_cut ds n h =
    simp towards_suc
    (drop-cons ds n 0 (omega arith)
    ∙ ap (λ (l : List ℕ). get_or ds n 0 ∷ l) (drop-cons ds (suc n) 0 (omega arith))
    ∙ ap (λ (l : List ℕ). get_or ds n 0 ∷ get_or ds (suc n) 0 ∷ l) (drop-cons ds (suc (suc n)) 0 (omega arith))
    ∙ ap (λ (l : List ℕ). get_or ds n 0 ∷ get_or ds (suc n) 0 ∷ get_or ds (suc (suc n)) 0 ∷ l) (drop-cons ds (suc (suc (suc n))) 0 (omega arith)))

entries_drop : (f : ℕ → Entry) (ds : List ℕ) (i k : ℕ) → ((j : ℕ) → j < i + k → f j ≡ entry_at ds (4 * j)) → length ds ≡ 4 * (i + k)
    → entries_bytes f i k ≡ drop (4 * i) ds
unfolding join_from
entries_drop f ds i zero h l = sym (drop_of_length-le ds {i = 4 * i} (omega arith))
entries_drop f ds i (suc k) h l =
    let n : 4 * suc i ≡ 4 * i + 4 = omega arith in
    rw (h i (omega arith), entries_drop f ds (suc i) k (λ j g. h j (omega arith)) (omega arith), n)
    (sym (entry_cut ds (4 * i) (omega arith)))

pub image_of_lem : (w : ℕ) (h : Held) → length h.devices ≡ entries_size w → image_of w (status_in w h) ≡ stored w h
unfolding image_of status_in stored
image_of_lem w h l =
    let all : entries_bytes (entries_of w h.devices) 0 (limit w) ≡ drop (4 * 0) h.devices =
    entries_drop (entries_of w h.devices) h.devices 0 (limit w) (λ j g. entry_in w h.devices j (omega arith)) (omega arith) in
    ap (λ (b : List ℕ). b ++ bytes_le w h.on) all

-- another on-set after the entries of an image
put_end : (b ws : List ℕ) (n : ℕ) → length b ≡ n + length ws → put b n ws ≡ take n b ++ ws
unfolding put
put_end b ws n l =
    ap (λ (r : List ℕ). take n b ++ ws ++ r) (drop_of_length-le b {i = n + length ws} (omega arith)) ∙ append-nil (take n b ++ ws)

pub on_stored : (w : ℕ) (b b' : List ℕ) (on : ℕ) → length b ≡ image_size w → b' ≡ put b (32 * w) (bytes_le w on)
    → b' ≡ image_of w (record { entries = entries_of w b; on = on })
on_stored w b b' on l e =
    let h : Held = record { devices = take (entries_size w) b; on = on } in
    let said : status_in w h ≡ record { entries = entries_of w b; on = on } = unfold status_in in rw (entries_front w b) refl in
    let same : stored w h ≡ take (entries_size w) b ++ bytes_le w on = unfold stored in refl in
    e ∙ put_end b (bytes_le w on) (entries_size w) (omega (arith, bytes_length w on)) ∙ sym same
    ∙ sym (image_of_lem w h (length-take-le (entries_size w) b (omega arith))) ∙ ap (image_of w) said

pub on_written : (t b : List ℕ) (at on : ℕ) (b' : List ℕ) → length b ≡ image_size (width t) → at ≡ width t
    → b' ≡ put b (32 * at) (bytes_le at on)
    → b' ≡ image_of (width t) (status_with t b on)
on_written t b at on b' l a w = on_stored (width t) b b' on l (w ∙ ap (λ (n : ℕ). put b (32 * n) (bytes_le n on)) a)

-- ---- what a fresh state says

pub fresh_is : (w n m on : ℕ) → n ≡ entries_size w → on ≡ first_n m → record { devices = replicate n 0; on = on } ≡ fresh_held w m
unfolding fresh_held
fresh_is w n m on same e = rw (same, e) refl

fresh_status_lem : (w : ℕ) (s : Station) → status_in w (fresh_held w s.resources) ≡ fresh_status s
unfolding status_in fresh_held fresh_status entry_at
fresh_status_lem w s =
    let none : (k : ℕ) → k < limit w → entry_at (replicate (entries_size w) 0) (4 * k) ≡ no_entry =
    λ k h. entry_same (replicate (entries_size w) 0) [] (4 * k)
    (λ i l. get_or-replicate {A = ℕ} (entries_size w) (4 * k + i) 0 0 (omega arith)) in
    rw (entries_ext w (replicate (entries_size w) 0) (λ k. no_entry) none (λ k h. refl)) refl

pub fresh_image : (w : ℕ) (s : Station) → stored w (fresh_held w s.resources) ≡ image_of w (fresh_status s)
fresh_image w s =
    sym (image_of_lem w (fresh_held w s.resources) (unfold fresh_held in length-replicate {A = ℕ} (entries_size w) 0))
    ∙ ap (image_of w) (fresh_status_lem w s)

pub ruleset in_place = (entry_read, entry_is, on_read, on_inside, on_written)
