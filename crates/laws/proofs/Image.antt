-- The state image and the status are two views of one thing: what is written is read back, entry by entry and the on-set.
use mathlib.Core.Path.{◌≡◌, refl, sym, ap, ◌∙◌, fun_ext}
use mathlib.Core.List.{List, [], ◌++◌, append-nil, append_assoc}
use Prim.Native.Nat.{ℕ, zero, suc, ◌+◌, ◌*◌, ◌-◌, ◌^◌, ◌≤◌, ◌<◌}
use native.Mathlib.Nat.{add_assoc, mod-eq_of_lt, pow-suc}
use native.Mathlib.Omega.{arith}
use borrow.Author.Tests.{ltb-true, ltb-false}
use lib.Dec.{ltb}
use lib.ListN.{length, length-append}
use lib.Pow.{pow-add}
use lib.Seq.{get_or-append-add}
use Rattle.sets.proofs.Laws.{decide}
use Rattle.words.specs.Words.{read_le, bytes_le}
use Rattle.words.proofs.Laws.{bytes_length, read_bytes_at}
use Rattle.rules.specs.declared.Entry.{Entry}
use Rattle.rules.specs.Status.{Status, no_entry, entry_at, entry_bytes, entries_of, status_of, entries_bytes, image_of, image_size}
use Rattle.rules.proofs.Index.{below_in, below_out}
use Rattle.laws.proofs.Parts.{join_length, join_at}

-- 256 ^ w is 2 ^ 8w: w bytes have 8w bits
pub bytes_bits : (w : ℕ) → 256 ^ w ≡ 2 ^ (8 * w)
bytes_bits zero = refl
bytes_bits (suc w) =
    let e : 8 * suc w ≡ 8 * w + 8 = omega arith in
    rw (pow-suc 256 w, e, pow-add 2 (8 * w) 8, bytes_bits w) refl

-- ---- one entry
entry_past : (xs ys : List ℕ) (n : ℕ) → entry_at (xs ++ ys) (length xs + n) ≡ entry_at ys n
unfolding entry_at
entry_past xs ys n =
    rw (
      add_assoc (length xs) n 1,
      add_assoc (length xs) n 2,
      add_assoc (length xs) n 3,
      get_or-append-add xs ys n 0,
      get_or-append-add xs ys
          (n + 1) 0,
      get_or-append-add xs ys (n + 2) 0,
      get_or-append-add xs ys (n + 3) 0,
    ) refl

entry_here : (e : Entry) (ys : List ℕ) → entry_at (entry_bytes e ++ ys) 0 ≡ e
unfolding entry_at entry_bytes
entry_here e ys = refl

-- ---- all entries
pub entries_length : (entries : ℕ → Entry) (i k : ℕ) → length (entries_bytes entries i k) ≡ 4 * k
unfolding entry_bytes
entries_length entries i k = join_length (λ d. entry_bytes (entries d)) 4 (λ d. refl) i k

pub entry_back : (entries : ℕ → Entry) (ys : List ℕ) (i k j : ℕ) → j < k → entry_at (entries_bytes entries i k ++ ys)
    (4 * j) ≡ entries (i + j)
entry_back entries ys i k j h =
    let here = entry_bytes (entries (i + j)) in
    let before = entries_bytes entries i j in
    let after = entries_bytes entries (suc (i + j)) (k - suc j) in
    let place : 4 * j ≡ length before + 0 = omega (arith, entries_length entries i j) in
    ap (λ (l : List ℕ). entry_at (l ++ ys) (4 * j)) (join_at (λ d. entry_bytes (entries d)) i k j h)
    ∙ rw (append_assoc before (here ++ after) ys, append_assoc here after ys, place)
    (entry_past before (here ++ (after ++ ys)) 0 ∙ entry_here (entries (i + j)) (after ++ ys))

-- ---- the image
pub image_length : (w : ℕ) (st : Status) → length (image_of w st) ≡ image_size w
unfolding image_of
image_length w st = length-append (entries_bytes st.entries 0 (8 * w)) (bytes_le w st.on)
    ∙ omega (arith, entries_length st.entries 0 (8 * w), bytes_length w st.on)

pub image_entry : (w : ℕ) (st : Status) (k : ℕ) → k < 8 * w → entries_of w (image_of w st) k ≡ st.entries k
unfolding image_of entries_of
image_entry w st k h =
    let z : 0 + k ≡ k = omega arith in
    below_in (8 * w) no_entry _ k h ∙ entry_back st.entries (bytes_le w st.on) 0 (8 * w) k h ∙ ap st.entries z

pub image_on : (w : ℕ) (st : Status) → st.on < 2 ^ (8 * w) → read_le w (image_of w st) (32 * w) ≡ st.on
unfolding image_of
image_on w st h =
    let a = entries_bytes st.entries 0 (8 * w) in
    ap (λ (l : List ℕ). read_le w l (32 * w)) (sym (append-nil (a ++ bytes_le w st.on)))
    ∙ read_bytes_at w st.on a [] (32 * w) (entries_length st.entries 0 (8 * w) ∙ omega arith)
    ∙ mod-eq_of_lt (rw (bytes_bits w) h)

-- what is read back is the status, where numbers from 8w on stand for nothing
pub status_image : (w : ℕ) (st : Status) → st.on < 2 ^ (8 * w) → ((k : ℕ) → 8 * w ≤ k → st.entries k ≡ no_entry)
    → status_of w (image_of w st) ≡ st
unfolding status_of
status_image w st h out =
    let es : entries_of w (image_of w st) ≡ st.entries =
    fun_ext (λ k. decide (ltb k (8 * w)) (λ e. image_entry w st k (ltb-true _ _ e))
    (λ e. unfold entries_of in (below_out (8 * w) no_entry _ k (ltb-false _ _ e) ∙ sym (out k (ltb-false _ _ e))))) in
    rw (es, image_on w st h) refl
