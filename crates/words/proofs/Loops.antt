-- Words into bytes and back, one at a time: what a turn of each loop adds.
use mathlib.Core.Path.{◌≡◌, refl, ap, ◌∙◌}
use mathlib.Core.List.{List, [], ◌∷◌, ◌++◌}
use Prim.Native.Nat.{ℕ, zero, suc, ◌+◌, ◌*◌, ◌≤◌, ◌<◌}
use native.Mathlib.Nat.{add-zero}
use native.Mathlib.Numerals.{add-one}
use native.Mathlib.Omega.{arith}
use lib.ListN.{length, get_or, take, drop, set}
use lib.Seq.{take-suc-set}
use Rattle.words.specs.Words.{read_le, bytes_le, put, word_bytes, byte_words}
use Rattle.words.proofs.Laws.{bytes_length, word_bytes_one, read_drop}
use Rattle.words.proofs.Put.{Emitted, emitted_none, emitted_run}

-- ---- words into bytes
module _ (d from : List ℕ) (at : ℕ) where
  pub write_starts : Emitted d (4 * at) (word_bytes (take 0 from)) d (4 * (at + 0))
  unfolding word_bytes
  write_starts = rw (add-zero at) (emitted_none d (4 * at))

  -- a turn: the next word has room, and is put after those that stand there
  module _ (l : List ℕ) (i : ℕ) (e : Emitted d (4 * at) (word_bytes (take i from)) l (4 * (at + i))) where
    pub write_room : i < length from → 4 * (at + length from) ≤ length d → 4 * (at + i) + 4 ≤ length l
    write_room h k = omega (arith, e.long)

    pub write_next : i < length from → 4 * (at + length from) ≤ length d → (l' : List ℕ)
        → l' ≡ put l (4 * (at + i)) (bytes_le 4 (get_or from i 0))
        → Emitted d (4 * at) (word_bytes (take (i + 1) from)) l' (4 * (at + (i + 1)))
    write_next h k l' p =
        let w = bytes_le 4 (get_or from i 0) in
        let size = bytes_length 4 (get_or from i 0) in
        rw (word_bytes_one from i h) (emitted_run w e (omega arith, p) (omega arith))

pub ruleset writing = (write_starts, write_room, write_next)

-- ---- bytes into words
words_snoc : (n : ℕ) (s : List ℕ) → byte_words (suc n) s ≡ byte_words n s ++ read_le 4 s (4 * n) ∷ []
unfolding byte_words
words_snoc zero s = refl
words_snoc (suc n) s =
    let rest = words_snoc n (drop 4 s) in
    let i : 4 + 4 * n ≡ 4 * suc n = omega arith in
    ap (λ (l : List ℕ). read_le 4 s 0 ∷ l) (rest ∙ ap (λ (x : ℕ). byte_words n (drop 4 s) ++ x ∷ []) (read_drop 4 s 4 (4 * n)
    ∙ ap (read_le 4 s) i))

pub read_starts : (from : List ℕ) → [] ≡ byte_words 0 from
unfolding byte_words
read_starts from = refl

pub read_next : (l from : List ℕ) (i w : ℕ) → take i l ≡ byte_words i from → w ≡ read_le 4 from (4 * i) → i < length l
    → take (i + 1) (set l i w) ≡ byte_words (i + 1) from
read_next l from i w e f h = rw (add-one i, words_snoc i from, ← f, ← e) (take-suc-set l i w h)

pub ruleset reading = (read_starts, read_next)
