-- Numbers as bytes and back, over the count of bytes, and lists of 32-bit words as bytes and back.
use mathlib.Core.Path.{◌≡◌, refl, sym, ap, ap₂, ◌∙◌}
use mathlib.Core.List.{List, [], ◌∷◌, ◌++◌, append_assoc, append-nil}
use Prim.Native.Nat.{ℕ, zero, suc, ◌+◌, ◌-◌, ◌*◌, ◌/◌, ◌%◌, ◌^◌, ◌≤◌, ◌<◌}
use native.Mathlib.Nat.{div-one, div-div-eq-div-mul, pow-suc, add-zero, mod-one, mod-eq_of_lt, one-le-pow, zero-lt-suc}
use native.Mathlib.Numerals.{add-one}
use native.Mathlib.Omega.{arith}
use lib.Arith.{mod-mul}
use lib.ListN.{length, get_or, take, drop, length-append, length-drop, take-append-drop, get_or-append}
use lib.Seq.{get_or-drop, length-take-le, drop_at, take-suc}
use Rattle.std.specs.Array.{IsWholeChunk}
use Rattle.std.specs.Int.{bytes_low_first}
use Rattle.words.specs.Words.{read_le, bytes_le, put, word_bytes, byte_words}
use Rattle.words.proofs.Below.{below_append, below_take, below_drop}

-- ---- where a number is read

pub read_drop : (k : ℕ) (s : List ℕ) (n i : ℕ) → read_le k (drop n s) i ≡ read_le k s (n + i)
unfolding read_le
read_drop zero s n i = refl
read_drop (suc k) s n i =
    ap₂ (λ (a b : ℕ). a + 256 * b) (get_or-drop n s i 0) (read_drop k s n (i + 1) ∙ ap (read_le k s) (omega arith))

pub read_append : (k : ℕ) (p q : List ℕ) (at : ℕ) → at + k ≤ length p → read_le k (p ++ q) at ≡ read_le k p at
unfolding read_le
read_append zero p q at h = refl
read_append (suc k) p q at h =
    ap₂ (λ (a b : ℕ). a + 256 * b) (get_or-append p q 0 at (omega arith)) (read_append k p q (at + 1) (omega arith))

pub read_past : (k : ℕ) (p q : List ℕ) (n i : ℕ) → length p ≡ n → read_le k (p ++ q) (n + i) ≡ read_le k q i
read_past k p q n i e = sym (read_drop k (p ++ q) n i) ∙ rw (drop_at p q n e)

-- the k bytes from `at` on, as an array
pub read_chunk : (k : ℕ) (s b : List ℕ) (at : ℕ) → at + k ≤ length s → IsWholeChunk (take (at + k - at) (drop at s)) b k
    → read_le k b 0 ≡ read_le k s at
read_chunk k s b at h whole =
    let size : at + k - at ≡ k = omega arith in
    let rest = drop k (drop at s) in
    let both : b ++ rest ≡ drop at s = rw (whole.same, size) (take-append-drop k (drop at s)) in
    let long : length b ≡ k = rw whole.same whole.long in
    sym (read_append k b rest 0 (omega arith)) ∙ rw both (read_drop k s at 0) ∙ ap (read_le k s) (add-zero at)

pub read_lt : (k : ℕ) (s : List ℕ) (at : ℕ) → ((i : ℕ) → get_or s i 0 < 256) → read_le k s at < 256 ^ k
unfolding read_le
read_lt zero s at h = omega arith
read_lt (suc k) s at h = omega (arith, h at, read_lt k s (at + 1) h, pow-suc 256 k)

-- ---- the bytes of a number

pub bytes_length : (k x : ℕ) → length (bytes_le k x) ≡ k
unfolding bytes_le
bytes_length zero x = refl
bytes_length (suc k) x = ap suc (bytes_length k (x / 256))

pub bytes_lt : (k x i : ℕ) → get_or (bytes_le k x) i 0 < 256
unfolding bytes_le
bytes_lt zero x i = omega arith
bytes_lt (suc k) x zero = omega arith
bytes_lt (suc k) x (suc i) = bytes_lt k (x / 256) i

-- x's low byte and the rest, of its k + 1 low bytes
pub mod_suc : (k x : ℕ) → x % 256 ^ suc k ≡ x / 256 % 256 ^ k * 256 + x % 256
mod_suc k x = ap (λ (m : ℕ). x % m) (pow-suc 256 k) ∙ mod-mul x (one-le-pow k 256 (zero-lt-suc 255)) (zero-lt-suc 255)

-- the bytes that the library's `to_le_bytes` gives
low_first : (i k x : ℕ) → bytes_low_first i k x ≡ bytes_le k (x / 256 ^ i)
unfolding bytes_le
low_first i zero x = refl
low_first zero (suc k) x =
    rw (div-one x) (ap (λ (l : List ℕ). x % 256 ∷ l) (low_first 1 k x))
low_first (suc i) (suc k) x =
    let m = 256 ^ suc i in
    let rest : x / 256 ^ suc (suc i) ≡ x / m / 256 = sym (div-div-eq-div-mul x m 256 ∙ ap (λ (n : ℕ). x / n) (sym (pow-suc 256 (suc i)))) in
    ap (λ (l : List ℕ). x / m % 256 ∷ l) (low_first (suc (suc i)) k x ∙ ap (bytes_le k) rest)

pub le_bytes : (k x : ℕ) → bytes_low_first 0 k x ≡ bytes_le k x
le_bytes k x = low_first 0 k x ∙ ap (bytes_le k) (div-one x)

-- ---- there and back

pub read_bytes : (k x : ℕ) → read_le k (bytes_le k x) 0 ≡ x % 256 ^ k
unfolding read_le bytes_le
read_bytes zero x = sym (mod-one x)
read_bytes (suc k) x =
    let rest = sym (read_drop k (x % 256 ∷ bytes_le k (x / 256)) 1 0) ∙ read_bytes k (x / 256) in
    omega (arith, mod_suc k x)

pub read_bytes_at : (k x : ℕ) (p q : List ℕ) (n : ℕ) → length p ≡ n → read_le k (p ++ bytes_le k x ++ q) n ≡ x % 256 ^ k
read_bytes_at k x p q n e =
    let b = bytes_le k x in
    read_append k (p ++ b) q n (omega (arith, length-append p b, bytes_length k x))
    ∙ ap (read_le k (p ++ b)) (sym (add-zero n)) ∙ read_past k p b n 0 e ∙ read_bytes k x

pub read_put : (k x : ℕ) (d : List ℕ) (at : ℕ) → at ≤ length d → read_le k (put d at (bytes_le k x)) at ≡ x % 256 ^ k
unfolding put
read_put k x d at h = read_bytes_at k x (take at d) (drop (at + length (bytes_le k x)) d) at (length-take-le at d h)

pub bytes_read : (k : ℕ) (s : List ℕ) → length s ≡ k → ((i : ℕ) → get_or s i 0 < 256) → bytes_le k (read_le k s 0) ≡ s
unfolding read_le bytes_le
bytes_read zero [] e h = refl
bytes_read zero (a ∷ s) e h = absurd (omega arith)
bytes_read (suc k) [] e h = absurd (omega arith)
bytes_read (suc k) (a ∷ s) e h =
    let rest = sym (read_drop k (a ∷ s) 1 0) in
    ap₂ (λ (x y : ℕ). x ∷ bytes_le k y) (omega (arith, h 0)) (omega (arith, h 0))
    ∙ ap (λ (l : List ℕ). a ∷ l) (bytes_read k s (omega arith) (λ i. h (suc i)))

-- ---- words as bytes

pub word_bytes_length : (ws : List ℕ) → length (word_bytes ws) ≡ 4 * length ws
unfolding word_bytes
word_bytes_length [] = refl
word_bytes_length (w ∷ ws) = simp length-append (omega (arith, bytes_length 4 w, word_bytes_length ws))

pub word_bytes_append : (xs ys : List ℕ) → word_bytes (xs ++ ys) ≡ word_bytes xs ++ word_bytes ys
unfolding word_bytes
word_bytes_append [] ys = refl
word_bytes_append (x ∷ xs) ys = rw (word_bytes_append xs ys) (sym (append_assoc (bytes_le 4 x) (word_bytes xs) (word_bytes ys)))

-- one word more: a turn of a loop that writes words as bytes
pub word_bytes_one : (ws : List ℕ) (i : ℕ) → i < length ws → word_bytes (take (i + 1) ws) ≡ word_bytes (take i ws) ++ bytes_le 4 (get_or ws i 0)
unfolding word_bytes
word_bytes_one ws i h =
    rw (add-one i, take-suc ws i 0 h)
    (word_bytes_append (take i ws) (get_or ws i 0 ∷ []) ∙ ap (λ (l : List ℕ). word_bytes (take i ws) ++ l)
    (append-nil (bytes_le 4 (get_or ws i 0))))

pub word_bytes_lt : (ws : List ℕ) (i : ℕ) → get_or (word_bytes ws) i 0 < 256
unfolding word_bytes
word_bytes_lt [] i = omega arith
word_bytes_lt (w ∷ ws) i = below_append 256 (bytes_le 4 w) (word_bytes ws) (bytes_lt 4 w) (word_bytes_lt ws) i

-- ---- bytes as words

pub byte_words_length : (n : ℕ) (s : List ℕ) → length (byte_words n s) ≡ n
unfolding byte_words
byte_words_length zero s = refl
byte_words_length (suc n) s = ap suc (byte_words_length n (drop 4 s))

pub get_word : (n : ℕ) (s : List ℕ) (i : ℕ) → i < n → get_or (byte_words n s) i 0 ≡ read_le 4 s (4 * i)
unfolding byte_words
get_word zero s i h = absurd (omega arith)
get_word (suc n) s zero h = refl
get_word (suc n) s (suc i) h = get_word n (drop 4 s) i (omega arith) ∙ read_drop 4 s 4 (4 * i) ∙ ap (read_le 4 s) (omega arith)

pub words_of_bytes : (ws : List ℕ) → ((i : ℕ) → get_or ws i 0 < 2 ^ 32) → byte_words (length ws) (word_bytes ws) ≡ ws
unfolding word_bytes byte_words
words_of_bytes [] h = refl
words_of_bytes (w ∷ ws) h =
    let b = bytes_le 4 w in
    let r : read_le 4 (b ++ word_bytes ws) 0 ≡ w = read_append 4 b (word_bytes ws) 0 (omega (arith, bytes_length 4 w)) ∙ read_bytes 4 w
    ∙ mod-eq_of_lt (h 0) in
    rw (r, drop_at b (word_bytes ws) 4 (bytes_length 4 w), words_of_bytes ws (λ i. h (suc i)))

pub bytes_of_words : (n : ℕ) (s : List ℕ) → length s ≡ 4 * n → ((i : ℕ) → get_or s i 0 < 256) → word_bytes (byte_words n s) ≡ s
unfolding word_bytes byte_words
bytes_of_words zero [] e h = refl
bytes_of_words zero (a ∷ s) e h = absurd (omega arith)
bytes_of_words (suc n) s e h =
    let t = take 4 s in
    let lt : length t ≡ 4 = length-take-le 4 s (omega arith) in
    let r : read_le 4 s 0 ≡ read_le 4 t 0 = ap (λ (l : List ℕ). read_le 4 l 0) (sym (take-append-drop 4 s))
    ∙ read_append 4 t (drop 4 s) 0 (omega arith) in
    rw (bytes_of_words n (drop 4 s) (simp length-drop (omega arith)) (below_drop 256 4 s h), r, bytes_read 4 t lt (below_take 256 4 s h))
    (take-append-drop 4 s)
