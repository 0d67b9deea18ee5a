-- A number of j + k bytes by its low and its high part, and so a number of twice k bytes by two of k.
use mathlib.Core.Path.{◌≡◌, refl, sym, ap, ap₂, ◌∙◌}
use mathlib.Core.List.{List, ◌∷◌, ◌++◌}
use Prim.Native.Nat.{ℕ, zero, suc, ◌+◌, ◌*◌, ◌/◌, ◌%◌, ◌^◌, ◌≤◌}
use native.Mathlib.Nat.{pow-suc, mul_comm, mul_assoc, suc-add, zero-add, add-zero, div-one, div-div-eq-div-mul}
use native.Mathlib.Omega.{arith}
use lib.ListN.{length}
use Rattle.words.specs.Words.{read_le, bytes_le, put}
use Rattle.words.proofs.Put.{put_put}
use Rattle.words.proofs.Laws.{mod_suc, bytes_length}

pub read_split : (j k : ℕ) (s : List ℕ) (at : ℕ) → read_le (j + k) s at ≡ read_le j s at + 256 ^ j * read_le k s (at + j)
unfolding read_le
read_split zero k s at = rw (zero-add k, add-zero at) (omega arith)
read_split (suc j) k s at =
    let r = read_le k s (at + 1 + j) in
    let ix : read_le k s (at + suc j) ≡ r = ap (read_le k s) (omega arith) in
    let pw : 256 ^ suc j * r ≡ 256 * (256 ^ j * r) = ap (λ (m : ℕ). m * r) (pow-suc 256 j ∙ mul_comm (256 ^ j) 256)
    ∙ mul_assoc 256 (256 ^ j) r in
    rw (suc-add j k, ix) (omega (arith, read_split j k s (at + 1)))

-- only the k low bytes count
pub bytes_low : (k x : ℕ) → bytes_le k (x % 256 ^ k) ≡ bytes_le k x
unfolding bytes_le
bytes_low zero x = refl
bytes_low (suc k) x =
    ap₂ (λ (a b : ℕ). a ∷ bytes_le k b) (omega (arith, mod_suc k x)) (omega (arith, mod_suc k x)) ∙ ap (λ (l : List ℕ). x % 256 ∷ l)
    (bytes_low k (x / 256))

pub bytes_split : (j k x : ℕ) → bytes_le (j + k) x ≡ bytes_le j x ++ bytes_le k (x / 256 ^ j)
unfolding bytes_le
bytes_split zero k x = rw (zero-add k, div-one x)
bytes_split (suc j) k x =
    rw (suc-add j k, bytes_split j k (x / 256), div-div-eq-div-mul x 256 (256 ^ j), mul_comm 256 (256 ^ j), ← pow-suc 256 j)

-- two reads, as the code makes them
pub read_twice : (k : ℕ) (s : List ℕ) (at a b : ℕ) → a ≡ read_le k s at → b ≡ read_le k s (at + k) → a + 256 ^ k * b ≡ read_le (k + k) s at
read_twice k s at a b e f = ap₂ (λ (x y : ℕ). x + 256 ^ k * y) e f ∙ sym (read_split k k s at)

-- two stores, as the code makes them
pub put_twice : (k : ℕ) (d l m : List ℕ) (at x : ℕ) → at + k ≤ length d → l ≡ put d at (bytes_le k (x % 256 ^ k))
    → m ≡ put l (at + k) (bytes_le k (x / 256 ^ k))
    → m ≡ put d at (bytes_le (k + k) x)
put_twice k d l m at x h e f =
    let n = bytes_length k x in
    let second = put_put d at (bytes_le k x) (bytes_le k (x / 256 ^ k)) (omega arith) in
    rw (f, e, bytes_low k x, bytes_split k k x) (rw n at second)
