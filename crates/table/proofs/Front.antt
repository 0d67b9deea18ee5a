-- What a version says, and the header as runs of bytes one after the other.
use mathlib.Core.Path.{◌≡◌, refl, sym}
use mathlib.Core.Bool.{◌||◌}
use mathlib.Core.List.{List, [], ◌∷◌, ◌++◌}
use Prim.Native.Nat.{ℕ, ◌%◌, ◌^◌, ◌≤◌}
use native.Mathlib.Omega.{arith}
use lib.Dec.{eqb}
use lib.ListN.{length}
use Rattle.words.specs.Words.{bytes_le, put}
use Rattle.words.proofs.Put.{put_then}
use Rattle.words.proofs.Twice.{bytes_low}
use Rattle.rules.specs.Station.{version_good, version_width}
use Rattle.rules.specs.Table.{mark}
use Rattle.rules.specs.Describe.{header_bytes}
use Rattle.rules.proofs.Width.{version_8, version_4, wide_4, wide_8}

pub version_test : (version : ℕ) → eqb version 1 || eqb version 2 ≡ version_good version
unfolding version_good
version_test version = refl

pub width_eight : (version : ℕ) → version ≡ 2 → 8 ≡ version_width version
width_eight version e = sym (version_8 version e)

pub width_four : (version : ℕ) → (version ≡ 2 → ⊥) → 4 ≡ version_width version
width_four version n = sym (version_4 version n)

module _ (version resources devices : ℕ) (d : List ℕ) (room : 8 ≤ length d) where
  pub header_put : (a b c e l : List ℕ) → a ≡ put d 0 mark → b ≡ put a 3 (resources ∷ []) → c ≡ put b 4 (bytes_le 2 (version % 256 ^ 2))
      → e ≡ put c 6 (devices ∷ []) → l ≡ put e 7 (0 ∷ []) → l ≡ put d 0 (header_bytes version resources devices)
  unfolding header_bytes bytes_le
  header_put a b c e l o p q r s =
      let v = bytes_le 2 version in
      let p1 : b ≡ put d 0 (mark ++ resources ∷ []) = put_then d b 0 3 mark (resources ∷ []) (omega arith) refl (rw o at p) in
      let p2 : c ≡ put d 0 (mark ++ (resources ∷ []) ++ v) =
      put_then d c 0 4 (mark ++ resources ∷ []) v (omega arith) refl (rw (p1, bytes_low 2 version) at q) in
      let p3 : e ≡ put d 0 (mark ++ (resources ∷ []) ++ v ++ devices ∷ []) =
      put_then d e 0 6 (mark ++ (resources ∷ []) ++ v) (devices ∷ []) (omega arith) refl (rw p2 at r) in
      put_then d l 0 7 (mark ++ (resources ∷ []) ++ v ++ devices ∷ []) (0 ∷ []) (omega arith) refl (rw p3 at s)

pub ruleset header_laws = (version_test, width_eight, width_four, wide_4, wide_8, header_put)
