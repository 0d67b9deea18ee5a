-- That the lowest and the highest bit of a number that is 1 are the lowest and the highest member.
use mathlib.Core.Path.{◌≡◌, ◌∙◌}
use mathlib.Core.Bool.{true}
use Prim.Native.Nat.{ℕ, zero, suc, ◌*◌, ◌/◌, ◌%◌, ◌^◌, ◌≤◌, ◌<◌}
use native.Mathlib.Nat.{pow-suc}
use native.Mathlib.Omega.{arith}
use borrow.Author.Tests.{eq-eqb, ne_eqb}
use Rattle.std.specs.Int.{w64, trailing_zeros}
use Rattle.std.proofs.lemmas.Nat.Bits.{bit_at-trailing_zeros}
use Rattle.sets.specs.Sets.{member, Lowest, Highest}
use Rattle.sets.proofs.Laws.{member_zero, member_suc, member_small}

pub lowest_is : (s : ℕ) → 0 < s → s < 2 ^ 64 → Lowest s (trailing_zeros w64 s) × (trailing_zeros w64 s < 64)
unfolding member
lowest_is s n h =
    let bits = bit_at-trailing_zeros w64 s n h in
    (record { inside = eq-eqb _ 1 bits.1; rest = λ k l. ne_eqb (s / 2 ^ k % 2) 1 (omega (arith, bits.2 k l)) }, bits.0)

top_member : (j s : ℕ) → 2 ^ j ≤ s → s < 2 ^ suc j → member s j ≡ true
top_member zero s h k = let one : s ≡ 1 = omega arith in rw one (member_zero 1)
top_member (suc j) s h k =
    member_suc s j ∙ top_member j (s / 2) (omega (arith, pow-suc 2 j)) (omega (arith, pow-suc 2 j, pow-suc 2 (suc j)))

pub highest_is : (s r : ℕ) → 2 ^ r ≤ s → s < 2 * 2 ^ r → Highest s r
highest_is s r h k =
    let next : s < 2 ^ suc r = omega (arith, pow-suc 2 r) in
    record { inside = top_member r s h next; rest = λ k l. member_small (suc r) s k next l }
