-- The width of a version, and so of a table: 8 of version 2, 4 of any other, and always one that a table can have. Only the readers and
-- writers of records, tables and images ask which.
use mathlib.Core.Path.{◌≡◌, refl}
use mathlib.Core.List.{List}
use Prim.Native.Nat.{ℕ}
use native.Mathlib.Omega.{arith}
use lib.Dec.{eqb}
use borrow.Author.Tests.{eq-eqb, ne_eqb}
use Rattle.sets.proofs.Laws.{decide}
use Rattle.rules.specs.Station.{version_of, version_width, width, Wide}

pub version_8 : (version : ℕ) → version ≡ 2 → version_width version ≡ 8
unfolding version_width
version_8 version e = rw (eq-eqb version 2 e) refl

pub version_4 : (version : ℕ) → (version ≡ 2 → ⊥) → version_width version ≡ 4
unfolding version_width
version_4 version n = rw (ne_eqb version 2 n) refl

pub wide_4 : Wide 4
wide_4 = record { low = omega arith; high = omega arith; fours = refl }

pub wide_8 : Wide 8
wide_8 = record { low = omega arith; high = omega arith; fours = refl }

pub version_wide : (version : ℕ) → Wide (version_width version)
unfolding version_width
version_wide version = decide (eqb version 2) (λ e. rw e wide_8) (λ e. rw e wide_4)

pub width_wide : (t : List ℕ) → Wide (width t)
unfolding width
width_wide t = version_wide (version_of t)
