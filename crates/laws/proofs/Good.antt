-- Whether every field of a list is good, as one test: by the first bad one, of two lists joined, field by field; and that the width has no
-- part in whether a device's values are.
use mathlib.Core.Path.{◌≡◌, refl, sym}
use mathlib.Core.Bool.{true, ◌&&◌, and_assoc}
use mathlib.Core.List.{List, [], ◌∷◌, ◌++◌}
use Prim.Native.Nat.{ℕ, ◌<◌}
use native.Mathlib.Omega.{arith}
use borrow.Author.Tests.{eq-eqb, ne_eqb}
use lib.Dec.{eqb}
use Rattle.sets.proofs.Laws.{decide}
use Rattle.rules.specs.Index.{each_from}
use Rattle.rules.specs.Station.{Device}
use Rattle.rules.specs.Table.{Field, first_bad, all_good, head_fields, set_fields, sxd_fields, sxw_fields, deepest_fields, value_fields}
use Rattle.laws.specs.Carried.{All}
use Rattle.laws.proofs.Tests.{both_true, and-true}

-- no bad field: all are good, since each starts before the end
pub none_bad : (end : ℕ) (fs : List Field) → All (λ f. f.at < end) fs → eqb (first_bad end fs) end ≡ all_good fs
unfolding first_bad all_good All
none_bad end [] a = eq-eqb end end refl
none_bad end (f ∷ fs) a =
    let rest = none_bad end fs a.1 in
    let h = a.0 in
    decide f.good
    (λ g. rw (g, first_bad) rest)
    (λ g. rw (g, first_bad) (ne_eqb f.at end (omega arith)))

pub joined : (l r : List Field) → all_good (l ++ r) ≡ all_good l && all_good r
unfolding all_good
joined [] r = refl
joined (f ∷ l) r = rw (joined l r) (sym (and_assoc f.good (all_good l) (all_good r)))

abbrev pub Good : Field → Type 0
Good f = f.good ≡ true

pub good_each : (fs : List Field) → all_good fs ≡ true → All Good fs
unfolding all_good All
good_each [] e = tt
good_each (f ∷ fs) e = let h = both_true f.good (all_good fs) e in (h.0, good_each fs h.1)

pub good_all : (fs : List Field) → All Good fs → all_good fs ≡ true
unfolding all_good All
good_all [] a = refl
good_all (f ∷ fs) a = and-true f.good (all_good fs) a.0 (good_all fs a.1)

-- the width says where a value stands, and not whether it is good
pub values_same : (w u resources d : ℕ) (v : Device) → all_good (value_fields w resources d v) ≡ all_good (value_fields u resources d v)
unfolding value_fields head_fields set_fields sxd_fields sxw_fields deepest_fields all_good each_from
values_same w u resources d v = refl
