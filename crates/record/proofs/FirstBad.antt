-- The first bad field of a list: of two lists joined, and of the fields that a loop goes through; and what its place says of the list.
use mathlib.Core.Path.{◌≡◌, refl, sym, ◌∙◌}
use mathlib.Core.Bool.{true, false, not}
use mathlib.Core.List.{List, [], ◌∷◌, ◌++◌}
use Prim.Native.Nat.{ℕ, suc, ◌+◌, ◌*◌, ◌-◌, ◌≤◌, ◌<◌}
use native.Mathlib.Nat.{sub-eq-zero_of_le}
use native.Mathlib.Numerals.{add-one}
use native.Mathlib.Omega.{arith}
use lib.Dec.{eqb}
use lib.ListN.{get_or}
use Rattle.std.specs.Prelude.{Option, Some, None, is_some}
use Rattle.std.specs.Option.{option_or, unwrap_or}
use Rattle.sets.proofs.Laws.{decide}
use Rattle.rules.specs.Index.{each_from}
use Rattle.rules.specs.Station.{Device, record_size}
use Rattle.rules.specs.Table.{Field, field, first_bad, all_good, set_good, sxd_good, sxw_good}
use Rattle.rules.specs.Table.{device_fields}
use Rattle.laws.proofs.Good.{none_bad}
use Rattle.laws.proofs.Accepted.{fields_inside}
use Rattle.record.specs.Bad.{bad_place}

-- ---- one field before others, and two lists joined
place_good : (f : Field) (fs : List Field) → f.good ≡ true → bad_place (f ∷ fs) ≡ bad_place fs
unfolding bad_place
place_good f fs e = rw e refl

place_bad : (f : Field) (fs : List Field) → f.good ≡ false → bad_place (f ∷ fs) ≡ Some f.at
unfolding bad_place
place_bad f fs e = rw e refl

pub place_joined : (l r : List Field) → bad_place (l ++ r) ≡ option_or (bad_place l) (bad_place r)
unfolding bad_place
place_joined [] r = refl
place_joined (f ∷ l) r = decide f.good (λ e. rw (e, place_joined l r) refl) (λ e. rw e refl)

-- ---- what the place says: it is where the rules' first bad field starts, and there is none where every field is good
pub place_first : (end : ℕ) (l : List Field) → first_bad end l ≡ unwrap_or (bad_place l) end
unfolding bad_place first_bad
place_first end [] = refl
place_first end (f ∷ l) = decide f.good (λ e. rw (e, place_first end l) refl) (λ e. rw e refl)

pub place_none : (l : List Field) → all_good l ≡ not (is_some (bad_place l))
unfolding bad_place all_good
place_none [] = refl
place_none (f ∷ l) = decide f.good (λ e. rw (e, place_none l) refl) (λ e. rw e refl)

-- for a device's record, the rules ask whether the first bad field is at its end
pub no_bad_field : (w resources : ℕ) (t : List ℕ) (d at : ℕ)
    → eqb (first_bad (record_size w) (device_fields w resources t d at)) (record_size w)
    ≡ not (is_some (bad_place (device_fields w resources t d at)))
no_bad_field w resources t d at = none_bad (record_size w) _ (fields_inside w resources t d at) ∙ place_none _

-- ---- a loop that is at field i of n, and is to answer v
module _ (f : ℕ → Field) (i n : ℕ) (v : Option ℕ) (inv : bad_place (each_from f i (n - i)) ≡ v) where
  step : i < n → each_from f i (n - i) ≡ f i ∷ each_from f (i + 1) (n - (i + 1))
  unfolding each_from
  step h = let k : n - i ≡ suc (n - (i + 1)) = omega arith in rw (k, add-one i) refl

  pub bad_at : i < n → (f i).good ≡ false → Some (f i).at ≡ v
  bad_at h e = sym (place_bad (f i) _ e) ∙ rw (step h) at inv

  pub good_at : i < n → (f i).good ≡ true → bad_place (each_from f (i + 1) (n - (i + 1))) ≡ v
  good_at h e = sym (place_good (f i) _ e) ∙ rw (step h) at inv

  pub none_left : n ≤ i → None ≡ v
  unfolding bad_place each_from
  none_left h = rw (sub-eq-zero_of_le h) at inv

pub ruleset bad_loop = (bad_at, good_at, none_left)

-- ---- the fields that a loop goes through
abbrev pub set_field : ℕ → ℕ → Device → ℕ → Field
set_field w resources v k = field (4 + w * k) (set_good resources v k)

abbrev pub sxd_field : ℕ → Device → ℕ → Field
sxd_field w v k = field (4 + 5 * w + k) (sxd_good v (k + 1))

abbrev pub sxw_field : ℕ → Device → ℕ → Field
sxw_field w v x = field (8 + 5 * w + x) (sxw_good v x)

abbrev pub zero_field : ℕ → List ℕ → ℕ → ℕ → Field
zero_field w t at k = field (14 + 5 * w + k) (eqb (get_or t (at + 14 + 5 * w + k) 0) 0)
