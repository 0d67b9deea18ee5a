-- One phase of a list: how a turn of the loop shortens `take_phase`.
use mathlib.Core.Path.{◌≡◌, refl, sym, ap, ◌∙◌}
use mathlib.Core.Bool.{Bool, true, false, ◌||◌}
use mathlib.Core.List.{List, ◌∷◌}
use Rattle.std.proofs.lemmas.List.{nil_from_length}
use Prim.Native.Nat.{ℕ, ◌^◌, ◌≤◌, ◌<◌}
use native.Mathlib.Omega.{arith}
use borrow.Author.Tests.{eq-eqb, ne_eqb}
use lib.ListN.{length}
use Rattle.sets.specs.Sets.{member, minus, single}
use Rattle.sets.proofs.Laws.{member_below, minus_lt}
use Rattle.rules.specs.Station.{Station, count_r}
use Rattle.rules.specs.Calls.{call_of}
use Rattle.rules.specs.Check.{Rest, left, refused, may_come}
use Rattle.laws.proofs.Tests.{both_true}
use Rattle.laws.proofs.Take.{take_stop, take_short, take_bad, take_one}
use Rattle.table.specs.Layout.{WellSized}
use Rattle.table.proofs.Readers.{resources_few}
use Rattle.calls.specs.Switch.{switch_word}
use Rattle.std.specs.Prelude.{Option, Some, None, is_none, unwrap_or}
use Rattle.switching.specs.Decode.{switched}
use Rattle.switching.specs.Phases.{follows, take_phase, comes_next}
use Rattle.switching.proofs.Switched.{come_none, come_names, come_is}

-- ---- what is still to be switched, and the last resource if any
module _ (s : Station) (off : Bool) (todo : ℕ) (last : Option ℕ) where
  -- one that may is one of the table's, and a set's word has a bit for it
  module _ (r : ℕ) (m : true ≡ comes_next s off todo last r) where
    pub next_below : (n : ℕ) → todo < 2 ^ n → r < n
    unfolding comes_next
    next_below n u = member_below n todo r u (both_true (member todo r) (is_none last || follows s off (unwrap_or last 0) r) (sym m)).0

    pub next_bit : (t : List ℕ) → WellSized t → todo < 2 ^ count_r t → r < 64
    next_bit t z u = omega (arith, resources_few t z, next_below (count_r t) u)

  -- what is to come of the list ws gives v
  module _ (ws : List ℕ) (v : Rest) (inv : take_phase s off todo last ws ≡ v) where
    pub phase_done : todo ≤ 0 → left ws ≡ v
    phase_done h = sym (take_stop _ _ todo (is_none last) (unwrap_or last 0) ws (eq-eqb todo 0 (omega arith))) ∙ inv

    pub phase_short : 0 < todo → length ws ≡ 0 → refused ≡ v
    phase_short k h =
        sym (take_short _ _ todo (is_none last) (unwrap_or last 0) (ne_eqb todo 0 (omega arith))) ∙ rw (nil_from_length ws h) at inv

  -- w is the first word of it
  module _ (w : ℕ) (rest : List ℕ) (v : Rest) (inv : take_phase s off todo last (w ∷ rest) ≡ v) (k : 0 < todo) where
    stops : may_come (switch_word off) (follows s off) todo (is_none last) (unwrap_or last 0) w ≡ false → refused ≡ v
    stops m = sym (take_bad _ _ todo (is_none last) (unwrap_or last 0) w rest (ne_eqb todo 0 (omega arith)) m) ∙ inv

    pub phase_other : None ≡ switched off (call_of w) → refused ≡ v
    phase_other e = stops (come_none s off todo last w (sym e))

    -- and switches r, a number of one byte
    module _ (n r : ℕ) (e : Some n ≡ switched off (call_of w)) (byte : (r ≡ n) × (r < 256)) where
      says : switched off (call_of w) ≡ Some r
      says = sym e ∙ ap Some (sym byte.0)

      pub phase_bad : false ≡ comes_next s off todo last r → refused ≡ v
      phase_bad z = stops (come_is s off todo last w r byte.1 says ∙ sym z)

      pub phase_next : (after : ℕ) → true ≡ comes_next s off todo last r → after ≡ minus todo (single r)
          → take_phase s off after (Some r) rest ≡ v
      phase_next after z p =
          sym (take_one _ _ todo (is_none last) (unwrap_or last 0) w rest (ne_eqb todo 0 (omega arith)) (come_is s off todo last w r byte.1 says ∙ sym z)
          ∙ rw (come_names s off todo last w r byte.1 says, ← p) refl)
          ∙ inv

pub rest_small : (n todo rest x : ℕ) → rest ≡ minus todo x → todo < 2 ^ n → rest < 2 ^ n
rest_small n todo rest x e h = rw e (minus_lt _ _ _ h)

pub ruleset phases = (phase_done, phase_short, phase_other, phase_bad, phase_next, next_below, next_bit, rest_small)
