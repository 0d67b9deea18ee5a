-- A switching made of an on-set and a target: it is good, and its words are those of the rules.
use mathlib.Core.Path.{◌≡◌, refl, sym}
use mathlib.Core.Bool.{Bool, false, not, ◌&&◌}
use mathlib.Core.List.{List, [], map, map-append, map-map}
use Prim.Native.Nat.{ℕ, ◌^◌, ◌≤◌, ◌<◌}
use native.Mathlib.Nat.{lt_of_lt_of_le}
use native.Mathlib.Omega.{arith}
use lib.Pow.{pow_mono}
use Rattle.sets.specs.Sets.{member, minus}
use Rattle.sets.proofs.Bits.{both}
use Rattle.sets.proofs.Laws.{member_minus, minus_lt}
use Rattle.rules.specs.declared.Call.{Call}
use Rattle.std.specs.Prelude.{Option}
use Rattle.rules.specs.Station.{Station, width, Wide, count_r}
use Rattle.rules.specs.Calls.{word_of, list_of, to_turn_on, to_turn_off, turn_on, turn_off, arrange, switch_calls, switching_of, switching_words}
use Rattle.table.specs.Layout.{WellSized}
use Rattle.calls.specs.Ranges.{OptionalInRange}
use Rattle.calls.specs.Switch.{switch_word}
use Rattle.calls.specs.Phases.{in_order, switch_words, phase_words}
use Rattle.switching.specs.Switching.{Disjoint, GoodSwitching}

-- a set of the resources of a version 1 table, whose width is w, fits 32 bits
pub narrow_fits : (t : List ℕ) (w a : ℕ) → WellSized t → w ≡ width t → Wide w → (w ≡ 8 → ⊥) → a < 2 ^ count_r t → a < 2 ^ 32
narrow_fits t w a z e h n l =
    let four : w ≡ 4 = omega arith in
    let few : count_r t ≤ 32 = omega (arith, z.resources) in
    lt_of_lt_of_le l (pow_mono few)

-- what is in one set and not in another, and the other way round
pub minus_disjoint : (x y : ℕ) → Disjoint (minus x y) (minus y x)
unfolding Disjoint
minus_disjoint x y r =
    rw (member_minus x y r, member_minus y x r)
    (both (λ (a b : Bool). (a && not b) && (b && not a) ≡ false) refl refl refl refl (member x r) (member y r))

module _ (own : Option Call) (last : Bool) (on target : ℕ) where
  pub switching_good : (t : List ℕ) → on < 2 ^ count_r t → target < 2 ^ count_r t → OptionalInRange own
      → GoodSwitching t (switching_of own last on target)
  unfolding to_turn_on to_turn_off
  switching_good t h k o =
      record {
        added = minus_lt _ target on k;
        removed = minus_lt _ on target h;
        disjoint = minus_disjoint target on;
        own = o;
      }

  pub words_are : (s : Station) → switching_words s (switching_of own last on target) ≡ map word_of (switch_calls s (list_of own) last on target)
  unfolding switching_words switch_calls turn_on turn_off
  words_are s = refl

-- without own calls, they are the words of the ONs and of the OFFs
pub phases_words : (s : Station) (on target : ℕ)
    → phase_words s (minus target on) (minus on target) ≡ map word_of (switch_calls s [] false on target)
unfolding phase_words switch_words switch_word in_order switch_calls arrange turn_on turn_off to_turn_on to_turn_off
phases_words s on target = sym (simp (map-append, map-map))
