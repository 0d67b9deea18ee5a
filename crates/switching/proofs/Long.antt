-- A list that conforms has at most R words more than own calls: each phase has as many as its set has members, and no resource is in both.
use mathlib.Core.Path.{◌≡◌, sym, ap, ◌∙◌}
use mathlib.Core.Bool.{Bool, true, false}
use mathlib.Core.List.{List, map}
use Prim.Native.Nat.{ℕ, ◌+◌, ◌^◌, ◌≤◌, ◌<◌}
use native.Mathlib.Omega.{arith}
use lib.ListN.{length, length-append, length-map}
use Rattle.sets.specs.Sets.{minus}
use Rattle.sets.proofs.Laws.{minus_lt}
use Rattle.rules.specs.declared.Call.{Call}
use Rattle.rules.specs.Station.{Station}
use Rattle.rules.specs.Calls.{earlier, sort, order_in, rising, word_of, to_turn_on, to_turn_off}
use Rattle.rules.specs.Conforms.{EachOnce, Conforms}
use Rattle.rules.specs.Check.{on_word, off_word, first_calls, last_calls}
use Rattle.laws.proofs.Sort.{times_sort, length_sort, sort_sorted, unique}
use Rattle.laws.proofs.Order.{earlier_order, rising_sorted, rising_once}
use Rattle.laws.proofs.Conform.{by_phase, Switchable}
use Rattle.switching.proofs.Made.{minus_disjoint}
use Rattle.switching.proofs.Run.{rising_fit}

-- a list with each member once is as long as the set's own
pub once_long : (s : Station) (m : ℕ) (l : List ℕ) → m < 2 ^ s.resources → EachOnce m l → length l ≡ length (rising s m)
unfolding EachOnce
once_long s m l h o =
    let before = earlier (order_in s) in
    let order = earlier_order (order_in s) in
    sym (length_sort before l)
    ∙ ap length (unique before order (sort before l) (rising s m) (sort_sorted before order l) (rising_sorted s m)
    (λ r. times_sort before r l ∙ o r ∙ sym (rising_once s m h r)))

ends_long : (last : Bool) (own : List Call)
    → length (map word_of (first_calls last own)) + length (map word_of (last_calls last own)) ≡ length own
unfolding first_calls last_calls
ends_long true own = omega (arith, length-map own word_of)
ends_long false own = omega (arith, length-map own word_of)

pub conforms_long : (s : Station) (own : List Call) (last : Bool) (on target : ℕ) → Switchable s own on target → (ws : List ℕ)
    → Conforms s own last on target ws → length ws ≤ length own + s.resources
unfolding to_turn_on to_turn_off
conforms_long s own last on target able ws c =
    let first = map word_of (first_calls last own) in
    let final = map word_of (last_calls last own) in
    let a = map on_word c.ons in
    let b = map off_word c.offs in
    let whole : length ws ≡ length first + (length a + (length b + (length final + 0))) =
    ap length (c.whole ∙ by_phase last own c.ons c.offs) ∙ simp length-append in
    omega (
      arith,
      ends_long last own,
      length-map c.ons on_word,
      length-map c.offs off_word,
      once_long s (minus target on) c.ons (minus_lt _ target on able.end) c.ons_once,
      once_long s (minus on target) c.offs (minus_lt _ on target able.start) c.offs_once,
      rising_fit s (minus target on) (minus on target) (minus_disjoint target on),
    )
