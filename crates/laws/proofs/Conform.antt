-- The checker's test passes exactly the lists that `Conforms` describes, and the list in the usual orders is one of them, for any own
-- calls, on-set and target. From what each phase takes, and from the laws of the lists of a set's members.
use mathlib.Core.Path.{◌≡◌, refl, sym, ◌∙◌}
use mathlib.Core.Bool.{Bool, true, false, true≢false}
use mathlib.Core.List.{List, [], ◌∷◌, ◌++◌, map, map-map, map-append, append_assoc, append-nil}
use mathlib.Core.Logic.{◌↔◌}
use Prim.Native.Nat.{ℕ, ◌^◌, ◌≤◌, ◌<◌}
use native.Mathlib.Omega.{arith}
use lib.Dec.{lit<}
use Rattle.sets.specs.Sets.{minus}
use Rattle.sets.proofs.Laws.{minus_lt}
use Rattle.rules.specs.Station.{Station}
use Rattle.rules.specs.declared.Call.{Call}
use Rattle.rules.specs.Calls.{word4, word_of, to_turn_on, to_turn_off, order_in, turn_on, turn_off, arrange, switch_calls}
use Rattle.rules.specs.Conforms.{Conforms}
use Rattle.rules.specs.Check.{Rest, left, refused, and_then, resource_in, on_word, off_word, not_lower, not_higher, first_calls}
use Rattle.rules.specs.Check.{last_calls, is_end, conforming}
use Rattle.laws.specs.Carried.{All, Other}
use Rattle.laws.proofs.Chain.{chain_iff, rises_chained, falls_chained}
use Rattle.laws.proofs.Order.{turn_on_ordered, turn_off_ordered}
use Rattle.laws.proofs.Take.{not_left, take_words_at, take_words_of, take_at, take_of}

-- ---- one phase after the other, and the end

then_at : (x : Rest) (next : List ℕ → Rest) (c : List ℕ) → and_then x next ≡ left c → (b : List ℕ) × (x ≡ left b) × (next b ≡ left c)
unfolding and_then
then_at (left b) next c e = (b, refl, e)
then_at refused next c e = absurd (not_left refused c refl e)

then_of : (x : Rest) (next : List ℕ → Rest) (b c : List ℕ) → x ≡ left b → next b ≡ left c → and_then x next ≡ left c
unfolding and_then
then_of x next b c p q = rw p q

end_at : (x : Rest) → is_end x ≡ true → x ≡ left []
unfolding is_end
end_at (left []) e = refl
end_at (left (w ∷ ws)) e = absurd (true≢false (sym e))
end_at refused e = absurd (true≢false (sym e))

end_of : (x : Rest) → x ≡ left [] → is_end x ≡ true
unfolding is_end
end_of x e = rw e

-- ---- the words of an arrangement, phase by phase

ruleset regroup = (map-append, map-map, append_assoc, append-nil)

pub by_phase : (last : Bool) (own : List Call) (ons offs : List ℕ)
    → map word_of (arrange last own ons offs)
    ≡ map word_of (first_calls last own) ++ (map on_word ons ++ (map off_word offs ++ (map word_of (last_calls last own) ++ [])))
unfolding arrange first_calls last_calls
by_phase true own ons offs = simp regroup
by_phase false own ons offs = simp regroup

joined : (last : Bool) (own : List Call) (ons offs ws a b c : List ℕ)
    → ws ≡ map word_of (first_calls last own) ++ a → a ≡ map on_word ons ++ b → b ≡ map off_word offs ++ c
    → c ≡ map word_of (last_calls last own) ++ []
    → ws ≡ map word_of (arrange last own ons offs)
joined last own ons offs ws a b c p on off l = p ∙ rw (on, off, l) (sym (by_phase last own ons offs))

-- the second byte of an `_ON` or `_OFF` word
index : (kind : ℕ) → kind < 256 → (r : ℕ) → r < 256 → resource_in (word4 kind r 0 0) ≡ r
index kind h r l = omega arith

-- ---- the test and the definition

-- what the theorems ask of a switching: sets of the station's resources, each of which a byte can name, and own calls that switch none
pub record Switchable (s : Station) (own : List Call) (on target : ℕ) : Type 0 where
  pub nameable : s.resources ≤ 256
  pub start : on < 2 ^ s.resources
  pub end : target < 2 ^ s.resources
  pub other : All Other (map word_of own)

module _ (s : Station) (own : List Call) (last : Bool) (on target : ℕ) where
  -- what passes conforms, with no bound
  pub conforming_at : (ws : List ℕ) → conforming s own last on target ws ≡ true → Conforms s own last on target ws
  unfolding conforming
  conforming_at ws e =
      let a = then_at _ _ _ (end_at _ e) in
      let b = then_at _ _ _ a.2 in
      let c = then_at _ _ _ b.2 in
      let up = take_at on_word (not_lower s) a.0 (to_turn_on on target) true 0 b.0 b.1 in
      let down = take_at off_word (not_higher s) b.0 (to_turn_off on target) true 0 c.0 c.1 in
      record {
        ons = up.list;
        offs = down.list;
        whole = joined last own up.list down.list ws a.0 b.0 c.0
            (take_words_at _ ws a.0 a.1) up.whole down.whole (take_words_at _ c.0 [] c.2);
        ons_once = up.once;
        offs_once = down.once;
        ons_rise = (chain_iff _ _ (rises_chained (order_in s)) up.list).1 up.chain;
        offs_fall = (chain_iff _ _ (falls_chained (order_in s)) down.list).1 down.chain;
      }

  module _ (able : Switchable s own on target) where
    conforming_of : (ws : List ℕ) → Conforms s own last on target ws → conforming s own last on target ws ≡ true
    unfolding conforming to_turn_on to_turn_off
    conforming_of ws c =
        let n = s.resources in
        let rise = (chain_iff _ _ (rises_chained (order_in s)) c.ons).0 c.ons_rise in
        let fall = (chain_iff _ _ (falls_chained (order_in s)) c.offs).0 c.offs_fall in
        let up = take_of on_word (not_lower s) n able.nameable (index 1 (lit< tt)) c.ons (minus target on) true 0 _
        (minus_lt n target on able.end) c.ons_once rise in
        let down = take_of off_word (not_higher s) n able.nameable (index 2 (lit< tt)) c.offs (minus on target) true 0 _
        (minus_lt n on target able.start) c.offs_once fall in
        rw (c.whole ∙ by_phase last own c.ons c.offs)
        (end_of _ (then_of _ _ _ _ (take_words_of (map word_of (first_calls last own)) _)
        (then_of _ _ _ _ up (then_of _ _ _ _ down (take_words_of (map word_of (last_calls last own)) [])))))

    -- the test passes exactly if the list conforms
    pub conforming_iff : (ws : List ℕ) → (conforming s own last on target ws ≡ true) ↔ Conforms s own last on target ws
    conforming_iff ws = (conforming_at ws, conforming_of ws)

    -- the list in the orders of RULES.md 6.4 conforms
    pub calls_conform : Conforms s own last on target (map word_of (switch_calls s own last on target))
    unfolding switch_calls
    calls_conform =
        let up = turn_on_ordered s on target able.end in
        let down = turn_off_ordered s on target able.start in
        record {
          ons = turn_on s on target;
          offs = turn_off s on target;
          whole = refl;
          ons_once = up.once;
          offs_once = down.once;
          ons_rise = up.way;
          offs_fall = down.way;
        }
