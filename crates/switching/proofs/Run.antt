-- The plan as runs of words that follow one another: the own call's, the ONs' and the OFFs'. Two sets with no resource in common have at
-- most R words.
use mathlib.Core.Path.{◌≡◌, refl, sym, ap, ◌∙◌}
use mathlib.Core.Bool.{true, false}
use mathlib.Core.List.{List, [], ◌∷◌, ◌++◌, map, map-append, map-map, append_assoc}
use Prim.Native.Nat.{ℕ, zero, suc, ◌+◌, ◌≤◌, ◌<◌}
use native.Mathlib.Omega.{arith}
use lib.ListN.{length, length-append, length-map, set}
use Rattle.sets.specs.Sets.{member}
use Rattle.sets.proofs.Laws.{decide}
use Rattle.words.specs.Words.{put}
use Rattle.words.proofs.Put.{put_none, put_put, length_put, sets_put}
use Rattle.rules.specs.Station.{Station, width, count_r, station_of, station}
use Rattle.rules.specs.declared.Call.{Call}
use Rattle.std.specs.Prelude.{Option, Some, None}
use Rattle.rules.specs.declared.Switching.{Switching}
use Rattle.rules.specs.Calls.{word_of, list_of, members_from, earlier, order_in, rising, arrange, switching_words}
use Rattle.rules.specs.Outcomes.{list_room}
use Rattle.laws.proofs.Sort.{length_sort}
use Rattle.table.specs.Layout.{WellSized}
use Rattle.calls.specs.Ranges.{OptionalInRange}
use Rattle.calls.specs.Switch.{switch_word}
use Rattle.calls.specs.Phases.{in_order, switch_words, phase_words}
use Rattle.calls.proofs.Keys.{switch_long}
use Rattle.switching.specs.Switching.{Disjoint, GoodSwitching}

-- ---- the own call's word

pub own_room : (o : Option Call) (c : Call) (at n : ℕ) → at + length (list_of o) ≤ n → o ≡ Some c → at < n
unfolding list_of
own_room o c at n h e = omega (arith, rw e at h)

pub own_word : (o : Option Call) (c : Call) (w at : ℕ) (d : List ℕ) → at + length (list_of o) ≤ length d → o ≡ Some c → w ≡ word_of c
    → (at + 1 ≡ at + length (map word_of (list_of o))) × (set d at w ≡ put d at (map word_of (list_of o)))
unfolding list_of
own_word o c w at d h e f = rw (e, f) (refl, sets_put d at (word_of c ∷ []) (rw e at h))

pub no_own_word : (o : Option Call) (at : ℕ) (d : List ℕ) → o ≡ None → (at ≡ at + length (map word_of (list_of o)))
    × (d ≡ put d at (map word_of (list_of o)))
unfolding list_of
no_own_word o at d e = rw e (omega arith, sym (put_none d at))

-- ---- one run after another, as two calls' `ensures` give them: the place after both, and what both have put

module _ (d : List ℕ) (at p : ℕ) (xs ys ws : List ℕ) (w : ws ≡ xs ++ ys) (e : p ≡ at + length xs) where
  both_long : length ws ≡ length xs + length ys
  both_long = ap length w ∙ length-append xs ys

  pub run_place : (r : ℕ) → r ≡ p + length ys → r ≡ at + length ws
  run_place r f = omega (arith, both_long)

  pub run_put : (l m : List ℕ) → at + length ws ≤ length d → l ≡ put d at xs → m ≡ put l p ys → m ≡ put d at ws
  run_put l m h f g = rw (g, f, e, w) (put_put d at xs ys (omega (arith, both_long)))

-- ---- the ONs and the OFFs

pub phase_is : (s : Station) (on off : ℕ) → phase_words s on off ≡ switch_words false s on ++ switch_words true s off
unfolding phase_words
phase_is s on off = refl

phase_long : (s : Station) (on off : ℕ) → length (phase_words s on off) ≡ length (switch_words false s on) + length
    (switch_words true s off)
unfolding phase_words
phase_long s on off = length-append (switch_words false s on) (switch_words true s off)

module _ (s : Station) (on off at : ℕ) (d : List ℕ) (h : at + length (phase_words s on off) ≤ length d) where
  pub turn_on_room : at + length (switch_words false s on) ≤ length d
  turn_on_room = omega (arith, phase_long s on off)

  pub turn_off_room : (p : ℕ) (l : List ℕ) → p ≡ at + length (switch_words false s on) → l ≡ put d at (switch_words false s on)
      → p + length (switch_words true s off) ≤ length l
  turn_off_room p l e f = rw f (omega (arith, phase_long s on off, length_put d at (switch_words false s on) turn_on_room))

pub ruleset phase_runs = (run_place, run_put, phase_is, turn_on_room, turn_off_room)

-- ---- their lengths

members_fit : (a b i k : ℕ) → Disjoint a b → length (members_from a i k) + length (members_from b i k) ≤ k
unfolding members_from Disjoint
members_fit a b i zero h = omega arith
members_fit a b i (suc k) h =
    let ih = members_fit a b (suc i) k h in
    decide (member a i)
    (λ p. rw (p, rw p at (h i)) (omega arith))
    (λ p. rw p (decide (member b i) (λ q. rw q (omega arith)) (λ q. rw q (omega arith))))

-- two sets with no resource in common have at most R resources together
pub rising_fit : (s : Station) (a b : ℕ) → Disjoint a b → length (rising s a) + length (rising s b) ≤ s.resources
unfolding rising
rising_fit s a b h =
    let n = s.resources in
    let before = earlier (order_in s) in
    omega (arith, length_sort before (members_from a 0 n), length_sort before (members_from b 0 n), members_fit a b 0 n h)

pub phase_fits : (t : List ℕ) (on off : ℕ) → Disjoint on off → length (phase_words (station t) on off) ≤ count_r t
phase_fits t on off h =
    let s = station t in
    unfold station_of in omega (arith, phase_long s on off, switch_long false s on, switch_long true s off, rising_fit s on off h)

pub own_long : (o : Option Call) → length (list_of o) ≤ 1
unfolding list_of
own_long (Some c) = omega arith
own_long None = omega arith

-- ---- all words

ruleset regroup = (map-append, map-map, append_assoc)

module _ (t : List ℕ) (c : Switching) where
  abbrev own : List ℕ
  own = map word_of (list_of c.own)

  abbrev phases : List ℕ
  phases = phase_words (station t) c.added c.removed

  pub own_comes_last : c.last ≡ true → switching_words (station t) c ≡ phase_words (station t) c.added c.removed
      ++ map word_of (list_of c.own)
  unfolding switching_words phase_words switch_words switch_word in_order arrange
  own_comes_last h = rw h (simp regroup)

  pub own_comes_first : c.last ≡ false → switching_words (station t) c ≡ map word_of (list_of c.own) ++ phase_words
      (station t) c.added c.removed
  unfolding switching_words phase_words switch_words switch_word in_order arrange
  own_comes_first h = rw h (simp regroup)

  -- a plan has at most R + 1 words, so each run has room
  module _ (g : GoodSwitching t c) where
    runs_fit : length (phase_words (station t) c.added c.removed) + length (list_of c.own) ≤ count_r t + 1
    runs_fit = omega (arith, phase_fits t c.added c.removed g.disjoint, own_long c.own)

    switching_fits : length (switching_words (station t) c) ≤ count_r t + 1
    switching_fits =
        let n = runs_fit in
        let m = length-map (list_of c.own) word_of in
        decide c.last
        (λ p. rw (own_comes_last p) (omega (arith, length-append phases own)))
        (λ p. rw (own_comes_first p) (omega (arith, length-append own phases)))

    pub own_good : OptionalInRange c.own
    own_good = g.own

    module _ (d : List ℕ) (z : WellSized t) (h : list_room (width t) ≤ length d) where
      pub own_first_room : 0 + length (list_of c.own) ≤ length d
      own_first_room = omega (arith, runs_fit, z.resources)

      pub phases_first_room : 0 + length (phase_words (station t) c.added c.removed) ≤ length d
      phases_first_room = omega (arith, runs_fit, z.resources)

      -- l: the plan after the first run, p: the place after it
      module _ (p : ℕ) (l : List ℕ) where
        pub own_last_room : p ≡ 0 + length (phase_words (station t) c.added c.removed)
            → l ≡ put d 0 (phase_words (station t) c.added c.removed) → p + length (list_of c.own) ≤ length l
        own_last_room e f = rw f (omega (arith, runs_fit, z.resources, length_put d 0 phases phases_first_room))

        pub phases_last_room : p ≡ 0 + length (map word_of (list_of c.own)) → l ≡ put d 0 (map word_of (list_of c.own))
            → p + length (phase_words (station t) c.added c.removed) ≤ length l
        phases_last_room e f =
            let m = length-map (list_of c.own) word_of in
            rw f (omega (arith, runs_fit, z.resources, m, length_put d 0 own (omega (arith, own_first_room, m))))

      -- two runs are the whole plan
      module _ (p r : ℕ) (xs ys : List ℕ) (w : switching_words (station t) c ≡ xs ++ ys) (e : p ≡ 0 + length xs) where
        pub whole_count : r ≡ p + length ys → r ≡ length (switching_words (station t) c)
        whole_count f = omega (arith, run_place d 0 p xs ys _ w e r f)

        pub whole_put : (l m : List ℕ) → l ≡ put d 0 xs → m ≡ put l p ys → m ≡ put d 0 (switching_words (station t) c)
        whole_put l m f k = run_put d 0 p xs ys _ w e l m (omega (arith, switching_fits, z.resources)) f k

pub ruleset plan_runs =
    (own_comes_last, own_comes_first, own_good, own_first_room, phases_first_room, own_last_room, phases_last_room, whole_count, whole_put)
