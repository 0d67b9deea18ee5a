-- The state image along requests: a fresh one is consistent, and an accepted request leaves a consistent one with exactly the needed set
-- on.
use mathlib.Core.Path.{◌≡◌, refl, sym, ap, ◌∙◌}
use mathlib.Core.Bool.{Bool, true, false, not, ◌&&◌, ◌||◌, true≢false, and-true}
use mathlib.Core.List.{List}
use mathlib.Core.Logic.{⊎_elim}
use Prim.Native.Nat.{ℕ, ◌*◌, ◌^◌, ◌≤◌, ◌<◌}
use native.Mathlib.Omega.{arith}
use native.Mathlib.Nat.{lt_of_lt_of_le}
use borrow.Author.Tests.{eqb-true, eqb-false, eq-eqb, leb-true, le-leb, ltb-true, lt-ltb, not-false}
use lib.Dec.{eqb, ltb, leb}
use lib.ListN.{length}
use lib.Pow.{pow_mono}
use Rattle.sets.specs.Sets.{member, subset, first_n}
use Rattle.sets.proofs.Laws.{decide, first_n_lt, member_first_n, subset_at, subset_of}
use Rattle.rules.specs.declared.Request.{Request}
use Rattle.std.specs.Prelude.{Ok}
use Rattle.rules.specs.Verdict.{refuse}
use Rattle.rules.specs.declared.Reason.TheVariants.{BadState, Inconsistent}
use Rattle.rules.specs.Answers.{passes, first_of}
use Rattle.rules.specs.Station.{Station, absent, width, limit, station_of, station}
use Rattle.rules.specs.Table.{table_verdict, set_good}
use Rattle.rules.specs.declared.Entry.{Entry}
use Rattle.rules.specs.Power.{supported, needs, needed}
use Rattle.rules.specs.Status.{Status, no_entry, entries_of, status_of, status, image_of, image_size, fresh_status, entry_good, entry_zero}
use Rattle.rules.specs.Status.{entries_good, on_good, parent_allows, wake_consistent, consistent_but_power, powered, consistent, values_good}
use Rattle.rules.specs.Status.{image_good, values_verdict, consistency_verdict, state_verdict}
use Rattle.rules.specs.Request.{is_move, is_arm, is_disarm, numbers_good, form_good, request_verdict, new_entry, entries_after}
use Rattle.rules.specs.Calls.{end_set, status_after}
use Rattle.rules.specs.Outcomes.{state_after}
use Rattle.rules.specs.BringUp.{but_power_verdict}
use Rattle.rules.proofs.Index.{every_at, every_of_lem, below_out}
use Rattle.rules.proofs.Answers.{first_both, unless_at, unless_of, refused_stops, lowest_at, lowest_of_lem}
use Rattle.rules.proofs.Width.{width_wide}
use Rattle.laws.proofs.Tests.{both_true, or_cases, or_right}
use Rattle.laws.proofs.Every.{lowest_ext}
use Rattle.laws.proofs.Accepted.{Accepted, accepted}
use Rattle.laws.proofs.Needed.{needed_by, needs_lt, needed_lt, all_powered}
use Rattle.laws.proofs.Image.{image_length, status_image}
use Rattle.laws.proofs.Consistency.{Apart, apart_of, apart_is, after_same, after_other}
use Rattle.laws.proofs.Kept.{StationRules, apart_after}

-- ---- an accepted table's station keeps the rules that consistency needs
pub station_rules : (t : List ℕ) → Accepted t → StationRules (station t)
unfolding station_of set_good
station_rules t a =
    record { parents = λ d h. (a.device d h).parent; sets = λ d h k l. ltb-true _ _ (both_true _ _ ((a.device d h).sets k l)).0 }

-- a byte can name each of its resources, and what its devices need are resources of it
pub nameable : (t : List ℕ) → passes (table_verdict t) ≡ true → (station t).resources ≤ 256
unfolding station_of
nameable t e = omega (arith, (accepted t e).resources, (width_wide t).high)

pub needed_small : (t : List ℕ) → passes (table_verdict t) ≡ true → (entries : ℕ → Entry)
    → needed (station t) entries < 2 ^ (station t).resources
unfolding needed
needed_small t e entries =
    needed_lt (station t).resources (station t) entries (station t).devices (station_rules t (accepted t e)).sets

-- ---- a status that passes 7 and 8
pub record ConsistentStatus (n : ℕ) (s : Station) (st : Status) : Type 0 where
  pub entries : entries_good n s st.entries ≡ true
  pub on : st.on < 2 ^ s.resources
  pub apart : (d : ℕ) → d < s.devices → Apart s st.entries d
  pub power : (d : ℕ) → d < s.devices → subset (needs s d (st.entries d)) st.on ≡ true

-- what 7 leaves
pub record GoodValues (t b : List ℕ) : Type 0 where
  pub long : length b ≡ image_size (width t)
  pub entries : entries_good (limit (width t)) (station t) (status t b).entries ≡ true
  pub on : (status t b).on < 2 ^ (station t).resources

pub values_of : (t b : List ℕ) → passes (values_verdict t b) ≡ true → GoodValues t b
unfolding values_verdict image_good values_good on_good
values_of t b e =
    let v = both_true (eqb (length b) (image_size (width t))) _ (unless_at _ _ _ e) in
    let u = both_true (entries_good (limit (width t)) (station t) (status t b).entries) _ v.1 in
    record { long = eqb-true _ _ v.0; entries = u.0; on = ltb-true _ _ u.1 }

pub consistent_of : (t b : List ℕ) → passes (state_verdict t b) ≡ true → (length b ≡ image_size (width t))
    × ConsistentStatus (limit (width t)) (station t) (status t b)
unfolding state_verdict consistency_verdict consistent powered
consistent_of t b e =
    let s = station t in
    let a = first_both _ _ _ e in
    let c = first_both _ _ _ a.1 in
    let v = values_of t b a.0 in
    let k : (d : ℕ) → d < s.devices → (consistent_but_power s (status t b).entries d ≡ true) × (powered s (status t b) d ≡ true) =
    λ d h. both_true _ _ (not-false (consistent s (status t b) d) (lowest_at _ s.devices (refuse Inconsistent)
    (refused_stops Inconsistent) c.0 d h)) in (
      v.long,
      record {
        entries = v.entries;
        on = v.on;
        apart = λ d h. apart_of s (status t b).entries d (k d h).0;
        power = λ d h. (k d h).1;
      },
    )

-- it has on what its entries need
pub needs_on : (t b : List ℕ) → passes (state_verdict t b) ≡ true → (r : ℕ) → member (needed (station t) (status t b).entries) r ≡ true
    → member (status t b).on r ≡ true
unfolding needed
needs_on t b f r e =
    let n = needed_by (station t) (status t b).entries (station t).devices r e in
    subset_at _ _ r ((consistent_of t b f).1.power n.0 n.1) n.2

all_consistent : (n : ℕ) (s : Station) (st : Status) → ConsistentStatus n s st → consistency_verdict s st ≡ Ok 0
unfolding consistency_verdict consistent powered
all_consistent n s st a =
    lowest_of_lem _ s.devices (refuse Inconsistent) (λ d h. rw (apart_is s st.entries d (a.apart d h), a.power d h) refl)

pub consistent_is : (t b : List ℕ) → length b ≡ image_size (width t) → ConsistentStatus (limit (width t)) (station t) (status t b)
    → state_verdict t b ≡ Ok 0
unfolding state_verdict values_verdict image_good values_good on_good passes first_of
consistent_is t b l a =
    rw (
      eq-eqb (length b) (image_size (width t)) l,
      a.entries,
      lt-ltb _ _ a.on,
      unless_of true BadState 0 refl,
      all_consistent
          (limit (width t)) (station t) (status t b) a,
    ) refl

-- ---- the bounds of what a status has on: R bits are no more than the image's 8w
fits_image : (w n x : ℕ) → n ≤ 8 * w → x < 2 ^ n → x < 2 ^ (8 * w)
fits_image w n x h l = lt_of_lt_of_le l (pow_mono h)

-- the image of a consistent status reads back as it, and gets neither 7 nor 8
module _ (t : List ℕ) (e : passes (table_verdict t) ≡ true) (st : Status) (c : ConsistentStatus (limit (width t)) (station t) st)
    (out : (k : ℕ) → limit (width t) ≤ k → st.entries k ≡ no_entry) where
  pub image_reads : status t (image_of (width t) st) ≡ st
  image_reads =
      status_image (width t) st
      (fits_image (width t) (station t).resources st.on (unfold station_of in (accepted t e).resources) c.on) out

  pub image_consistent : state_verdict t (image_of (width t) st) ≡ Ok 0
  image_consistent = consistent_is t (image_of (width t) st) (image_length (width t) st) (rw image_reads c)

-- ---- all on: nothing that a device needs is missing
pub all_on : (s : Station) → StationRules s → (d : ℕ) → d < s.devices → (e : Entry) → subset (needs s d e) (first_n s.resources) ≡ true
all_on s rules d h e =
    subset_of s.resources (needs s d e) (first_n s.resources) (needs_lt s.resources s d e (rules.sets d h))
    (λ r l m. member_first_n s.resources r ∙ lt-ltb r s.resources l)

-- where nothing is missing, what is not consistent is so for another reason
pub powered_apart : (s : Station) (entries : ℕ → Entry) (on : ℕ) → ((d : ℕ) → d < s.devices → subset (needs s d (entries d)) on ≡ true)
    → consistency_verdict s (record { entries = entries; on = on }) ≡ but_power_verdict s entries
unfolding consistency_verdict but_power_verdict consistent powered
powered_apart s entries on h =
    lowest_ext _ _ s.devices (refuse Inconsistent) (refuse Inconsistent)
    (λ d l. rw (h d l) (ap not (and-true (consistent_but_power s entries d))))
    (λ d l. refl)

pub all_on_apart : (t : List ℕ) → passes (table_verdict t) ≡ true → (entries : ℕ → Entry)
    → consistency_verdict (station t) (record { entries = entries; on = first_n (station t).resources })
    ≡ but_power_verdict (station t) entries
all_on_apart t e entries =
    powered_apart (station t) entries (first_n (station t).resources)
    (λ d h. all_on (station t) (station_rules t (accepted t e)) d h (entries d))

-- ---- fresh
fresh_status_consistent : (n : ℕ) (s : Station) → StationRules s → ConsistentStatus n s (fresh_status s)
unfolding fresh_status entries_good entry_good entry_zero parent_allows wake_consistent supported
fresh_status_consistent n s rules =
    record {
      entries = every_of_lem _ n (λ k h. or_right (ltb k s.devices) true refl);
      on = first_n_lt s.resources s.resources (omega arith);
      apart = λ d h. record { known = refl; under = or_right (eqb (s.device d).parent absent) true refl; wake = refl };
      power = λ d h. all_on s rules d h no_entry;
    }

-- its image reads back as it, and gets neither 7 nor 8
module _ (t : List ℕ) (e : passes (table_verdict t) ≡ true) where
  start : ConsistentStatus (limit (width t)) (station t) (fresh_status (station t))
  start = fresh_status_consistent (limit (width t)) (station t) (station_rules t (accepted t e))

  start_out : (k : ℕ) → limit (width t) ≤ k → (fresh_status (station t)).entries k ≡ no_entry
  unfolding fresh_status
  start_out k h = refl

  pub fresh_reads : status t (image_of (width t) (fresh_status (station t))) ≡ fresh_status (station t)
  fresh_reads = image_reads t e (fresh_status (station t)) start start_out

  pub fresh_consistent : state_verdict t (image_of (width t) (fresh_status (station t))) ≡ Ok 0
  fresh_consistent = image_consistent t e (fresh_status (station t)) start start_out

-- ---- an accepted request
pub form_passed : (s : Station) (entries : ℕ → Entry) (q : Request) → passes (request_verdict s entries q) ≡ true → form_good s q ≡ true
unfolding request_verdict
form_passed s entries q e = unless_at _ _ _ (first_both _ _ _ e).0

pub form_device : (s : Station) (q : Request) → form_good s q ≡ true → q.device < s.devices
unfolding form_good
form_device s q e = ltb-true _ _ (both_true _ _ e).0

-- what a good form says of the two numbers
pub small : (s : Station) (q : Request) → form_good s q ≡ true → (q.a ≤ 4) × (q.b ≤ 4)
unfolding form_good numbers_good
small s q e =
    let move = is_move q && leb q.a 4 && eqb q.b 0 in
    let arm = is_arm q && leb q.a 4 && leb q.b 4 in
    let disarm = is_disarm q && eqb q.a 0 && eqb q.b 0 in
    ⊎_elim
    (λ x. ⊎_elim
    (λ m. let b = both_true (is_move q && leb q.a 4) (eqb q.b 0) m in
    (leb-true _ _ (both_true (is_move q) (leb q.a 4) b.0).1, omega (arith, eqb-true q.b 0 b.1)))
    (λ m. let b = both_true (is_arm q && leb q.a 4) (leb q.b 4) m in
    (leb-true _ _ (both_true (is_arm q) (leb q.a 4) b.0).1, leb-true _ _ b.1))
    (or_cases move arm x))
    (λ m. let b = both_true (is_disarm q && eqb q.a 0) (eqb q.b 0) m in
    (omega (arith, eqb-true q.a 0 (both_true (is_disarm q) (eqb q.a 0) b.0).1), omega (arith, eqb-true q.b 0 b.1)))
    (or_cases (move || arm) disarm (both_true (ltb q.device s.devices) (move || arm || disarm) e).1)

-- five tests that hold, with the first exchanged for another that holds
exchange : (x y b c d e : Bool) → y ≡ true → x && b && c && d && e ≡ true → y && b && c && d && e ≡ true
exchange true y b c d e p f = rw p f
exchange false y b c d e p f = absurd (true≢false (sym f))

first_holds : (x b c d e : Bool) → x && b && c && d && e ≡ true → x ≡ true
first_holds true b c d e f = refl
first_holds false b c d e f = f

new_good : (e : Entry) (q : Request) → entry_good e ≡ true → q.a ≤ 4 → q.b ≤ 4 → entry_good (new_entry e q) ≡ true
unfolding entry_good new_entry
new_good e q g a b =
    let low : leb e.state 4 ≡ true = first_holds (leb e.state 4) (leb e.armed 1) (leb e.sleep 4) (leb e.wake 4) _ g in
    decide (is_move q)
    (λ m. rw m (exchange (leb e.state 4) (leb q.a 4) (leb e.armed 1) (leb e.sleep 4) (leb e.wake 4)
    (eqb e.armed 1 || eqb e.sleep 0 && eqb e.wake 0) (le-leb q.a 4 a) g))
    (λ m. decide (is_arm q) (λ n. rw (m, n, low, le-leb q.a 4 a, le-leb q.b 4 b) refl) (λ n. rw (m, n, low) refl))

entries_after_lem : (n : ℕ) (s : Station) (entries : ℕ → Entry) (q : Request) → form_good s q ≡ true → entries_good n s entries ≡ true
    → entries_good n s (entries_after entries q) ≡ true
unfolding entries_good
entries_after_lem n s entries q f g =
    every_of_lem _ n
    (λ k h.
    let a = both_true (entry_good (entries k)) (ltb k s.devices || entry_zero (entries k)) (every_at _ n k g h) in
    decide (eqb k q.device)
    (λ z.
    let e : entries_after entries q k ≡ new_entry (entries k) q = rw (eqb-true k q.device z) (after_same entries q) in
    let l : ltb k s.devices ≡ true = lt-ltb k s.devices (rw (eqb-true k q.device z) (form_device s q f)) in
    let n = small s q f in rw (e, l, new_good (entries k) q a.0 n.0 n.1) refl)
    (λ z. rw (after_other entries q k (eqb-false k q.device z)) (every_at _ n k g h)))

pub after_status_consistent : (n : ℕ) (s : Station) (st : Status) (q : Request) → StationRules s → ConsistentStatus n s st
    → passes (request_verdict s st.entries q) ≡ true → ConsistentStatus n s (status_after s st q)
unfolding status_after end_set needed
after_status_consistent n s st q rules a e =
    let form = form_passed s st.entries q e in
    record {
      entries = entries_after_lem n s st.entries q form a.entries;
      on = needed_lt s.resources s (entries_after st.entries q) s.devices rules.sets;
      apart = apart_after s rules st.entries q a.apart e;
      power = λ d h. all_powered s.resources s (entries_after st.entries q) d h (rules.sets d h);
    }

pub entries_out : (w : ℕ) (b : List ℕ) (k : ℕ) → 8 * w ≤ k → (status_of w b).entries k ≡ no_entry
unfolding status_of entries_of
entries_out w b k h = below_out (8 * w) no_entry _ k h

-- the image after an accepted request reads back as the status after it, and gets neither 7 nor 8
module _ (t b : List ℕ) (q : Request) (e : passes (table_verdict t) ≡ true) (f : passes (state_verdict t b) ≡ true)
    (g : passes (request_verdict (station t) (status t b).entries q) ≡ true) where
  new : ConsistentStatus (limit (width t)) (station t) (status_after (station t) (status t b) q)
  new = after_status_consistent (limit (width t)) (station t) (status t b) q (station_rules t (accepted t e)) (consistent_of t b f).1 g

  new_out : (k : ℕ) → limit (width t) ≤ k → (status_after (station t) (status t b) q).entries k ≡ no_entry
  unfolding status_after
  new_out k h =
      let form = form_passed (station t) (status t b).entries q g in
      let l : q.device < limit (width t) = lt_of_lt_of_le (form_device (station t) q form) (unfold station_of in (accepted t e).devices) in
      after_other (status t b).entries q k (λ z. omega arith) ∙ entries_out (width t) b k h

  pub after_reads : status t (state_after t b q) ≡ status_after (station t) (status t b) q
  unfolding state_after
  after_reads = image_reads t e (status_after (station t) (status t b) q) new new_out

  pub after_consistent : state_verdict t (state_after t b q) ≡ Ok 0
  unfolding state_after
  after_consistent = image_consistent t e (status_after (station t) (status t b) q) new new_out
