-- The needed set from its turns: one turn more, and the devices before and after one whose entry is replaced.
use mathlib.Core.Path.{◌≡◌, refl, sym, ap, ◌∙◌}
use mathlib.Core.List.{List}
use Prim.Native.Nat.{ℕ, zero, suc, ◌+◌, ◌*◌, ◌-◌, ◌≤◌, ◌<◌}
use native.Mathlib.Numerals.{add-one}
use native.Mathlib.Nat.{sub-eq-zero_of_le}
use native.Mathlib.Omega.{arith}
use borrow.Author.Tests.{eq-eqb, ne_eqb}
use Rattle.sets.specs.Sets.{union}
use Rattle.sets.proofs.Laws.{union_comm, union_assoc, union_empty}
use Rattle.words.specs.Words.{put}
use Rattle.rules.specs.declared.Entry.{Entry}
use Rattle.rules.specs.Index.{each}
use Rattle.rules.specs.Station.{Station, count_d, station_of, station}
use Rattle.rules.specs.Power.{needs, needed_below, needed}
use Rattle.rules.specs.Status.{entry_at, entries}
use Rattle.rules.specs.Request.{replace_entry}
use Rattle.table.specs.Layout.{WellSized}
use Rattle.status.specs.Needs.{needed_from, below_each}
use Rattle.status.proofs.Held.{entry_is}
use Rattle.status.proofs.Filled.{filled_none, filled_next}

-- ---- the loop is at i, with n - i to go, and is to answer v
pub turn_next : (t b : List ℕ) (i n a m r v : ℕ) (e : Entry) → needed_from (station t) (entries t b) a i (n - i) ≡ v → WellSized t
    → i < n → n ≤ count_d t
    → e ≡ entry_at b (4 * i) → m ≡ needs (station t) i e → r ≡ union a m → needed_from (station t) (entries t b) r (i + 1) (n - (i + 1)) ≡ v
turn_next t b i n a m r v e inv z h l p q f =
    let k : n - i ≡ suc (n - (i + 1)) = omega arith in
    let same : e ≡ entries t b i = entry_is t b i e z (omega arith) p in
    rw (f, q, same) (sym (ap (needed_from (station t) (entries t b) a i) k ∙ (unfold needed_from in refl)) ∙ inv)

pub turn_last : (s : Station) (f : ℕ → Entry) (i n a v : ℕ) → needed_from s f a i (n - i) ≡ v → n ≤ i → a ≡ v
turn_last s f i n a v inv h = sym (ap (needed_from s f a i) (sub-eq-zero_of_le h) ∙ (unfold needed_from in refl)) ∙ inv

pub ruleset turns = (turn_next, turn_last)

-- ---- by turns it is the needed set of the devices below
from_below : (s : Station) (f : ℕ → Entry) (i k : ℕ) → needed_from s f (needed_below s f i) i k ≡ needed_below s f (i + k)
unfolding needed_from
from_below s f i zero = ap (needed_below s f) (omega arith)
from_below s f i (suc k) =
    let one : union (needed_below s f i) (needs s i (f i)) ≡ needed_below s f (i + 1) = sym (ap (needed_below s f) (add-one i)
    ∙ (unfold needed_below in refl)) in
    rw one (from_below s f (i + 1) k ∙ ap (needed_below s f) (omega arith))

from_none : (s : Station) (f : ℕ → Entry) (k : ℕ) → needed_from s f 0 0 k ≡ needed_below s f k
from_none s f k =
    let z : needed_below s f 0 ≡ 0 = unfold needed_below in refl in
    let n : 0 + k ≡ k = omega arith in
    (rw (z, n) at (from_below s f 0 k))

-- only the entries of those devices matter
pub from_same : (s : Station) (f g : ℕ → Entry) (a i k : ℕ) → ((j : ℕ) → i ≤ j → j < i + k → f j ≡ g j)
    → needed_from s f a i k ≡ needed_from s g a i k
unfolding needed_from
from_same s f g a i zero h = refl
from_same s f g a i (suc k) h =
    rw (h i (omega arith) (omega arith)) (from_same s f g (union a (needs s i (g i))) (i + 1) k (λ j p q. h j (omega arith) (omega arith)))

-- ---- one entry replaced
replaced_other : (f : ℕ → Entry) (d j : ℕ) (e : Entry) → (j ≡ d → ⊥) → f j ≡ replace_entry f d e j
unfolding replace_entry
replaced_other f d j e h = rw (ne_eqb j d h) refl

replaced_same : (f : ℕ → Entry) (d : ℕ) (e : Entry) → replace_entry f d e d ≡ e
unfolding replace_entry
replaced_same f d e = rw (eq-eqb d d refl) refl

-- those before d, then d with e, then those after it
pub with_entry : (t b : List ℕ) (d n x y z w : ℕ) (e : Entry) → d < count_d t → n ≡ count_d t → x ≡ needed_from (station t) (entries t b) 0 0
    (d - 0) → y ≡ needs (station t) d e
    → z ≡ union x y → w ≡ needed_from (station t) (entries t b) z (d + 1) (n - (d + 1)) → w ≡ needed (station t)
    (replace_entry (entries t b) d e)
with_entry t b d n x y z w e h m p q r o =
    let s = station t in
    let f = entries t b in
    let g = replace_entry f d e in
    let first : x ≡ needed_below s g d =
    p ∙ from_same s f g 0 0 (d - 0) (λ j _ l. replaced_other f d j e (λ c. omega arith)) ∙ from_none s g (d - 0)
    ∙ ap (needed_below s g) (omega arith) in
    let one : z ≡ needed_below s g (d + 1) = r ∙ rw (first, q)
    (sym (ap (needed_below s g) (add-one d) ∙ (unfold needed_below in rw (replaced_same f d e) refl))) in
    let all : (d + 1) + (n - (d + 1)) ≡ s.devices = unfold station_of in omega arith in
    o ∙ from_same s f g z (d + 1) (n - (d + 1)) (λ j l _. replaced_other f d j e (λ c. omega arith))
    ∙ ap (λ (a : ℕ). needed_from s g a (d + 1) (n - (d + 1))) one
    ∙ from_below s g (d + 1) (n - (d + 1)) ∙ ap (needed_below s g) all ∙ (unfold needed in refl)

-- what is added to a set by turns is one set
from_union : (s : Station) (f : ℕ → Entry) (a i k : ℕ) → needed_from s f a i k ≡ union a (needed_from s f 0 i k)
unfolding needed_from
from_union s f a i zero = sym (union_comm a 0 ∙ union_empty a)
from_union s f a i (suc k) =
    let own = needs s i (f i) in
    from_union s f (union a own) (i + 1) k ∙ union_assoc a own (needed_from s f 0 (i + 1) k)
    ∙ ap (union a) (sym (rw (union_empty own) (from_union s f own (i + 1) k)))

-- one device more, before those from i + 1 on
pub from_one : (s : Station) (f : ℕ → Entry) (i k : ℕ) → needed_from s f 0 i (suc k) ≡ union (needs s i (f i)) (needed_from s f 0 (i + 1) k)
unfolding needed_from
from_one s f i k = rw (union_empty (needs s i (f i))) (from_union s f (needs s i (f i)) (i + 1) k)

-- the same as with_entry where what the devices after d need is known
pub with_parts : (t b : List ℕ) (d x y a : ℕ) (e : Entry) → d < count_d t → x ≡ needed_below (station t) (entries t b) d
    → y ≡ needs (station t) d e → a ≡ needed_from (station t) (entries t b) 0 (d + 1) (count_d t - (d + 1))
    → union x (union y a) ≡ needed (station t) (replace_entry (entries t b) d e)
with_parts t b d x y a e h p q r =
    let s = station t in
    let f = entries t b in
    let k = count_d t - (d + 1) in
    sym (union_assoc x y a) ∙ rw r (sym (from_union s f (union x y) (d + 1) k))
    ∙ with_entry t b d (count_d t) x y (union x y) (needed_from s f (union x y) (d + 1) k) e h refl
    (p ∙ sym (from_none s f (d - 0) ∙ ap (needed_below s f) (omega arith))) q refl refl

-- ---- the sets of all devices; the loop is at i, where those below need a
pub none_below : (s : Station) (f : ℕ → Entry) → 0 ≡ needed_below s f 0
unfolding needed_below
none_below s f = refl

pub more_below : (t b : List ℕ) (i n a m r : ℕ) (e : Entry) → a ≡ needed_below (station t) (entries t b) i → WellSized t → i < n
    → n ≡ count_d t → e ≡ entry_at b (4 * i) → m ≡ needs (station t) i e → r ≡ union a m → r ≡ needed_below (station t) (entries t b) (i + 1)
unfolding needed_below
more_below t b i n a m r e p z h l q o f = rw (add-one i) (f ∙ rw (p, o, entry_is t b i e z (omega arith) q) refl)

pub all_below : (t b out out' : List ℕ) (i n : ℕ) → out' ≡ put out 0 (each (needed_below (station t) (entries t b)) i) → i ≤ n → n ≤ i
    → n ≡ count_d t → out' ≡ below_each t b out
all_below t b out out' i n e h k l = let q : i ≡ count_d t = omega arith in rw q at e

pub ruleset belows = (none_below, more_below, all_below, filled_none, filled_next)

-- all of them
pub all_devices : (t b : List ℕ) (n w : ℕ) → n ≡ count_d t → w ≡ needed_from (station t) (entries t b) 0 0 (n - 0)
    → w ≡ needed (station t) (entries t b)
all_devices t b n w m o =
    let all : n - 0 ≡ (station t).devices = unfold station_of in omega arith in
    o ∙ from_none (station t) (entries t b) (n - 0) ∙ ap (needed_below (station t) (entries t b)) all ∙ (unfold needed in refl)
