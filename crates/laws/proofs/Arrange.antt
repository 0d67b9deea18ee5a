-- A list that conforms is arranged: own calls, ONs, OFFs, own calls, from the on-set to the target. So the execution theorem holds of it.
use mathlib.Core.Path.{◌≡◌, refl, sym, ap, ◌∙◌}
use mathlib.Core.Bool.{Bool, true, false, cond}
use mathlib.Core.List.{List, [], ◌∷◌, ◌++◌, map, append_assoc, append-nil}
use Prim.Native.Nat.{ℕ, ◌+◌, ◌^◌, ◌≤◌, ◌<◌}
use native.Mathlib.Omega.{arith}
use borrow.Author.Tests.{lt-ltb, eq-eqb, ltb-true, ltb-false}
use lib.Dec.{eqb, ltb}
use lib.ListN.{length, get_or, take, get_or-eq_default}
use Rattle.sets.specs.Sets.{member}
use Rattle.sets.proofs.Laws.{member_below, decide, member_minus, minus_lt}
use Rattle.rules.specs.declared.Request.{Request}
use Rattle.rules.specs.declared.Wake.TheVariants.{Enable, Disable}
use Rattle.rules.specs.declared.Call.{Call}
use Rattle.rules.specs.declared.Call.TheVariants.{SetState, SetWake}
use Rattle.rules.specs.Station.{Station}
use Rattle.rules.specs.declared.Entry.{Entry}
use Rattle.rules.specs.Request.{is_move, is_arm}
use Rattle.rules.specs.Calls.{word_of, list_of, only, method_for, move_call, wake_call, own_call, to_turn_on, to_turn_off, arrange}
use Rattle.rules.specs.Conforms.{times, EachOnce, Conforms}
use Rattle.rules.specs.Check.{on_word, off_word, first_calls, last_calls}
use Rattle.rules.specs.Execution.{execution}
use Rattle.laws.specs.Carried.{All, Other, has_in, listed, Arranged, Carried}
use Rattle.laws.proofs.All.{all_append, all_at, all_map, all_imp}
use Rattle.laws.proofs.Execution.{carried}
use Rattle.laws.proofs.Conform.{by_phase, Switchable}

-- ---- words

-- a word fits four bytes
abbrev pub Fits : ℕ → Type 0
Fits x = x < 2 ^ 32

pub all_fit : (ws : List ℕ) → All Fits ws → (i : ℕ) → Fits (get_or ws i 0)
all_fit ws h i =
    decide (ltb i (length ws)) (λ e. all_at Fits ws i 0 h (ltb-true _ _ e))
    (λ e. rw (get_or-eq_default ws 0 {n = i} (ltb-false _ _ e)) (omega arith))

-- the words of an arranged list of calls
pub arranged_words : (last : Bool) (own : List Call) (ons offs : List ℕ)
    → map word_of (arrange last own ons offs) ≡ listed (map word_of (first_calls last own)) ons offs (map word_of (last_calls last own))
arranged_words last own ons offs = by_phase last own ons offs ∙ simp (append_assoc, append-nil)

-- what holds of the own calls' words holds of those that stand first, and of those that stand last
module _ (P : ℕ → Type 0) (own : List Call) (h : All P (map word_of own)) where
  pub first_all : (last : Bool) → All P (map word_of (first_calls last own))
  unfolding first_calls All
  first_all true = tt
  first_all false = h

  pub last_all : (last : Bool) → All P (map word_of (last_calls last own))
  unfolding last_calls All
  last_all true = h
  last_all false = tt

-- ---- the own call is neither `_ON` nor `_OFF`

only_other : (b : Bool) (c : Call) → Other (word_of c) → All Other (map word_of (list_of (only b c)))
unfolding only list_of All
only_other true c h = (h, tt)
only_other false c h = tt

pub own_other : (s : Station) (e : Entry) (q : Request) → All Other (map word_of (list_of (own_call s e q)))
unfolding own_call move_call wake_call
own_other s e q =
    decide (is_move q) (λ m. rw m (only_other _ (SetState q.device (method_for q.a)) (omega arith)))
    (λ m. decide (is_arm q) (λ a. rw (m, a) (only_other _ (SetWake q.device (Enable q.a q.b)) (omega arith)))
    (λ a. rw (m, a) (only_other _ (SetWake q.device Disable) (omega arith))))

-- ---- each member once: what stands in the list are the set's members

pub once_has : (m : ℕ) (l : List ℕ) → EachOnce m l → (r : ℕ) → has_in r l ≡ member m r
unfolding EachOnce
once_has m l h r = rw (h r) (decide (member m r) (λ e. rw e refl) (λ e. rw e refl))

has_all : (P : ℕ → Type 0) (l : List ℕ) → ((r : ℕ) → has_in r l ≡ true → P r) → All P l
unfolding All times
has_all P [] h = tt
has_all P (x ∷ l) h = (
  h x (rw (eq-eqb x x refl) (lt-ltb 0 (1 + times x l) (omega arith))),
  has_all P l (λ r e. h r (lt-ltb _ _ (more (eqb x r) (times r l) (ltb-true _ _ e)))),
)
  where
    more : (b : Bool) (n : ℕ) → 0 < n → 0 < cond b 1 0 + n
    more true n h = omega arith
    more false n h = omega arith

pub once_small : (w m : ℕ) (l : List ℕ) → m < 2 ^ w → w ≤ 256 → EachOnce m l → All (λ r. r < 256) l
once_small w m l h k o =
    has_all (λ r. r < 256) l (λ r e. let b = member_below w m r h (sym (once_has m l o r) ∙ e) in omega arith)

-- ---- so a list that conforms is arranged, and carried out as the theorem says
module _ (s : Station) (own : List Call) (last : Bool) (on target : ℕ) (able : Switchable s own on target) (ws : List ℕ)
    (c : Conforms s own last on target ws) where
  abbrev first : List ℕ
  first = map word_of (first_calls last own)

  abbrev final : List ℕ
  final = map word_of (last_calls last own)

  pub conforms_listed : ws ≡ listed first c.ons c.offs final
  conforms_listed = c.whole ∙ arranged_words last own c.ons c.offs

  pub conforms_arranged : Arranged (member on) (member target) first c.ons c.offs final
  unfolding to_turn_on to_turn_off
  conforms_arranged =
      record {
        first_other = first_all Other own able.other last;
        last_other = last_all Other own able.other last;
        ons_small = once_small s.resources _ c.ons (minus_lt _ target on able.end) able.nameable c.ons_once;
        offs_small = once_small s.resources _ c.offs (minus_lt _ on target able.start) able.nameable c.offs_once;
        ons_are = λ r. once_has _ c.ons c.ons_once r ∙ member_minus target on r;
        offs_are = λ r. once_has _ c.offs c.offs_once r ∙ member_minus on target r;
      }

  pub conforms_carried : Carried (member on) (member target) first c.ons c.offs final
  conforms_carried = carried conforms_arranged

  -- carried out, it ends with exactly the target
  pub conforms_ends : (r : ℕ) → execution (member on) ws r ≡ member target r
  conforms_ends r = ap (λ (l : List ℕ). execution (member on) l r) conforms_listed ∙ conforms_carried.ends r

  -- after any k of its words, what is in both sets is on
  pub conforms_keeps : (k r : ℕ) → member on r ≡ true → member target r ≡ true → execution (member on) (take k ws) r ≡ true
  conforms_keeps k r x y =
      ap (λ (l : List ℕ). execution (member on) (take k l) r) conforms_listed ∙ conforms_carried.keeps k r x y

  -- each of its words fits four bytes, where those of the own calls do
  pub conforms_fits : All Fits (map word_of own) → All Fits ws
  conforms_fits h =
      let a = conforms_arranged in
      rw conforms_listed
      (all_append Fits (first ++ map on_word c.ons ++ map off_word c.offs) final
      (all_append Fits (first ++ map on_word c.ons) (map off_word c.offs)
      (all_append Fits first (map on_word c.ons) (first_all Fits own h last)
      (all_map Fits on_word c.ons (all_imp (λ r. r < 256) (λ r. Fits (on_word r)) (λ r l. omega arith) c.ons a.ons_small)))
      (all_map Fits off_word c.offs (all_imp (λ r. r < 256) (λ r. Fits (off_word r)) (λ r l. omega arith) c.offs a.offs_small)))
      (last_all Fits own h last))
