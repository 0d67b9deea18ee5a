-- The conclusions from demand 3 and from what the checker of bring-up promises, of words and of bytes by one law.
use Prim.Native.Nat.{ℕ, ◌*◌, ◌/◌, ◌%◌}
use mathlib.Core.Path.{◌≡◌, refl, sym, ap, ◌∙◌}
use mathlib.Core.Bool.{Bool, true, false, cond, ◌||◌, true≢false}
use mathlib.Core.List.{List}
use mathlib.Core.Logic.{◌↔◌}
use native.Mathlib.Nat.{one-mul, mod-one}
use native.Mathlib.Omega.{arith}
use borrow.Author.Tests.{eqb-true}
use lib.Dec.{eqb}
use lib.ListN.{length, take}
use Rattle.sets.proofs.Laws.{decide}
use Rattle.words.specs.Words.{byte_words}
use Rattle.rules.specs.declared.Entry.{Entry}
use Rattle.rules.specs.declared.Request.{Request}
use Rattle.rules.specs.Verdict.{Verdict}
use Rattle.rules.specs.Answers.{number_of, count_of}
use Rattle.rules.specs.Calls.{own_last}
use Rattle.rules.specs.Execution.{execution}
use Rattle.rules.specs.Outcomes.{Outcome}
use Rattle.laws.specs.Demand3.{Passed, own_entry, Demand3}
use Rattle.laws.specs.About.Checker.{NoWrongPass, NoWrongPoint, FromDemand3, FromDemand3Bytes, FromBringUpChecked}
use Rattle.laws.specs.About.Checker.{FromBringUpCheckedBytes}

-- a member that is not off is on
not_off : (b : Bool) → b ≡ true → b ≡ false → ⊥
not_off b on off = true≢false (sym on ∙ off)

-- the entry whose needs the own method must find
own_entry_is : (q : Request) (after before : Entry) → own_entry q before after ≡ cond (own_last q) after before
unfolding own_last
own_entry_is q after before =
    decide (eqb q.kind 1) (λ k. rw (eqb-true q.kind 1 k) (go (eqb q.a 0)))
    (λ k. rw k refl)
  where
    go : (z : Bool) → cond z after before ≡ cond (z || false) after before
    go true = refl
    go false = refl

-- of any checker
module _ (size : ℕ) (words_of : List ℕ → List ℕ) (check check_of_words : List ℕ → Verdict) (OneList : Type 0) (plan_on : List ℕ → Outcome)
    (MayPass : Type 0) (Conforming : List ℕ → Type 0) (start target : ℕ → Bool) (list : List ℕ) where
  no_wrong_pass : (number_of (check list) ≡ 0 → length list % size ≡ 0)
      → (length list % size ≡ 0 → check list ≡ check_of_words (words_of list))
      → (MayPass → (number_of (check_of_words (words_of list)) ≡ 0) ↔ Conforming (words_of list))
      → (number_of (check_of_words (words_of list)) ≡ 0 → (r : ℕ) → execution start (words_of list) r ≡ target r)
      → (OneList → (plan : List ℕ) → number_of (plan_on plan).verdict ≡ 0
      → number_of (check (take (size * count_of (plan_on plan).verdict) (plan_on plan).plan)) ≡ 0)
      → NoWrongPass size words_of check check_of_words OneList plan_on MayPass Conforming start target list
  no_wrong_pass multiple words exactly ends own =
      let of : number_of (check list) ≡ 0 → number_of (check_of_words (words_of list)) ≡ 0 =
      λ e. sym (ap number_of (words (multiple e))) ∙ e in
      record {
        passes_all = λ may no e. no ((exactly may).0 (of e));
        cut_off = λ no e. no (multiple e);
        refuses_all = λ may c whole k e. omega (arith, ap number_of (words whole), (exactly may).1 c);
        refuses_own = λ one plan done k e. omega (arith, own one plan done);
        other_answer = λ whole v e no. no (words whole ∙ e);
        ends_off = λ e r on off. not_off _ (ends (of e) r ∙ on) off;
        ends_on = λ e r off on. not_off _ on (ends (of e) r ∙ off);
      }

no_wrong_point : (t b : List ℕ) (q : Request) (ws : List ℕ) → Demand3 t b q ws → Passed t b q ws → NoWrongPoint t b q ws
no_wrong_point t b q ws x e =
    record {
      dropped = λ n r before after off. not_off _ (x.keeps e n r before after) off;
      unpowered = λ c one n r h is m off. not_off _ (x.own e c one n h is r (rw (own_entry_is q _ _) m)) off;
    }

pub from_demand3 : FromDemand3
from_demand3 t b q ws x = (
  no_wrong_pass 1 (λ ws. ws) _ _ _ _ _ _ _ _ ws (λ e. mod-one (length ws)) (λ e. refl) x.exactly x.ends
      (λ kind plan done. rw one-mul (x.planner kind plan done)),
  no_wrong_point t b q ws x,
)

pub from_demand3_bytes : FromDemand3Bytes
from_demand3_bytes t b q list x = (
  no_wrong_pass 4 (λ l. byte_words (length l / 4) l) _ _ _ _ _ _ _ _ list x.multiple x.words x.demand.exactly x.demand.ends
      x.planner,
  λ e. no_wrong_point t b q _ x.demand (sym (ap number_of (x.words (x.multiple e))) ∙ e),
)

pub from_bring_up_checked : FromBringUpChecked
from_bring_up_checked t b ws x =
    no_wrong_pass 1 (λ ws. ws) _ _ _ _ _ _ _ _ ws (λ e. mod-one (length ws)) (λ e. refl) x.exactly x.ends
    (λ one plan done. rw one-mul (x.own plan done))

pub from_bring_up_checked_bytes : FromBringUpCheckedBytes
from_bring_up_checked_bytes t b list x =
    no_wrong_pass 4 (λ l. byte_words (length l / 4) l) _ _ _ _ _ _ _ _ list x.multiple x.words x.checked.exactly x.checked.ends
    (λ one. x.own)
