-- From demand 3 and from what the checker of bring-up promises: a checker that passes all or none does not keep it, and of a list that
-- passes no resource is off where it must be on.
use Rattle.std.specs.Prelude.{ℕ, ◌*◌, ◌/◌, ◌%◌, ◌<◌, ◌≡◌, Bool, true, false, cond, List, ◌≢◌, length, get_or, take}
use Rattle.sets.specs.Sets.{member}
use Rattle.words.specs.Words.{byte_words}
use Rattle.rules.specs.declared.Request.{Request}
use Rattle.rules.specs.declared.Call.{Call}
use Rattle.std.specs.Prelude.{Some}
use Rattle.rules.specs.Verdict.{Verdict}
use Rattle.rules.specs.Answers.{number_of, count_of}
use Rattle.rules.specs.Station.{station}
use Rattle.rules.specs.Power.{needs, needed}
use Rattle.rules.specs.Status.{status}
use Rattle.rules.specs.Request.{entries_after}
use Rattle.rules.specs.Calls.{word_of, own_call, own_last, end_set}
use Rattle.rules.specs.Conforms.{ConformsTo}
use Rattle.rules.specs.Execution.{execution}
use Rattle.rules.specs.Sleep.{is_sleep}
use Rattle.rules.specs.Outcomes.{Outcome, plan_words, plan_bytes, check_words, check_bytes}
use Rattle.rules.specs.BringUp.{bring_up_words, bring_up_bytes, ConformsToBringUp, check_bring_up_words, check_bring_up_bytes}
use Rattle.laws.specs.Demand3.{Permitted, Demand3, Demand3Bytes}
use Rattle.laws.specs.BringUp.{CanBringUp, BringUpChecked, BringUpCheckedBytes}
use Rattle.laws.specs.About.Planner.{NotRefused}

-- a checker's answer to a list, a word having `size` elements of it. `check` is the checker, `words_of` gives the list's words, and
-- `check_of_words` is the checker on these; `plan_on` gives what is left of a plan, which is one list where `OneList` holds; `start` is on
-- before the list, `target` is to be on after it
pub record NoWrongPass (size : ℕ) (words_of : List ℕ → List ℕ) (check check_of_words : List ℕ → Verdict) (OneList : Type 0)
    (plan_on : List ℕ → Outcome) (MayPass : Type 0) (Conforming : List ℕ → Type 0) (start target : ℕ → Bool) (list : List ℕ) : Type 0 where
  -- it does not pass all: a list that does not conform, or is cut off within a word, does not pass
  pub passes_all : MayPass → (Conforming (words_of list) → ⊥) → number_of (check list) ≢ 0
  pub cut_off : length list % size ≢ 0 → number_of (check list) ≢ 0
  -- it does not refuse all: not a list that conforms, nor the planner's own
  pub refuses_all : MayPass → Conforming (words_of list) → length list % size ≡ 0 → NotRefused (number_of (check list))
  pub refuses_own : OneList → (plan : List ℕ) → number_of (plan_on plan).verdict ≡ 0
      → NotRefused (number_of (check (take (size * count_of (plan_on plan).verdict) (plan_on plan).plan)))
  -- it gives no other answer than to the list's words
  pub other_answer : length list % size ≡ 0 → (v : Verdict) → check_of_words (words_of list) ≡ v → check list ≢ v → ⊥
  -- a list that passes ends with nothing of the target off, and with nothing else on
  pub ends_off : number_of (check list) ≡ 0 → (r : ℕ) → target r ≡ true → execution start (words_of list) r ≢ false
  pub ends_on : number_of (check list) ≡ 0 → (r : ℕ) → target r ≡ false → execution start (words_of list) r ≢ true

-- a list of words that passes for a request
pub record NoWrongPoint (t b : List ℕ) (q : Request) (ws : List ℕ) : Type 0 where
  -- at no point of it is a resource off that is needed before and after
  pub dropped : (n r : ℕ) → member (needed (station t) (status t b).entries) r ≡ true
      → member (end_set (station t) (status t b).entries q) r ≡ true → execution (member (status t b).on) (take n ws) r ≢ false
  -- nowhere does the device's own method stand with a need of the device off: where it comes last a need from after, else one from before
  pub unpowered : (c : Call) → own_call (station t) ((status t b).entries q.device) q ≡ Some c
      → (n r : ℕ) → n < length ws → get_or ws n 0 ≡ word_of c
      → member (needs (station t) q.device (cond (own_last q) (entries_after (status t b).entries q q.device)
      ((status t b).entries q.device))) r ≡ true → execution (member (status t b).on) (take n ws) r ≢ false

-- demand 3 of words, and of bytes, four a word
abbrev pub NoWrongCheck : ℕ → (List ℕ → List ℕ) → (List ℕ → List ℕ → Request → List ℕ → Verdict)
    → (List ℕ → List ℕ → Request → List ℕ → Outcome) → List ℕ → List ℕ → Request → List ℕ → Type 0
NoWrongCheck size words_of check plan_on t b q list =
    NoWrongPass size words_of (check t b q) (check_words t b q) (is_sleep q ≡ false) (plan_on t b q) (Permitted t b q)
    (ConformsTo (station t) (status t b) q) (member (status t b).on) (member (end_set (station t) (status t b).entries q)) list
    × (number_of (check t b q list) ≡ 0 → NoWrongPoint t b q (words_of list))

abbrev pub FromDemand3 : Type 0
FromDemand3 =
    (t b : List ℕ) (q : Request) (ws : List ℕ) → Demand3 t b q ws → NoWrongCheck 1 (λ ws. ws) check_words plan_words t b q ws

abbrev pub FromDemand3Bytes : Type 0
FromDemand3Bytes =
    (t b : List ℕ) (q : Request) (list : List ℕ) → Demand3Bytes t b q list
    → NoWrongCheck 4 (λ l. byte_words (length l / 4) l) check_bytes plan_bytes t b q list

-- the checker of bring-up, of words and of bytes
abbrev pub NoWrongBringUpCheck : ℕ → (List ℕ → List ℕ) → (List ℕ → List ℕ → List ℕ → Verdict)
    → (List ℕ → List ℕ → List ℕ → Outcome) → List ℕ → List ℕ → List ℕ → Type 0
NoWrongBringUpCheck size words_of check bring_up t b list =
    NoWrongPass size words_of (check t b) (check_bring_up_words t b) (Unit {0}) (bring_up t b) (CanBringUp t b)
    (ConformsToBringUp (station t) (status t b)) (member (status t b).on) (member (needed (station t) (status t b).entries)) list

abbrev pub FromBringUpChecked : Type 0
FromBringUpChecked =
    (t b ws : List ℕ) → BringUpChecked t b ws → NoWrongBringUpCheck 1 (λ ws. ws) check_bring_up_words bring_up_words t b ws

abbrev pub FromBringUpCheckedBytes : Type 0
FromBringUpCheckedBytes =
    (t b list : List ℕ) → BringUpCheckedBytes t b list
    → NoWrongBringUpCheck 4 (λ l. byte_words (length l / 4) l) check_bring_up_bytes bring_up_bytes t b list
