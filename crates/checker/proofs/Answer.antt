-- The checker whole: its walk is the test of the rules, and its answer that of the checks before and then 19.
use mathlib.Core.Path.{◌≡◌, sym, ap, ◌∙◌}
use mathlib.Core.Bool.{Bool, true, false, not}
use mathlib.Core.List.{List}
use Prim.Native.Nat.{ℕ}
use Rattle.rules.specs.declared.Change.{Change}
use Rattle.rules.specs.declared.Request.{Request}
use Rattle.rules.specs.Verdict.{Verdict}
use Rattle.std.specs.Prelude.{Ok, Err, IsErrAnd}
use Rattle.rules.specs.declared.Refusal.{Refusal}
use Rattle.rules.proofs.Answers.{ok_passed, err_stopped, handed_on}
use Rattle.laws.proofs.Demand3.{demand3}
use Rattle.rules.specs.Verdict.{refuse}
use Rattle.rules.specs.declared.Reason.TheVariants.{NotConforming}
use Rattle.rules.specs.Answers.{passes}
use Rattle.rules.specs.Station.{station}
use Rattle.rules.specs.Status.{Status, status}
use Rattle.rules.specs.Calls.{own_call, own_last, change_of}
use Rattle.rules.specs.Check.{conforming_to}
use Rattle.rules.specs.Outcomes.{stages_verdict, of_bytes, check_words, check_bytes}
use Rattle.status.specs.Ready.{status_with}
use Rattle.switching.specs.Phases.{walked}
use Rattle.switching.proofs.Walks.{walked_is}
use Rattle.switching.proofs.Answered.{list_refused, list_19, list_done}
use Rattle.request.proofs.Changes.{status_with_lem}

-- the walk over the change with the state's own on-set
pub test_is : (t b : List ℕ) (q : Request) (on : ℕ) (c : Change) (ws : List ℕ) (r : Bool)
    → on ≡ (status t b).on → c ≡ change_of (station t) (status_with t b on) q → r ≡ walked (station t) c.switching ws
    → r ≡ conforming_to (station t) (status t b) q ws
test_is t b q on c ws r e f g =
    let change : c ≡ change_of (station t) (status t b) q = f ∙ ap (λ (st : Status). change_of (station t) st q) (status_with_lem t b on e) in
    g ∙ ap (λ (x : Change). walked (station t) x.switching ws) change
    ∙ walked_is (station t) (own_call (station t) ((status t b).entries q.device) q) (own_last q) (status t b).on _ ws

-- ---- the answer. v is the answer of the checks before, c what the test said
module _ (t b : List ℕ) (q : Request) (list : List ℕ) (v : Verdict) (e : v ≡ stages_verdict true t b q) where
  -- of a list of words
  pub words_refused : passes v ≡ false → v ≡ check_words t b q list
  unfolding check_words
  words_refused n = list_refused _ v e _ n

  module _ (c : Bool) (n : passes v ≡ true) (g : c ≡ conforming_to (station t) (status t b) q list) where
    pub words_19 : not c ≡ true → refuse NotConforming 0 ≡ check_words t b q list
    unfolding check_words
    words_19 z = list_19 _ v e c _ n g z

    pub words_done : not c ≡ false → Ok 0 ≡ check_words t b q list
    unfolding check_words
    words_done z = list_done _ v e c _ n g z

  -- of a list of bytes
  pub bytes_refused : passes v ≡ false → v ≡ check_bytes t b q list
  unfolding check_bytes
  bytes_refused n = list_refused _ v e _ n

  module _ (c : Bool) (n : passes v ≡ true) (g : c ≡ of_bytes (conforming_to (station t) (status t b) q) list) where
    pub bytes_19 : not c ≡ true → refuse NotConforming 0 ≡ check_bytes t b q list
    unfolding check_bytes
    bytes_19 z = list_19 _ v e c _ n g z

    pub bytes_done : not c ≡ false → Ok 0 ≡ check_bytes t b q list
    unfolding check_bytes
    bytes_done z = list_done _ v e c _ n g z

-- ---- of a list of words, by the arm that the answer of the checks was matched by
module _ (t b : List ℕ) (q : Request) (list : List ℕ) (v : Verdict) (e : v ≡ stages_verdict true t b q) where
  module _ (r : Refusal) (a : v ≡ Err r) where
    pub words_err : Err r ≡ check_words t b q list
    words_err = sym a ∙ words_refused t b q list v e (err_stopped v r a)

    pub words_handed : (u : Verdict) → IsErrAnd u (λ y. y ≡ r) → u ≡ check_words t b q list
    words_handed u g = handed_on v u r a g ∙ words_refused t b q list v e (err_stopped v r a)

  module _ (n : ℕ) (a : v ≡ Ok n) (c : Bool) (g : c ≡ conforming_to (station t) (status t b) q list) where
    pub words_fail : not c ≡ true → refuse NotConforming 0 ≡ check_words t b q list
    words_fail = words_19 t b q list v e c (ok_passed v n a) g

    pub words_pass : not c ≡ false → Ok 0 ≡ check_words t b q list
    words_pass = words_done t b q list v e c (ok_passed v n a) g

pub ruleset word_stops = (words_err, words_handed, demand3)

pub ruleset word_arms = (words_fail, words_pass, demand3)

pub ruleset of_bytes_lem = (bytes_refused, bytes_19, bytes_done)
