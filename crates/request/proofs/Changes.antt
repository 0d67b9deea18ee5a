-- The change of a permitted request from its parts, and what the chain of stages has shown of the request.
use mathlib.Core.Path.{◌≡◌, refl, sym, ap, ◌∙◌}
use mathlib.Core.Bool.{Bool, true}
use mathlib.Core.List.{List}
use Prim.Native.Nat.{ℕ, ◌*◌, ◌^◌, ◌<◌}
use Rattle.rules.specs.declared.Entry.{Entry}
use Rattle.rules.specs.declared.Request.{Request}
use Rattle.rules.specs.declared.Call.{Call}
use Rattle.std.specs.Prelude.{Option}
use Rattle.rules.specs.Verdict.{Verdict}
use Rattle.rules.specs.declared.Change.{Change}
use Rattle.rules.specs.declared.Switching.{Switching}
use Rattle.rules.specs.Answers.{passes}
use Rattle.rules.specs.Station.{count_r, station_of, station}
use Rattle.rules.specs.Power.{needed}
use Rattle.rules.specs.Status.{entry_at, entries, status_of, status}
use Rattle.rules.specs.Request.{new_entry, replace_entry}
use Rattle.rules.specs.Calls.{own_call, own_last, end_set, switching_of, change_of}
use Rattle.rules.specs.Outcomes.{stages_verdict}
use Rattle.rules.proofs.Answers.{done_passes}
use Rattle.laws.proofs.States.{consistent_of, small, form_passed, form_device}
use Rattle.laws.proofs.Demand3.{able}
use Rattle.laws.proofs.Stages.{Stages, stages_of, stages_pass}
use Rattle.calls.proofs.OwnCall.{own_in_range}
use Rattle.status.specs.Ready.{status_with}
use Rattle.status.proofs.Keeps.{entry_ready}
use Rattle.switching.specs.Switching.{GoodSwitching}
use Rattle.switching.proofs.Made.{switching_good}
use Rattle.request.specs.Permitted.{PermittedRequest}
use Rattle.request.proofs.Chain.{ready_of}

-- ---- what a chain that passes has shown; v is its answer and p whether that passes
pub permitted_of : (t b : List ℕ) (q : Request) → Stages t b q → PermittedRequest t b q
permitted_of t b q g =
    let form = form_passed (station t) _ q g.request in
    let numbers = small (station t) q form in
    record {
      ready = ready_of t b g.table g.state;
      long = (consistent_of t b g.state).0;
      device = unfold station_of in form_device (station t) q form;
      first = numbers.0;
      second = numbers.1;
      passed = ap passes (stages_pass true t b q g refl) ∙ done_passes 0;
    }

pub permitted_by : (t b : List ℕ) (q : Request) (room : Bool) (v : Verdict) → v ≡ stages_verdict room t b q → passes v ≡ true → PermittedRequest t b q
permitted_by t b q room v e n = permitted_of t b q (stages_of room t b q (ap passes (sym e) ∙ n))

module _ (t b : List ℕ) (q : Request) (g : PermittedRequest t b q) where
  stages : Stages t b q
  stages = stages_of true t b q g.passed

  own_entry_lem : (e : Entry) → e ≡ entry_at b (4 * q.device) → e ≡ entries t b q.device
  own_entry_lem e read = entry_ready t b q.device e g.ready g.device read

  -- ---- the needed set, with the new entry f for e
  pub needed_is : (n : ℕ) (e f : Entry) → e ≡ entry_at b (4 * q.device) → f ≡ new_entry e q
      → n ≡ needed (station t) (replace_entry (entries t b) q.device f) → n ≡ end_set (station t) (entries t b) q
  unfolding end_set
  needed_is n e f read new need = need ∙ rw (new, own_entry_lem e read) refl

  -- it has resources of the table alone
  pub needed_lt : (n : ℕ) → n ≡ end_set (station t) (entries t b) q → n < 2 ^ count_r t
  unfolding status_of
  needed_lt n need = rw need (unfold station_of in (able t b q stages).end)

  -- ---- the parts together
  module _ (on n : ℕ) (e f : Entry) (o : Option Call) (l : Bool) (w : Switching) (is : w ≡ switching_of o l on n) where
    abbrev made : Change
    made = record { entry = f; needed = n; switching = w }

    module _ (read : e ≡ entry_at b (4 * q.device)) (new : f ≡ new_entry e q) (need : n ≡ end_set (station t) (entries t b) q)
        (own : o ≡ own_call (station t) e q) where
      pub change_is : l ≡ own_last q → made ≡ change_of (station t) (status_with t b on) q
      change_is last = rw (is, own, last, need, new, own_entry_lem e read) refl

      pub change_good : on < 2 ^ count_r t → GoodSwitching t w
      change_good h =
          rw is (switching_good o l on n t h (needed_lt n need) (own_in_range t e q o own g.ready.sized g.device g.first g.second))

pub ruleset changes = (needed_is, needed_lt, change_is, change_good)

-- the status of an image is that of its entries with its own on-set
pub status_with_lem : (t b : List ℕ) (on : ℕ) → on ≡ (status t b).on → status_with t b on ≡ status t b
unfolding status_of
status_with_lem t b on e = rw e refl

-- the on-set of a permitted request's state has resources of the table alone
pub on_small : (t b : List ℕ) (q : Request) (on : ℕ) → PermittedRequest t b q → on ≡ (status t b).on → on < 2 ^ count_r t
on_small t b q on g e = rw e (unfold station_of in (able t b q (stages_of true t b q g.passed)).start)
