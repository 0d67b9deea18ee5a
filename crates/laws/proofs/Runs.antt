-- After any run of requests from a fresh state, refused ones among them, the state image passes 7 and 8.
use mathlib.Core.Path.{◌≡◌, refl, ap, ◌∙◌}
use mathlib.Core.Bool.{true, false}
use mathlib.Core.List.{List, [], ◌∷◌}
use Prim.Native.Nat.{ℕ}
use Rattle.words.specs.Words.{put, word_bytes}
use Rattle.sets.proofs.Laws.{decide}
use Rattle.rules.specs.declared.Request.{Request}
use Rattle.rules.specs.Verdict.{Verdict}
use Rattle.std.specs.Prelude.{Ok}
use Rattle.rules.specs.Answers.{number_of, passes}
use Rattle.rules.specs.Station.{width, station}
use Rattle.rules.specs.Status.{image_of, fresh_status, state_verdict}
use Rattle.rules.specs.Sleep.{is_sleep}
use Rattle.rules.specs.Outcomes.{outcome, fresh, fresh_verdict, planned, plan_verdict, plan_outcome, plan_bytes, state_after, sleep_list}
use Rattle.rules.specs.Outcomes.{state_for_sleep}
use Rattle.rules.proofs.Answers.{first_both, first_through, done_passes}
use Rattle.laws.specs.Runs.{Turn, state_after_all, StaysConsistent}
use Rattle.laws.proofs.States.{fresh_consistent, after_consistent}
use Rattle.laws.proofs.Stages.{stages_of}
use Rattle.laws.proofs.Lists.{number_passes, plan_checks}
use Rattle.laws.proofs.Plans.{bytes_request, bytes_sleep}
use Rattle.laws.proofs.SleepStages.{sleep_of}
use Rattle.laws.proofs.Sleep.{sleep_states}

-- what an outcome leaves in the state
outcome_done : (v : Verdict) (b p b' p' : List ℕ) → passes v ≡ true → (outcome v b p b' p').state ≡ b'
unfolding outcome
outcome_done v b p b' p' e = rw e refl

outcome_refused : (v : Verdict) (b p b' p' : List ℕ) → passes v ≡ false → (outcome v b p b' p').state ≡ b
unfolding outcome
outcome_refused v b p b' p' e = rw e refl

-- one request: the state is consistent if it was and, where the checks pass, the new one is
left_consistent : (t b plan b' words : List ℕ) (checks : Verdict) → (passes checks ≡ true → passes (state_verdict t b') ≡ true)
    → passes (state_verdict t b) ≡ true → passes (state_verdict t (plan_outcome word_bytes checks b plan b' words).state) ≡ true
unfolding plan_outcome
left_consistent t b plan b' words checks new f =
    let v = plan_verdict checks words in
    let bytes = put plan 0 (word_bytes words) in
    decide (passes v) (λ y. rw (outcome_done v b plan b' bytes y) (new (plan_checks checks words y)))
    (λ y. rw (outcome_refused v b plan b' bytes y) f)

-- of any kind, accepted or refused
plan_consistent : (t b : List ℕ) (q : Request) (plan : List ℕ) → passes (state_verdict t b) ≡ true
    → passes (state_verdict t (plan_bytes t b q plan).state) ≡ true
plan_consistent t b q plan f =
    decide (is_sleep q)
    (λ k. rw (bytes_sleep t b q plan k) (left_consistent t b plan (state_for_sleep t b q.a) (sleep_list t b q.a) _
    (λ y. (sleep_states t b q (sleep_of _ t b q y).0).state) f))
    (λ k. rw (bytes_request t b q plan k) (left_consistent t b plan (state_after t b q) (planned t b q) _
    (λ y. let z = stages_of _ t b q y in ap passes (after_consistent t b q z.table z.state z.request) ∙ done_passes 0) f))

run_consistent : (t b : List ℕ) (rs : List Turn) → passes (state_verdict t b) ≡ true → passes (state_verdict t (state_after_all t b rs)) ≡ true
unfolding state_after_all
run_consistent t b [] f = f
run_consistent t b (r ∷ rs) f =
    run_consistent t (plan_bytes t b r.request r.plan).state rs (plan_consistent t b r.request r.plan f)

-- from fresh
pub fresh_run_consistent : (t b : List ℕ) (rs : List Turn) → StaysConsistent t b rs
unfolding fresh fresh_verdict outcome state_verdict
fresh_run_consistent t b rs n =
    let e = number_passes _ n in
    let table = (first_both _ _ _ e).0 in
    let img = image_of (width t) (fresh_status (station t)) in
    ap number_of (first_through _ (Ok 0)
    (run_consistent t _ rs (rw (outcome_done (fresh_verdict t b) b [] img [] e, fresh_consistent t table) (done_passes 0))))
