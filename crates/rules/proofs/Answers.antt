-- The laws of chains of checks: an answer passes exactly if each check does, and each check is what it tests.
use mathlib.Core.Path.{◌≡◌, refl, sym, ap, ◌∙◌}
use mathlib.Core.Bool.{Bool, true, false, true≢false}
use mathlib.Core.List.{List, [], ◌∷◌}
use Prim.Native.Nat.{ℕ, ◌<◌, ◌≤◌}
use native.Mathlib.Omega.{arith}
use borrow.Author.Tests.{ltb-true, ltb-false, lt-ltb, le-ltb}
use lib.Dec.{ltb}
use Rattle.rules.specs.Verdict.{Verdict}
use Rattle.std.specs.Prelude.{Ok, Err, is_ok, IsErrAnd}
use Rattle.std.proofs.lemmas.Result.{err_from_is_err_and}
use Rattle.rules.specs.declared.Refusal.{Refusal}
use Rattle.rules.specs.Verdict.{refuse}
use Rattle.rules.specs.declared.Reason.{Reason}
use Rattle.rules.specs.declared.Reason.TheVariants.{NotATable, TooMany, WrongLength, BadResource, BadDevice, BadObjects}
use Rattle.rules.specs.declared.Reason.TheVariants.{BadState, Inconsistent, NoRoom, BadRequest, Unsupported, Shallower}
use Rattle.rules.specs.declared.Reason.TheVariants.{ParentDeeper, ChildShallower, TooDeepToWake, NoWake, WakeUnpowered}
use Rattle.rules.specs.declared.Reason.TheVariants.{BadWakeState, NotConforming, ArmedForOther, NoChoice}
use Rattle.std.specs.Prelude.{Some, None}
use Rattle.rules.specs.Index.{least, least_option}
use Rattle.rules.specs.Answers.{reason_number, passes, first_of, unless, lowest}
use Rattle.rules.proofs.Index.{none_below, no_hit, least_of_some, least_of_none}

-- ---- what is done passes, and a refusal does not
pub done_passes : (n : ℕ) → passes (Ok n) ≡ true
unfolding passes
done_passes n = refl

pub refused_stops : (why : Reason) (at : ℕ) → passes (refuse why at) ≡ false
unfolding passes
refused_stops why at = refl

-- what the library says of a result is the same test
pub ok_passes : (v : Verdict) → is_ok v ≡ passes v
unfolding passes
ok_passes (Ok n) = refl
ok_passes (Err r) = refl

-- ---- a check that passes is left behind, and a refusal is the answer
pub first_pass : (v : Verdict) (vs : List Verdict) (last : Verdict) → passes v ≡ true → first_of (v ∷ vs) last ≡ first_of vs last
unfolding first_of
first_pass v vs last e = rw (e, first_of) refl

pub first_stop : (v : Verdict) (vs : List Verdict) (last : Verdict) → passes v ≡ false → first_of (v ∷ vs) last ≡ v
unfolding first_of
first_stop v vs last e = rw (e, first_of) refl

pub first_none : (last : Verdict) → first_of [] last ≡ last
unfolding first_of
first_none last = refl

-- a chain that passes: its first check passes, and so does the rest
pub first_both : (v : Verdict) (vs : List Verdict) (last : Verdict) → passes (first_of (v ∷ vs) last) ≡ true → (passes v ≡ true)
    × (passes (first_of vs last) ≡ true)
first_both v vs last e = go (passes v) refl
  where
    go : (b : Bool) → passes v ≡ b → (passes v ≡ true) × (passes (first_of vs last) ≡ true)
    go true p = (p, rw (first_pass v vs last p) at e)
    go false p = absurd (true≢false (sym e ∙ ap passes (first_stop v vs last p) ∙ p))

-- a chain that passes gives its last answer, and one that does not is the same whatever its last answer
pub first_through : (vs : List Verdict) (last : Verdict) → passes (first_of vs (Ok 0)) ≡ true → first_of vs last ≡ last
first_through [] last e = first_none last
first_through (v ∷ vs) last e = let b = first_both v vs (Ok 0) e in first_pass v vs last b.0 ∙ first_through vs last b.1

pub first_same : (vs : List Verdict) (last : Verdict) → passes (first_of vs (Ok 0)) ≡ false → first_of vs last ≡ first_of vs (Ok 0)
first_same [] last e = absurd (true≢false (sym (ap passes (first_none (Ok 0)) ∙ done_passes 0) ∙ e))
first_same (v ∷ vs) last e = let rest = first_same vs last in go (passes v) refl rest
  where
    go : (b : Bool) → passes v ≡ b → (passes (first_of vs (Ok 0)) ≡ false → first_of vs last ≡ first_of vs (Ok 0))
        → first_of (v ∷ vs) last ≡ first_of (v ∷ vs) (Ok 0)
    go true p f = first_pass v vs last p ∙ f (sym (ap passes (first_pass v vs (Ok 0) p)) ∙ e) ∙ sym (first_pass v vs (Ok 0) p)
    go false p f = first_stop v vs last p ∙ sym (first_stop v vs (Ok 0) p)

-- a chain alone in a chain is itself
pub first_alone : (vs : List Verdict) → first_of (first_of vs (Ok 0) ∷ []) (Ok 0) ≡ first_of vs (Ok 0)
first_alone vs = go (passes (first_of vs (Ok 0))) refl
  where
    go : (b : Bool) → passes (first_of vs (Ok 0)) ≡ b → first_of (first_of vs (Ok 0) ∷ []) (Ok 0) ≡ first_of vs (Ok 0)
    go true p = first_pass (first_of vs (Ok 0)) [] (Ok 0) p ∙ first_none (Ok 0) ∙ sym (first_through vs (Ok 0) p)
    go false p = first_stop (first_of vs (Ok 0)) [] (Ok 0) p

-- ---- one check
pub unless_of : (good : Bool) (why : Reason) (at : ℕ) → good ≡ true → unless good why at ≡ Ok 0
unfolding unless
unless_of good why at e = rw e

pub unless_stop : (good : Bool) (why : Reason) (at : ℕ) → good ≡ false → unless good why at ≡ refuse why at
unfolding unless
unless_stop good why at e = rw e

pub unless_at : (good : Bool) (why : Reason) (at : ℕ) → passes (unless good why at) ≡ true → good ≡ true
unfolding passes
unless_at true why at e = refl
unless_at false why at e = absurd (true≢false (sym e ∙ ap passes (unless_stop false why at refl)))

-- ---- a check of the numbers below n
pub lowest_of_lem : (bad : ℕ → Bool) (n : ℕ) (refusal : ℕ → Verdict) → ((i : ℕ) → i < n → bad i ≡ false) → lowest bad n refusal ≡ Ok 0
unfolding lowest
lowest_of_lem bad n refusal h = rw (le-ltb (least bad n) n (omega (arith, no_hit bad 0 n (λ j a b. h j (omega arith)))))

pub lowest_stop : (bad : ℕ → Bool) (n i : ℕ) (refusal : ℕ → Verdict) → i ≡ least bad n → i < n → lowest bad n refusal ≡ refusal i
unfolding lowest
lowest_stop bad n i refusal e h = rw (← e, lt-ltb i n h)

pub lowest_none : (bad : ℕ → Bool) (n i : ℕ) (refusal : ℕ → Verdict) → i ≡ least bad n → n ≤ i → lowest bad n refusal ≡ Ok 0
unfolding lowest
lowest_none bad n i refusal e h = rw (← e, le-ltb i n h)

-- the same by the lowest bad one as an option
pub lowest_some : (bad : ℕ → Bool) (n i : ℕ) (refusal : ℕ → Verdict) → Some i ≡ least_option bad n → refusal i ≡ lowest bad n refusal
lowest_some bad n i refusal e = let l = least_of_some bad n i e in sym (lowest_stop bad n i refusal l.0 l.1)

pub lowest_no : (bad : ℕ → Bool) (n : ℕ) (refusal : ℕ → Verdict) → None ≡ least_option bad n → lowest bad n refusal ≡ Ok 0
lowest_no bad n refusal e = lowest_none bad n (least bad n) refusal refl (least_of_none bad n e)

pub lowest_at : (bad : ℕ → Bool) (n : ℕ) (refusal : ℕ → Verdict) → ((i : ℕ) → passes (refusal i) ≡ false)
    → passes (lowest bad n refusal) ≡ true → (i : ℕ) → i < n → bad i ≡ false
lowest_at bad n refusal p e i h = go (ltb (least bad n) n) refl
  where
    go : (b : Bool) → ltb (least bad n) n ≡ b → bad i ≡ false
    go true q = absurd (true≢false (sym e ∙ ap passes (lowest_stop bad n (least bad n) refusal refl
        (ltb-true (least bad n) n q)) ∙ p (least bad n)))
    go false q = none_below bad 0 n i (omega arith) (omega (arith, ltb-false (least bad n) n q))

-- ---- no refusal has number 0
pub no_reason_0 : (why : Reason) → reason_number why ≡ 0 → ⊥
no_reason_0 NotATable e = omega arith
no_reason_0 TooMany e = omega arith
no_reason_0 WrongLength e = omega arith
no_reason_0 BadResource e = omega arith
no_reason_0 BadDevice e = omega arith
no_reason_0 BadObjects e = omega arith
no_reason_0 BadState e = omega arith
no_reason_0 Inconsistent e = omega arith
no_reason_0 NoRoom e = omega arith
no_reason_0 BadRequest e = omega arith
no_reason_0 Unsupported e = omega arith
no_reason_0 Shallower e = omega arith
no_reason_0 ParentDeeper e = omega arith
no_reason_0 ChildShallower e = omega arith
no_reason_0 TooDeepToWake e = omega arith
no_reason_0 NoWake e = omega arith
no_reason_0 WakeUnpowered e = omega arith
no_reason_0 BadWakeState e = omega arith
no_reason_0 NotConforming e = omega arith
no_reason_0 ArmedForOther e = omega arith
no_reason_0 NoChoice e = omega arith

-- ---- v is an answer as code has it, w what it is by the rules
module _ (v w : Verdict) (e : v ≡ w) where
  pub answer_passed : passes v ≡ true → passes w ≡ true
  answer_passed n = ap passes (sym e) ∙ n

  pub answer_stopped : passes v ≡ false → passes w ≡ false
  answer_stopped n = ap passes (sym e) ∙ n

-- ---- where `?` goes on and where it returns, and that it returns the refusal as it is
pub ok_passed : (v : Verdict) (n : ℕ) → v ≡ Ok n → passes v ≡ true
ok_passed v n e = ap passes e ∙ done_passes n

pub err_stopped : (v : Verdict) (r : Refusal) → v ≡ Err r → passes v ≡ false
err_stopped v r e = ap passes e ∙ refused_stops r.0 r.1

pub handed_on : (v u : Verdict) (r : Refusal) → v ≡ Err r → IsErrAnd u (λ y. y ≡ r) → u ≡ v
handed_on v u r e g = let p = err_from_is_err_and u g in p.1 ∙ ap Err p.2 ∙ sym e
