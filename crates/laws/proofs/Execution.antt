-- Carrying out a list: a word that is neither `_ON` nor `_OFF` leaves the set, a run of `_ON` words adds to it, a run of `_OFF` words takes
-- from it.
-- From this the execution theorem: any list arranged as other words, ONs, OFFs, other words takes one set to another and keeps what is in
-- both.
use mathlib.Core.Path.{◌≡◌, refl, sym, ◌∙◌, fun_ext}
use mathlib.Core.Bool.{Bool, true, false, not, cond, ◌&&◌, true≢false, and-false}
use mathlib.Core.List.{List, [], ◌∷◌, ◌++◌, map, append_assoc}
use Prim.Native.Nat.{ℕ, ◌+◌, ◌-◌, ◌/◌, ◌%◌, ◌<◌}
use native.Mathlib.Omega.{arith}
use native.Mathlib.Nat.{zero-add}
use borrow.Author.Tests.{ne_eqb, lt-ltb}
use lib.Dec.{eqb, ltb}
use lib.ListN.{length, take}
use lib.Seq.{take-append-le, take-append-add}
use Rattle.sets.proofs.Laws.{decide}
use Rattle.rules.specs.Execution.{carry_out, execution}
use Rattle.rules.specs.Conforms.{times}
use Rattle.rules.specs.Check.{on_word, off_word}
use Rattle.laws.specs.Carried.{All, Other, has_in, listed, Arranged, Carried}
use Rattle.laws.proofs.All.{all_append, all_take, all_map, all_imp, all_both}

cond_same : (b x : Bool) → cond b x x ≡ x
cond_same true x = refl
cond_same false x = refl

-- ---- one word

pub other_leaves : (w : ℕ) → Other w → (on : ℕ → Bool) → carry_out on w ≡ on
unfolding carry_out
other_leaves w h on =
    fun_ext (λ r. rw (ne_eqb (w % 0x100) 1 (omega arith), ne_eqb (w % 0x100) 2 (omega arith))
    (cond_same (eqb (w / 0x1_0000) 0 && eqb (w / 0x100 % 0x100) r) (on r)))

-- the word that puts r in, or takes it out
abbrev pub put_word : Bool → ℕ → ℕ
put_word b r = cond b (on_word r) (off_word r)

pub switches : (b : Bool) (on : ℕ → Bool) (r k : ℕ) → r < 256 → carry_out on (put_word b r) k ≡ cond (eqb r k) b (on k)
unfolding carry_out
switches true on r k h =
    let a : on_word r / 0x1_0000 ≡ 0 = omega arith in
    let b : on_word r / 0x100 % 0x100 ≡ r = omega arith in
    let c : on_word r % 0x100 ≡ 1 = omega arith in
    rw (a, b, c)
switches false on r k h =
    let a : off_word r / 0x1_0000 ≡ 0 = omega arith in
    let b : off_word r / 0x100 % 0x100 ≡ r = omega arith in
    let c : off_word r % 0x100 ≡ 2 = omega arith in
    rw (a, b, c)

-- ---- runs of words

pub run_append : (a b : List ℕ) (on : ℕ → Bool) → execution on (a ++ b) ≡ execution (execution on a) b
unfolding execution
run_append [] b on = refl
run_append (w ∷ a) b on = run_append a b (carry_out on w)

pub run_others : (ws : List ℕ) → All Other ws → (on : ℕ → Bool) → execution on ws ≡ on
unfolding execution All
run_others [] a on = refl
run_others (w ∷ ws) a on = rw (other_leaves w a.0 on) (run_others ws a.1 on)

has_cons : (b : Bool) (k n : ℕ) (x y : Bool) → cond (ltb 0 n) x (cond b x y) ≡ cond (ltb 0 (cond b 1 0 + n)) x y
has_cons true k n x y = rw (lt-ltb 0 (1 + n) (omega arith)) (cond_same (ltb 0 n) x)
has_cons false k n x y = rw (zero-add n) refl

pub run_switch : (b : Bool) (l : List ℕ) → All (λ r. r < 256) l → (on : ℕ → Bool) (k : ℕ) → execution on (map (put_word b) l) k ≡ cond
    (has_in k l) b (on k)
unfolding execution All times
run_switch b [] a on k = refl
run_switch b (x ∷ l) a on k =
    run_switch b l a.1 (carry_out on (put_word b x)) k
    ∙ rw (switches b on x k a.0) (has_cons (eqb x k) k (times k l) b (on k))

-- ---- what stays on: no word of the list takes r out
abbrev pub Keeps : ℕ → ℕ → Type 0
Keeps r w = (on : ℕ → Bool) → on r ≡ true → carry_out on w r ≡ true

pub run_keeps : (r : ℕ) (ws : List ℕ) → All (Keeps r) ws → (on : ℕ → Bool) → on r ≡ true → execution on ws r ≡ true
unfolding execution All
run_keeps r [] a on h = h
run_keeps r (w ∷ ws) a on h = run_keeps r ws a.1 (carry_out on w) (a.0 on h)

others_keep : (r w : ℕ) → Other w → Keeps r w
others_keep r w o on h = rw (other_leaves w o on) h

-- what switches another resource, or switches on, takes nothing out
switch_keeps : (b : Bool) (r x : ℕ) → x < 256 → eqb x r && not b ≡ false → Keeps r (put_word b x)
switch_keeps b r x h f on e = rw (switches b on x r h, e) (go b (eqb x r) f)
  where
    go : (b c : Bool) → c && not b ≡ false → cond c b true ≡ true
    go true true f = refl
    go true false f = refl
    go false true f = sym f
    go false false f = refl

not_in : (r : ℕ) (l : List ℕ) → has_in r l ≡ false → All (λ x. eqb x r && true ≡ false) l
unfolding All times
not_in r [] h = tt
not_in r (x ∷ l) h =
    decide (eqb x r) (λ e. absurd (true≢false (sym (rw e (lt-ltb 0 (1 + times r l) (omega arith))) ∙ h)))
    (λ e. (rw e refl, not_in r l (sym (rw (e, zero-add (times r l)) refl) ∙ h)))

-- ---- the theorem
module _ {start target : ℕ → Bool} {first ons offs last : List ℕ} (a : Arranged start target first ons offs last) where
  -- after the ONs and OFFs the set is the target
  middle_ends : execution start (first ++ map on_word ons ++ map off_word offs) ≡ target
  middle_ends =
      rw (
        run_append (first ++ map on_word ons) (map off_word offs) start,
        run_append first (map on_word ons) start,
        run_others first
            a.first_other start,
      )
      (fun_ext (λ r.
      run_switch false offs a.offs_small (execution start (map on_word ons)) r
      ∙ rw (run_switch true ons a.ons_small start r, a.ons_are r, a.offs_are r) (go (start r) (target r))))
    where
      go : (x y : Bool) → cond (x && not y) false (cond (y && not x) true x) ≡ y
      go true true = refl
      go true false = refl
      go false true = refl
      go false false = refl

  all_keep : (r : ℕ) → start r ≡ true → target r ≡ true → All (Keeps r) (listed first ons offs last)
  all_keep r x y =
      let others = all_imp Other (Keeps r) (others_keep r) in
      let none : has_in r offs ≡ false = a.offs_are r ∙ rw (x, y) refl in
      all_append (Keeps r) _ last
      (all_append (Keeps r) _ (map off_word offs)
      (all_append (Keeps r) first (map on_word ons) (others first a.first_other)
      (all_map (Keeps r) on_word ons (all_imp (λ k. k < 256) (λ k. Keeps r (on_word k))
      (λ k h. switch_keeps true r k h (and-false (eqb k r))) ons a.ons_small)))
      (all_map (Keeps r) off_word offs (all_both (λ k. k < 256) (λ k. eqb k r && true ≡ false) (λ k. Keeps r (off_word k))
      (λ k h. switch_keeps false r k h) offs a.offs_small (not_in r offs none))))
      (others last a.last_other)

  pub carried : Carried start target first ons offs last
  carried =
      let m = first ++ map on_word ons ++ map off_word offs in
      let rest : listed first ons offs last ≡ first ++ (map on_word ons ++ map off_word offs ++ last) = simp append_assoc in
      record {
        keeps = λ n r x y. run_keeps r (take n (listed first ons offs last)) (all_take (Keeps r) n (listed first ons offs last)
            (all_keep r x y)) start x;
        ends = λ r. rw (run_append m last start, middle_ends, run_others last a.last_other target) refl;
        first_finds = λ n r h. rw (
          rest,
          take-append-le n first (map on_word ons ++ map off_word offs ++ last) h,
          run_others (take n first)
              (all_take Other n first a.first_other) start,
        ) refl;
        last_finds = λ n r h.
            let k = n - length m in
            let e : n ≡ length m + k = omega arith in
            rw (
              e,
              take-append-add m last k,
              run_append m (take k last) start,
              middle_ends,
              run_others (take k last)
                  (all_take Other k last a.last_other) target,
            ) refl;
      }
