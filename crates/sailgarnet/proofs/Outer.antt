-- Lists as bytes, tested as words, and why one of more than 65 words never conforms.
use mathlib.Core.Path.{◌≡◌, refl, sym, ap, ◌∙◌}
use mathlib.Core.Bool.{Bool, true, false, ◌&&◌, true≢false}
use mathlib.Core.List.{List}
use Prim.Native.Nat.{ℕ, ◌*◌, ◌/◌, ◌%◌, ◌≤◌}
use native.Mathlib.Omega.{arith}
use borrow.Author.Tests.{eqb-true, leb-true, leb-false}
use lib.Dec.{eqb, leb}
use lib.ListN.{length}
use Rattle.sets.proofs.Laws.{decide}
use Rattle.words.specs.Words.{byte_words}
use Rattle.words.proofs.Laws.{byte_words_length}
use Rattle.rules.specs.declared.Request.{Request}
use Rattle.rules.specs.Station.{station}
use Rattle.rules.specs.Status.{status}
use Rattle.rules.specs.Check.{conforming_to}
use Rattle.rules.specs.Outcomes.{of_bytes}
use Rattle.rules.specs.BringUp.{conforming_to_bring_up}
use Rattle.laws.proofs.Tests.{both_true}
use Rattle.laws.proofs.Stages.{stages_of, bring_up_of}
use Rattle.request.specs.Permitted.{PermittedRequest}
use Rattle.bringup.specs.Passed.{BringUpState}
use Rattle.std.specs.Prelude.{Option, Some, None}
use Rattle.std.specs.Bool.{then_some}
use Rattle.sailgarnet.specs.Lists.{words_in_bytes, OnWords}
use Rattle.switching.proofs.Short.{list_short, up_list_short}
use Rattle.planner.proofs.Room.{room_65}

-- ---- how many words a list has
pub count_is : (n : ℕ) (b : Bool) (c : Option ℕ) → c ≡ then_some b (n / 4) → b ≡ (eqb (n % 4) 0 && leb (n / 4) 65) → c ≡ words_in_bytes n
unfolding words_in_bytes
count_is n b c e f = e ∙ rw f (decide (eqb (n % 4) 0 && leb (n / 4) 65) (λ p. rw p refl) (λ p. rw p refl))

-- what the count says of the length
is_list : Option ℕ → Bool
is_list (Some k) = true
is_list None = false

count_some : (n k : ℕ) → words_in_bytes n ≡ Some k → (n % 4 ≡ 0) × (k ≡ n / 4) × (k ≤ 65)
unfolding words_in_bytes is_list
count_some n k e =
    decide (eqb (n % 4) 0 && leb (n / 4) 65)
    (λ p.
    let both = both_true (eqb (n % 4) 0) (leb (n / 4) 65) p in
    let same : n / 4 ≡ k = inside (n / 4) (rw p at e) in
    (eqb-true (n % 4) 0 both.0, sym same, omega (arith, leb-true (n / 4) 65 both.1)))
    (λ p. absurd (true≢false (sym (ap is_list (rw p at e)))))
  where
    inside : (j : ℕ) → Some j ≡ Some k → j ≡ k
    inside j p = cc

-- a test that no list of more than 65 words passes
abbrev pub Short : (List ℕ → Bool) → Type 0
Short test = (ws : List ℕ) → test ws ≡ true → length ws ≤ 65

pub request_short : (t b : List ℕ) (q : Request) → PermittedRequest t b q → Short (conforming_to (station t) (status t b) q)
request_short t b q g ws e = omega (arith, room_65 t, list_short t b q (stages_of true t b q g.passed) ws e)

pub bring_up_short : (t b : List ℕ) → BringUpState t b → Short (conforming_to_bring_up (station t) (status t b))
bring_up_short t b g ws e = omega (arith, room_65 t, up_list_short t b (bring_up_of true t b g.passed).0 ws e)

-- what such a test says of the words of a list is what it says of the list
pub of_bytes_is : (test : List ℕ → Bool) (says : List ℕ → Bool → Type 0) (list : List ℕ) (r : Bool) → Short test
    → ((ws : List ℕ) (b : Bool) → says ws b → b ≡ test ws) → OnWords says list r → r ≡ of_bytes test list
unfolding of_bytes words_in_bytes
of_bytes_is test says list r short is on =
    let n = length list / 4 in
    decide (eqb (length list % 4) 0)
    (λ p. decide (leb n 65)
    (λ q. rw p (is (byte_words n list) r (on.words n (rw (p, q) refl))))
    (λ q. rw p (on.none (rw (p, q) refl) ∙ decide (test (byte_words n list))
    (λ y. absurd (omega (arith, short (byte_words n list) y, byte_words_length n list, leb-false n 65 q)))
    (λ y. sym y))))
    (λ p. rw p (on.none (rw p refl)))

-- c is the count of a list: it has so many words, which are no more than 65
pub list_fits : (list : List ℕ) (c : Option ℕ) (n : ℕ) → c ≡ words_in_bytes (length list) → c ≡ Some n → (4 * n ≤ length list) × (n ≤ 65)
list_fits list c n is e = let k = count_some (length list) n (sym is ∙ e) in (omega (arith, k.1), k.2)
