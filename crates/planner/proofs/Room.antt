-- 65 words are room for the list of a request in either version: what is written into a buffer of that many stays inside it.
use mathlib.Core.Path.{◌≡◌, refl, ap, ◌∙◌}
use mathlib.Core.Bool.{true}
use mathlib.Core.List.{List}
use Prim.Native.Nat.{ℕ, ◌+◌, ◌*◌, ◌≤◌}
use native.Mathlib.Nat.{mul-le-mul}
use native.Mathlib.Omega.{arith}
use mir.Syntax.{w64}
use mir.Val.{Fits}
use lib.ListN.{length}
use Rattle.words.proofs.Put.{length_put}
use Rattle.rules.specs.declared.Request.{Request}
use Rattle.rules.specs.Station.{width, limit}
use Rattle.rules.specs.Outcomes.{list_room, planned}
use Rattle.rules.proofs.Width.{width_wide}
use Rattle.laws.proofs.Stages.{stages_of}
use Rattle.switching.specs.Written.{WrittenPlan}
use Rattle.switching.proofs.Short.{planned_short}
use Rattle.request.specs.Permitted.{PermittedRequest}

pub room_65 : (t : List ℕ) → list_room (width t) ≤ 65
room_65 t = omega (arith, (width_wide t).high)

pub room_words : (t words : List ℕ) → length words ≡ 65 → list_room (width t) ≤ length words
room_words t words h = omega (arith, room_65 t)

module _ (t list after : List ℕ) (short : length list ≤ list_room (width t)) (n : ℕ) (b' words words' : List ℕ)
    (w : WrittenPlan list after words n b' words') where
  pub words_inside : list_room (width t) ≤ length words → n ≤ length words'
  words_inside h =
      let same = ap length w.words ∙ length_put words 0 list (omega arith) in
      omega (arith, same, w.count)

  pub words_65 : length words ≡ 65 → n ≤ length words'
  words_65 l = words_inside (room_words t words l)

pub bytes_room : (t list : List ℕ) → length list ≤ list_room (width t) → (m : ℕ) → 4 * list_room (width t) ≤ m → 4 * (0 + length list) ≤ m
bytes_room t list short m h = omega (arith, h)

pub request_room : (t b : List ℕ) (q : Request) → PermittedRequest t b q → length (planned t b q) ≤ list_room (width t)
request_room t b q g = planned_short t b q (stages_of true t b q g.passed)

-- ---- the room of sleep entry: a is the most devices, l the room of one list
pub product_4160 : (a l : ℕ) → a ≤ 64 → l ≤ 65 → a * l ≤ 4160
product_4160 a l h k = mul-le-mul {n₂ = 64} {m₂ = 65} h k

pub product_fits : (a l : ℕ) → a ≤ 64 → l ≤ 65 → Fits w64 (a * l)
product_fits a l h k = record { fits = omega (arith, product_4160 a l h k) }

pub product_is : (w a l : ℕ) → a ≡ limit w → l ≡ list_room w → a * l ≡ limit w * list_room w
product_is w a l e f = rw (e, f) refl

-- ---- the room in elements, of which a word takes no more than four
pub elements_fit : (size n most : ℕ) → size ≤ 4 → n ≤ most → most ≤ 4160 → Fits w64 (size * n)
elements_fit size n most h k l = record { fits = omega (arith, mul-le-mul {n₂ = 4} {m₂ = most} h k) }
