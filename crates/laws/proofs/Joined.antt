-- Lists of one length written one after the other from a place on: what a turn of a loop that writes them adds.
use mathlib.Core.Path.{◌≡◌, ap, ◌∙◌}
use mathlib.Core.List.{List, ◌++◌, append-nil}
use Prim.Native.Nat.{ℕ, suc, ◌+◌, ◌*◌, ◌-◌, ◌^◌, ◌≤◌, ◌<◌}
use native.Mathlib.Nat.{mul-suc, mul-le-mul_left}
use native.Mathlib.Omega.{arith}
use lib.ListN.{length}
use Rattle.words.specs.Words.{put}
use Rattle.words.proofs.Put.{Emitted, emitted_none, emitted_run}
use Rattle.rules.specs.Index.{join_from, join}
use Rattle.laws.proofs.Parts.{join_length, join_at}

-- one list more
pub join_more : (f : ℕ → List ℕ) (k : ℕ) → join f (k + 1) ≡ join f k ++ f k
unfolding join_from
join_more f k =
    let z : 0 + k ≡ k = omega arith in
    let n : k + 1 - suc k ≡ 0 = omega arith in
    rw (z, n) at (join_at f 0 (k + 1) k (omega arith)) ∙ ap (λ (l : List ℕ). join f k ++ l) (append-nil (f k))

-- every list of f has n elements
pub record SameLength (f : ℕ → List ℕ) (n : ℕ) : Type 0 where
  pub long : (j : ℕ) → length (f j) ≡ n

pub joined_none : (f : ℕ → List ℕ) (d : List ℕ) (at : ℕ) → Emitted d at (join f 0) d at
unfolding join_from
joined_none f d at = emitted_none d at

-- i of k lists stand from `at` on in d, which has room for all; the code has k as m, and n as s
module _ (f : ℕ → List ℕ) (n k m : ℕ) (d l : List ℕ) (at i p : ℕ) (same : SameLength f n) (room : at + n * k ≤ length d) (e : m ≡ k)
    (w : Emitted d at (join f i) l p) (h : i < m) where
  pub joined_room : p + n ≤ length l
  joined_room =
      let place : p ≡ at + n * i = w.place ∙ ap (λ (x : ℕ). at + x) (join_length f n same.long 0 i) in
      let below : i < k = omega arith in
      omega (arith, place, w.long, mul-suc n i, mul-le-mul_left n below)

  pub joined_small : (s : ℕ) → s ≡ n → length d < 2 ^ 64 → p + s < 2 ^ 64
  joined_small s z u = omega (arith, joined_room, w.long)

  pub joined_next : (s : ℕ) (l' : List ℕ) → s ≡ n → l' ≡ put l p (f i) → Emitted d at (join f (i + 1)) l' (p + s)
  joined_next s l' z q =
      let size = same.long i in
      rw (join_more f i) (emitted_run (f i) w (omega arith, q) (omega (arith, joined_room, w.long)))

pub joined_done : (f : ℕ → List ℕ) (k m : ℕ) (d l : List ℕ) (at i p : ℕ) → Emitted d at (join f i) l p → i ≤ m → m ≤ i → m ≡ k
    → l ≡ put d at (join f k)
joined_done f k m d l at i p w h g e = let q : i ≡ k = omega arith in rw q at w.list

pub ruleset joined_loop = (joined_none, joined_room, joined_small, joined_next, joined_done)
