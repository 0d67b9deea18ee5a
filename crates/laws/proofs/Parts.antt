-- Parts of a list one after the other: parts that meet are one part, and lists that are put together from parts are a part.
use mathlib.Core.Path.{◌≡◌, refl, sym, ap, ◌∙◌}
use mathlib.Core.List.{List, ◌∷◌, ◌++◌, append_assoc}
use Prim.Native.Nat.{ℕ, zero, suc, ◌+◌, ◌*◌, ◌-◌, ◌≤◌, ◌<◌}
use native.Mathlib.Nat.{add_assoc, add_comm, add-zero, mul-zero, mul-suc}
use native.Mathlib.Omega.{arith}
use lib.ListN.{length, get_or, take, drop, replicate, length-append, get_or-append}
use lib.Seq.{take-add, drop-drop, drop-cons, get_or-append-add}
use Rattle.rules.specs.Index.{each_from, join_from, join}

-- n elements from x on, and then m more
pub parts_meet : (t : List ℕ) (x n m : ℕ) → take n (drop x t) ++ take m (drop (x + n) t) ≡ take (n + m) (drop x t)
parts_meet t x n m = sym (take-add n m (drop x t) ∙ ap (λ (l : List ℕ). take n (drop x t) ++ take m l) (drop-drop n x t))

-- element by element
pub each_part : (t : List ℕ) (x i k : ℕ) → x + i + k ≤ length t → each_from (λ j. get_or t (x + j) 0) i k ≡ take k (drop (x + i) t)
unfolding each_from
each_part t x i zero h = refl
each_part t x i (suc k) h =
    let e : x + suc i ≡ suc (x + i) = omega arith in
    rw (drop-cons t (x + i) 0 (omega arith)) (ap (λ (l : List ℕ). get_or t (x + i) 0 ∷ l) (each_part t x (suc i) k (omega arith)
    ∙ ap (λ (n : ℕ). take k (drop n t)) e))

-- zeros
pub zeros_part : (t : List ℕ) (x k : ℕ) → x + k ≤ length t → ((i : ℕ) → i < k → get_or t (x + i) 0 ≡ 0) → replicate k 0 ≡ take k (drop x t)
zeros_part t x zero h e = refl
zeros_part t x (suc k) h e =
    let first : get_or t x 0 ≡ 0 = rw (add-zero x) at (e 0 (omega arith)) in
    let rest = zeros_part t (suc x) k (omega arith) (λ i l. let a : suc x + i ≡ x + suc i = omega arith in
    rw a (e (suc i) (omega arith))) in
    rw (drop-cons t x 0 (omega arith), first) (ap (λ (l : List ℕ). 0 ∷ l) rest)

-- n elements at a time
pub join_part : (t : List ℕ) (x n i k : ℕ) → join_from (λ j. take n (drop (x + n * j) t)) i k ≡ take (n * k) (drop (x + n * i) t)
unfolding join_from
join_part t x n i zero = rw (mul-zero n) refl
join_part t x n i (suc k) =
    let a : x + n * suc i ≡ x + n * i + n = ap (λ (m : ℕ). x + m) (mul-suc n i) ∙ sym (add_assoc x (n * i) n) in
    let b : n * suc k ≡ n + n * k = mul-suc n k ∙ add_comm (n * k) n in
    rw b (ap (λ (l : List ℕ). take n (drop (x + n * i) t) ++ l) (join_part t x n (suc i) k ∙ ap (λ (m : ℕ). take (n * k) (drop m t)) a)
    ∙ parts_meet t (x + n * i) n (n * k))

-- lists that agree at each number are put together to the same
pub join_same : (f g : ℕ → List ℕ) (i k : ℕ) → ((j : ℕ) → i ≤ j → j < i + k → f j ≡ g j) → join_from f i k ≡ join_from g i k
unfolding join_from
join_same f g i zero h = refl
join_same f g i (suc k) h = rw (h i (omega arith) (omega arith), join_same f g (suc i) k (λ j l u. h j (omega arith) (omega arith))) refl

-- ---- reading what was put together

pub join_length : (f : ℕ → List ℕ) (n : ℕ) → ((j : ℕ) → length (f j) ≡ n) → (i k : ℕ) → length (join_from f i k) ≡ n * k
unfolding join_from
join_length f n h i zero = sym (mul-zero n)
join_length f n h i (suc k) =
    length-append (f i) (join_from f (suc i) k) ∙ rw (h i, join_length f n h (suc i) k) (add_comm n (n * k) ∙ sym (mul-suc n k))

-- the list at one number, between those before it and those after it
pub join_at : (f : ℕ → List ℕ) (i k j : ℕ) → j < k
    → join_from f i k ≡ join_from f i j ++ (f (i + j) ++ join_from f (suc (i + j)) (k - suc j))
unfolding join_from
join_at f i zero j h = absurd (omega arith)
join_at f i (suc k) zero h =
    let a : i + 0 ≡ i = omega arith in
    let b : suc k - 1 ≡ k = omega arith in
    rw (a, b) refl
join_at f i (suc k) (suc j) h =
    let a : i + suc j ≡ suc i + j = omega arith in
    let b : suc k - suc (suc j) ≡ k - suc j = omega arith in
    rw (a, b) (ap (λ (l : List ℕ). f i ++ l) (join_at f (suc i) k j (omega arith)) ∙ sym (append_assoc (f i) (join_from f (suc i) j) _))

pub get_each : (f : ℕ → ℕ) (ys : List ℕ) (i k j : ℕ) → j < k → get_or (each_from f i k ++ ys) j 0 ≡ f (i + j)
unfolding each_from
get_each f ys i zero j h = absurd (omega arith)
get_each f ys i (suc k) zero h = let a : i + 0 ≡ i = omega arith in rw a refl
get_each f ys i (suc k) (suc j) h =
    let a : i + suc j ≡ suc i + j = omega arith in
    rw a (get_each f ys (suc i) k j (omega arith))

pub each_length : (f : ℕ → ℕ) (i k : ℕ) → length (each_from f i k) ≡ k
unfolding each_from
each_length f i zero = refl
each_length f i (suc k) = ap suc (each_length f (suc i) k)

pub get_past : (p q : List ℕ) (n i : ℕ) → length p ≡ n → get_or (p ++ q) (n + i) 0 ≡ get_or q i 0
get_past p q n i e = rw (← e) (get_or-append-add p q i 0)

-- element i of the list at number d, in the whole that is put together
pub get_join : (f : ℕ → List ℕ) (n : ℕ) → ((j : ℕ) → length (f j) ≡ n) → (k d i : ℕ) → d < k → i < n
    → get_or (join f k) (n * d + i) 0 ≡ get_or (f d) i 0
get_join f n h k d i l u =
    let z : 0 + d ≡ d = omega arith in
    ap (λ (s : List ℕ). get_or s (n * d + i) 0) (rw z at (join_at f 0 k d l))
    ∙ get_past (join_from f 0 d) _ (n * d) i (join_length f n h 0 d) ∙ get_or-append (f d) _ 0 i (omega (arith, h d))
