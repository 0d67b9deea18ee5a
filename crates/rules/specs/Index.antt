-- What the rules say of numbered things, such as resources, devices and bytes: the lowest with a property, all of them, a list of them.
use Rattle.std.specs.Prelude.{ℕ, zero, suc, Option, Some, None, Bool, true, false, not, cond, List, [], ◌∷◌, ◌++◌, leb, ltb}

-- the lowest of the k numbers from i on with a property, else their end
unfoldable pub least_from : (ℕ → Bool) → ℕ → ℕ → ℕ
least_from f i zero = i
least_from f i (suc k) = elim (f i) [ true ↦ i | false ↦ least_from f (suc i) k ]

-- the lowest number below n with a property, else n
abbrev pub least : (ℕ → Bool) → ℕ → ℕ
least f n = least_from f 0 n

-- the same where no number may have it
unfoldable pub least_option : (ℕ → Bool) → ℕ → Option ℕ
least_option f n = cond (ltb (least f n) n) (Some (least f n)) None

-- every number below n has the property
unfoldable pub every : (ℕ → Bool) → ℕ → Bool
every f n = leb n (least (λ i. not (f i)) n)

-- the value of a thing numbered below n; any other number has one fixed value, so that what numbers outside the range stand for never tells
-- two stations apart
unfoldable pub below : {A : Type 0} → ℕ → A → (ℕ → A) → ℕ → A
below n other f i = cond (ltb i n) (f i) other

-- f's values at the k numbers from i on
unfoldable pub each_from : {A : Type 0} → (ℕ → A) → ℕ → ℕ → List A
each_from f i zero = []
each_from f i (suc k) = f i ∷ each_from f (suc i) k

-- f's values at the numbers below n
abbrev pub each : {A : Type 0} → (ℕ → A) → ℕ → List A
each f n = each_from f 0 n

-- f's lists at the k numbers from i on, one after the other
unfoldable pub join_from : {A : Type 0} → (ℕ → List A) → ℕ → ℕ → List A
join_from f i zero = []
join_from f i (suc k) = f i ++ join_from f (suc i) k

-- f's lists at the numbers below n
abbrev pub join : {A : Type 0} → (ℕ → List A) → ℕ → List A
join f n = join_from f 0 n
