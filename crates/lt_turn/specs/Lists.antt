-- A turn's list: each entry with the number of the seat that added it. The entries that the turn was made with have number 0.
use Rattle.std.specs.List.{sum_by}
use Rattle.std.specs.Prelude.{◌≢◌, ℕ, ◌+◌, Bool, true, false, ◌==◌, ◌||◌, List, [], ◌∷◌, map, length}

abbrev pub count_unless : Bool → ℕ → ℕ
count_unless true n = n
count_unless false n = n + 1

module _ {X : Type 0} where
  abbrev pub entries : List (ℕ × X) → List X
  entries list = map (λ t. t.1) list

  abbrev pub numbered : ℕ → List X → List (ℕ × X)
  numbered n xs = map (λ x. (n, x)) xs

  abbrev pub keep_if : Bool → X → List X → List X
  keep_if true x xs = x ∷ xs
  keep_if false x xs = xs

  -- the entries that carry this number, in order
  abbrev pub of : ℕ → List (ℕ × X) → List X
  of n [] = []
  of n (t ∷ ts) = keep_if (t.0 == n) t.1 (of n ts)

  -- how many entries the turn was not made with
  abbrev pub added : List (ℕ × X) → ℕ
  added [] = 0
  added (t ∷ ts) = count_unless (t.0 == 0) (added ts)

  -- how many entries these seats added
  abbrev pub total : List (ℕ × List X) → ℕ
  total [] = 0
  total (e ∷ es) = length e.1 + total es

abbrev pub Every : {A : Type 0} → (A → Type 0) → List A → Type 0
Every P [] = Unit {0}
Every P (x ∷ xs) = P x × Every P xs

-- no number stands twice
abbrev pub Differ : List ℕ → Type 0
Differ [] = Unit {0}
Differ (n ∷ ns) = Every (λ m. m ≢ n) ns × Differ ns

-- the numbers of these seats
abbrev pub numbers : {X : Type 0} → List (ℕ × List X) → List ℕ
numbers es = map (λ e. e.0) es

-- the number is one of these
abbrev pub has : List ℕ → ℕ → Bool
has [] n = false
has (m ∷ ms) n = (n == m) || has ms n

-- what the entries of these seats weigh
abbrev pub sums : {X : Type 0} → (X → ℕ) → List (ℕ × List X) → ℕ
sums h [] = 0
sums h (e ∷ es) = sum_by h e.1 + sums h es
