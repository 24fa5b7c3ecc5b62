-- Which tablets must go out together. The rows are noted in order, each with its tablet's number; a row's number is its
-- place among the notes.
use Rattle.std.specs.Prelude.{◌≡◌, ℕ, ◌+◌, ◌<◌, Bool, true, List, ◌==◌, length, slice_index}
use Rattle.std.specs.List.{list_any}
use Rattle.std.specs.List.Sorted.{IsStrictlyIncreasing}

-- the tablet is one of these
abbrev pub has : List ℕ → ℕ → Bool
has set tablet = list_any (λ held. held == tablet) set

-- where a tablet goes out that has the row at this place, so does each tablet that has a row numbered below this: the row
-- and all before it
abbrev pub bound_of : List ℕ → ℕ → ℕ
bound_of notes row = row + 1

-- with each row of its tablets, the set has the tablets of the rows below that row's bound
pub record IsClosed (notes set : List ℕ) : Type 0 where
  pub closed : (row before : ℕ) → row < length notes → has set (slice_index notes row) ≡ true → before < bound_of notes row → has set (slice_index notes before) ≡ true

-- the least closed set that has the tablet, rising
pub record IsClosure (notes : List ℕ) (tablet : ℕ) (set : List ℕ) : Type 0 where
  pub holds : has set tablet ≡ true
  pub closed : IsClosed notes set
  pub least : (other : List ℕ) → has other tablet ≡ true → IsClosed notes other → (held : ℕ) → has set held ≡ true → has other held ≡ true
  pub rising : IsStrictlyIncreasing set
