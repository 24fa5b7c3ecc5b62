-- Pieces of shared lists of records.
use Rattle.std.specs.Prelude.{ℕ, ◌-◌, ◌<◌, ◌≤◌, Bool, List, [], ◌∷◌, ◌++◌, length, take, drop, reverse, if◌then◌else◌}
use Rattle.lt_rec.specs.Record.{Record}

-- the records from `from` up to `to`, in the order of reading
abbrev pub piece : List Record → ℕ → ℕ → Bool → List Record
piece recs from to down = if down then reverse (take (to - from) (drop from recs)) else take (to - from) (drop from recs)

pub record IsPiece (recs : List Record) (from to : ℕ) : Type 0 where
  pub ordered : from ≤ to
  pub within : to ≤ length recs

-- the pieces, one after the other
abbrev pub joined : List (List Record) → List Record
joined [] = []
joined (p ∷ ps) = p ++ joined ps

abbrev pub NoneIsEmpty : List (List Record) → Type 0
NoneIsEmpty [] = Unit {0}
NoneIsEmpty (p ∷ ps) = (0 < length p) × NoneIsEmpty ps

-- the pieces from place `at` on are left to be read, and each of them has a record
pub record IsLeft (ps : List (List Record)) (at : ℕ) : Type 0 where
  pub within : at ≤ length ps
  pub some : NoneIsEmpty (drop at ps)
