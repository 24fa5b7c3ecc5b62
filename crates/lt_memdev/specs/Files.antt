-- Files kept by their numbers.
use Rattle.std.specs.Prelude.{◌≡◌, ℕ, ◌+◌, max, List, [], ◌∷◌, nat_eq, cond, Option}
use Rattle.lt_io.specs.Directory.{Contents, file_at}

-- one above the greatest number, or 0 where there is none
abbrev pub above : Contents → ℕ
above [] = 0
above (file ∷ files) = max (file.0 + 1) (above files)

-- this at the number, and every other file as it was
abbrev pub Puts : Contents → Contents → ℕ → Option (List ℕ) → Type 0
Puts old new number here = (other : ℕ) → file_at new other ≡ cond (nat_eq other number) here (file_at old other)
