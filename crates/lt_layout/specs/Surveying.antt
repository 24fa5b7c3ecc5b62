-- What is found of records while they are read one after the other.
use Rattle.std.specs.Prelude.{◌≡◌, ◌≤◌, ℕ, List, [], ◌∷◌, Option, Some, None, Result, Ok, Err}
use Rattle.lt_rec.specs.Record.{Record}
use Rattle.lt_rec.specs.declared.fault.Fault.{Fault}
use Rattle.lt_rec.specs.declared.fault.FormatError.{FormatError}
use Rattle.lt_rec.specs.declared.fault.FormatError.TheVariants as errors
use Rattle.lt_layout.specs.Spelling.{Totals, totals_of, hashes_from}

pub record Found : Type 0 where
  pub totals : Totals
  pub hashes : List ℕ

abbrev pub found_in : List Record → Found
found_in recs = record { totals = totals_of recs; hashes = hashes_from None recs }

-- the last key, if there is a record
abbrev pub last_of : List Record → Option (List ℕ)
last_of [] = None
last_of (r ∷ []) = Some r.key
last_of (r ∷ (s ∷ recs)) = last_of (s ∷ recs)

-- what a check answers of what reading gives
abbrev pub Checks : {Y : Type 0} → Result (Unit {0}) Fault → Result Y ℕ → Type 0
Checks {Y} (Ok done) read = (y : Y) × (read ≡ Ok y)
Checks (Err fault) read = read ≡ Err fault.at

-- a fault's offset is none behind so many bytes
abbrev pub IsWithin : ℕ → FormatError → Type 0
IsWithin n (errors.Bad at) = at ≤ n
IsWithin n errors.NoMemory = Unit {0}
