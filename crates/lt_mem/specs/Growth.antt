-- A list of records that grows up to a limit.
use Rattle.std.specs.Prelude.{ℕ, ◌-◌, List, [], ◌++◌, length, take, Option, Some, None}
use Rattle.lt_rec.specs.Record.{Record}

-- the records so far, and how many more there is room for
pub record ListInGrowth : Type 0 where
  pub list : List Record
  pub left : ℕ

-- the records of a chunk, if there is one
abbrev pub records_of : Option (List Record) → List Record
records_of None = []
records_of (Some chunk) = chunk

-- with the first of these records, as many as there is room for
abbrev pub grown : ListInGrowth → List Record → ListInGrowth
grown found recs = record { list = found.list ++ take found.left recs; left = found.left - length recs }
