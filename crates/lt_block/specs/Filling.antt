-- A block that fills: four bytes for the number of records, once there is one, and the records.
use Rattle.std.specs.Prelude.{◌≡◌, ℕ, ◌<◌, ◌≤◌, List, [], length, drop, Result, Ok, Err}
use Rattle.std.specs.List.{flat_map, AllByRecursion}
use Rattle.lt_rec.specs.Record.{Record, IsRecord, spelled}
use Rattle.lt_block.specs.Spelling.{spelling, Rises}
use Rattle.lt_block.specs.Reading.{records_at}

abbrev pub first_or_none : Result (List Record × List ℕ) ℕ → List Record
first_or_none (Ok x) = x.0
first_or_none (Err at) = []

-- the records that lie behind the first four bytes
abbrev pub held : ℕ → List ℕ → List Record
held count bytes = first_or_none (records_at count 4 [] (drop 4 bytes))

pub record Holds (count : ℕ) (bytes : List ℕ) (recs : List Record) : Type 0 where
  pub counted : count ≡ length recs
  pub lawful : AllByRecursion IsRecord recs
  pub rising : Rises [] recs
  pub spelling_is : drop 4 bytes ≡ flat_map spelled recs
  pub started : 0 < length bytes → 4 ≤ length bytes
  pub small : length (spelling recs) ≤ 65536
