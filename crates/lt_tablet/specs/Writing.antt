-- A tablet file that is being written, and the records that were written to it.
use Rattle.std.specs.Prelude.{◌≡◌, ℕ, ◌+◌, ◌<◌, Bool, true, List, [], ◌∷◌, ◌++◌, length}
use Rattle.std.specs.List.{AllByRecursion}
use Rattle.lt_rec.specs.Periods.{Stretch, InPeriod}
use Rattle.lt_rec.specs.Record.{Record, IsRecord}
use Rattle.lt_rec.specs.Records.{joined}
use Rattle.lt_rec.specs.declared.listed.Listed.{Listed}
use Rattle.lt_block.specs.Spelling.{IsBlock, Rises, last_key}
use Rattle.lt_layout.specs.Spelling.{Entry, header, entries_of, blocks_spelled, totals_of, first_key, listed_totals}
use Rattle.lt_layout.specs.Surveying.{Found, found_in}
use Rattle.lt_tablet.specs.Loaded.{Loaded, records_in}

-- what is kept: the file's number and its pen's, the period, the entries of the blocks that went out, where the next one
-- will begin, the records of the one that fills, what was found of all records, the first key of the block that fills,
-- the last key of all, and the bytes that went out
pub record Writing : Type 0 where
  pub number : ℕ
  pub pen : ℕ
  pub period : Stretch
  pub index : List Entry
  pub offset : ℕ
  pub filling : List Record
  pub found : Found
  pub first : List ℕ
  pub last : List ℕ
  pub bytes : List ℕ

-- these blocks went out, and the records of one more fill
pub record IsCut (honest : Bool) (w : Writing) (blocks : List (List Record)) (recs : List Record) : Type 0 where
  pub pen_is : w.pen ≡ w.number
  pub parts : recs ≡ joined blocks ++ w.filling
  pub each : AllByRecursion IsBlock blocks
  pub lawful : AllByRecursion IsRecord recs
  pub rising : Rises [] recs
  pub timed : AllByRecursion (λ r. InPeriod w.period r.ts) recs
  pub index_is : w.index ≡ entries_of 8 blocks
  pub offset_is : w.offset ≡ 8 + length (blocks_spelled blocks)
  pub found_is : w.found ≡ found_in recs
  pub first_is : 0 < length w.filling → w.first ≡ first_key w.filling
  pub last_is : w.last ≡ last_key [] recs
  pub bytes_are : honest ≡ true → w.bytes ≡ header ++ blocks_spelled blocks

-- what stays where a record is put
pub record Keeps (old new : Writing) : Type 0 where
  pub pen : new.pen ≡ old.pen
  pub number : new.number ≡ old.number
  pub period : new.period ≡ old.period
  pub index : new.index ≡ old.index
  pub offset : new.offset ≡ old.offset
  pub bytes : new.bytes ≡ old.bytes

-- these records were written, and the block that fills has one more
pub record Filled (honest : Bool) (new : Writing) (recs : List Record) (r : Record) : Type 0 where
  pub blocks : List (List Record)
  pub old : Writing
  pub cut : IsCut honest old blocks recs
  pub keeps : Keeps old new
  pub filling : new.filling ≡ old.filling ++ r ∷ []
  pub found : new.found ≡ old.found
  pub first : new.first ≡ old.first
  pub last : new.last ≡ old.last

-- these records were written so far
pub record Wrote (honest : Bool) (w : Writing) (recs : List Record) : Type 0 where
  pub blocks : List (List Record)
  pub cut : IsCut honest w blocks recs
  pub fills : 0 < length recs → 0 < length w.filling

-- a listing names its tablet's file, and a period that has the least and the greatest timestamp
pub record IsListing (listed : Listed) (number : ℕ) (period : Stretch) : Type 0 where
  pub number_is : listed.file ≡ number
  pub period_is : listed.period ≡ period
  pub low_is : InPeriod period listed.low
  pub high_is : InPeriod period listed.high

-- the tablet's file has these records, and its listing tells their totals
pub record HasRecords (honest : Bool) (t : Loaded) (recs : List Record) : Type 0 where
  pub totals : listed_totals t.listed ≡ totals_of recs
  pub file : honest ≡ true → records_in t ≡ recs
