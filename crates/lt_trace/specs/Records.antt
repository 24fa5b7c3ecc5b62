-- Records of rows, and the rows that files hold.
use Rattle.std.specs.Prelude.{ℕ, ◌++◌, ◌^◌, ◌≡◌, ◌≤◌, ◌<◌, List, length, Contains, Ok, Some, IsTrue}
use Rattle.std.specs.List.{list_all}
use Rattle.lt_schema.specs.declared.change.Change.{Change}
use Rattle.lt_io.specs.Directory.{Contents, file_at}
use Rattle.lt_rec.specs.Record.{Record}
use Rattle.lt_rec.specs.Records.{joined}
use Rattle.lt_rec.specs.declared.listed.Listed.{Listed}
use Rattle.lt_schema.specs.Check.{Passes, time_of}
use Rattle.lt_schema.specs.Versions.{SchemaVersions, schema_at, newest_version}
use Rattle.lt_codec.specs.Reading.{row_in}
use Rattle.lt_codec.specs.Spelling.{key_bytes}
use Rattle.lt_codec.specs.Ordering.{fits_word}
use Rattle.lt_layout.specs.Spelling.{IsTablet, totals_of, listed_totals, file_of}
use Rattle.lt_model.specs.History.{Numbered}

-- the record is read as the row, and has its number, version, timestamp and key; the row passes that version
pub record IsRecordOf (versions : SchemaVersions) (rec : Record) (numbered : Numbered) : Type 0 where
  pub number : rec.seq ≡ numbered.seq
  pub version : rec.ver ≡ numbered.ver
  pub known : numbered.ver ≤ newest_version versions
  pub read : row_in versions rec ≡ Ok numbered.row
  pub time : rec.ts ≡ time_of versions.first numbered.row
  pub key : rec.key ≡ key_bytes (schema_at versions numbered.ver) numbered.row
  pub passes : Passes (schema_at versions numbered.ver) numbered.row
  pub words : IsTrue (list_all fits_word numbered.row)

-- the bytes are the tablet file of these records, and the list tells their totals
pub record IsFileOf (listed : Listed) (recs : List Record) (bytes : List ℕ) : Type 0 where
  pub blocks : List (List Record)
  pub tablet : IsTablet blocks
  pub records : joined blocks ≡ recs
  pub totals : totals_of recs ≡ listed_totals listed
  pub spelled : bytes ≡ file_of blocks
  pub size : length bytes ≡ listed.bytes
  pub in_range : listed.bytes < 2 ^ 64

-- the file is there, and it is the tablet file of these records
pub record HasFile (files : Contents) (listed : Listed) (recs : List Record) : Type 0 where
  pub bytes : List ℕ
  pub there : file_at files listed.file ≡ Some bytes
  pub is : IsFileOf listed recs bytes

-- the record is in one of the listed files, where each file has these records
pub record IsOn (recs : ℕ → List Record) (tablets : List Listed) (rec : Record) : Type 0 where
  pub tablet : Listed
  pub listed : Contains tablets tablet
  pub among : Contains (recs tablet.file) rec

-- a listed file has a record of the row, which is unexpired at the bound
pub record HasRow (versions : SchemaVersions) (recs : ℕ → List Record) (tablets : List Listed) (low : ℕ) (numbered : Numbered) : Type 0 where
  pub rec : Record
  pub on : IsOn recs tablets rec
  pub unexpired : low ≤ rec.ts
  pub is : IsRecordOf versions rec numbered

-- where two sources have a record with the same key, they are one source
abbrev pub KeysApart : {S : Type 0} → (S → Record → Type 0) → Type 0
KeysApart {S} has = (one other : S) (rec same : Record) → has one rec → has other same → rec.key ≡ same.key → one ≡ other

-- this file is listed and has the record
pub record InFile (recs : ℕ → List Record) (tablets : List Listed) (file : ℕ) (rec : Record) : Type 0 where
  pub tablet : Listed
  pub listed : Contains tablets tablet
  pub file_is : tablet.file ≡ file
  pub among : Contains (recs file) rec

-- the versions with perhaps some more
pub record Extends (versions more : SchemaVersions) : Type 0 where
  pub first : more.first ≡ versions.first
  pub since : List Change
  pub changes : more.changes ≡ versions.changes ++ since
