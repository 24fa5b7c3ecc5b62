-- Records that are those of rows.
use Rattle.std.specs.Prelude.{◌≡◌, ℕ, ◌+◌, ◌<◌, true, false, List, [], ◌∷◌, length, Result, Ok, is_ok, slice_index_or}
use Rattle.lt_rec.specs.Record.{Record, stored_len}
use Rattle.lt_rec.specs.Reading.{◌>>=◌, holds}
use Rattle.lt_schema.specs.Versions.{SchemaVersions}
use Rattle.lt_codec.specs.Reading.{row_in}
use Rattle.lt_block.specs.Spelling.{spelling}
use Rattle.lt_model.specs.History.{Numbered}
use Rattle.lt_trace.specs.Records.{IsRecordOf}

-- the record is one of a row of its version
abbrev pub IsOfRow : SchemaVersions → Record → Type 0
IsOfRow versions rec = (numbered : Numbered) × IsRecordOf versions rec numbered

-- the first of these records that is read as no row
pub record IsFirstFault (versions : SchemaVersions) (recs : List Record) (place : ℕ) : Type 0 where
  pub within : place < length recs
  pub before : (k : ℕ) (d : Record) → k < place → is_ok (row_in versions (slice_index_or recs k d)) ≡ true
  pub fault : (d : Record) → is_ok (row_in versions (slice_index_or recs place d)) ≡ false

-- each of these records is read as a row, or the first that isn't is named; the first of all lies at `at`
abbrev pub rows_at : SchemaVersions → ℕ → List Record → Result (Unit {0}) ℕ
rows_at versions at [] = Ok tt
rows_at versions at (rec ∷ recs) = holds (is_ok (row_in versions rec)) at >>= λ _. rows_at versions (at + stored_len rec) recs

-- the same of the records of blocks that lie one after the other from `start` on
abbrev pub blocks_at : SchemaVersions → ℕ → List (List Record) → Result (Unit {0}) ℕ
blocks_at versions start [] = Ok tt
blocks_at versions start (recs ∷ blocks) = rows_at versions (start + 4) recs >>= λ _. blocks_at versions (start + length (spelling recs)) blocks
