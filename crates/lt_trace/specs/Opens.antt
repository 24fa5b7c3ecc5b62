-- What an image of a directory opens to, and when it is the history that a stop left.
use Rattle.std.specs.Prelude.{ℕ, ◌≡◌, ◌≤◌, ◌↔◌, List, Contains, Some, Ok}
use Rattle.lt_io.specs.Directory.{Contents, Image}
use Rattle.lt_rec.specs.Record.{Record}
use Rattle.lt_rec.specs.declared.listed.Listed.{Listed}
use Rattle.lt_desc.specs.Shape.{StoneShape}
use Rattle.lt_desc.specs.Lawful.{IsStone}
use Rattle.lt_desc.specs.Reading.{stone_at}
use Rattle.lt_desc.specs.Spelling.{spelling}
use Rattle.lt_model.specs.History.{Numbered, Opening, History}
use Rattle.lt_model.specs.Readings.{next}
use Rattle.lt_model.specs.Legal.{AreRising}
use Rattle.lt_model.specs.Crash.{Durable, durable_rows, IsCrash}
use Rattle.lt_trace.specs.Records.{IsRecordOf, HasFile, IsOn, HasRow, KeysApart, InFile}

-- what is durable by a stone
abbrev pub durable_by : StoneShape → Durable
durable_by stone = record { schemas = stone.schemas; ttl = stone.ttl; low = stone.low; kept = stone.kept }

-- A stone that is read from its descriptor, and whose listed files are all there, with these records: each of a row of its
-- version, and no key in two of the files.
pub record IsWhole (recs : ℕ → List Record) (files : Contents) (stone : StoneShape) : Type 0 where
  pub lawful : IsStone stone
  pub read : stone_at (spelling stone) ≡ Ok stone
  pub files_are : (listed : Listed) → Contains stone.tablets listed → HasFile files listed (recs listed.file)
  pub rows_are : (rec : Record) → IsOn recs stone.tablets rec → (numbered : Numbered) × IsRecordOf stone.schemas rec numbered
  pub apart : KeysApart (InFile recs stone.tablets)

-- The image opens to this: its descriptor is that of the stone, which is whole, and the rows are those of its files' records
-- from its low on, by number and key.
pub record OpensTo (image : Image) (stone : StoneShape) (found : Opening) : Type 0 where
  pub spelled : image.descriptor ≡ Some (spelling stone)
  pub recs : ℕ → List Record
  pub whole : IsWhole recs image.files stone
  pub schemas : found.schemas ≡ stone.schemas
  pub ttl : found.ttl ≡ stone.ttl
  pub low : found.low ≡ stone.low
  pub next : found.next ≡ stone.kept
  pub kept : found.kept ≡ stone.kept
  pub rising : AreRising stone.schemas.first found.rows
  pub rows : (numbered : Numbered) → Contains found.rows numbered ↔ HasRow stone.schemas recs stone.tablets stone.low numbered

-- The image opens to what a stop leaves of the history, by a stone whose number is at most the next one. A possible image
-- has the descriptor of a possible stone, so the stone was possible too.
pub record OpensAfter (h : History) (image : Image) : Type 0 where
  pub stone : StoneShape
  pub found : Opening
  pub opens : OpensTo image stone found
  pub crash : IsCrash h (durable_by stone) found
  pub given : stone.kept ≤ next h

-- the stone's files have exactly the rows below its number that are unexpired at its low
pub record HoldsRows (recs : ℕ → List Record) (h : History) (stone : StoneShape) : Type 0 where
  pub first : stone.schemas.first ≡ h.opening.schemas.first
  pub exactly : (numbered : Numbered) → Contains (durable_rows h (durable_by stone)) numbered ↔ HasRow stone.schemas recs stone.tablets stone.low numbered

-- what makes each image with the stone's descriptor open to what a stop leaves of the history
pub record IsBacked (recs : ℕ → List Record) (h : History) (files : Contents) (stone : StoneShape) : Type 0 where
  pub whole : IsWhole recs files stone
  pub holds : HoldsRows recs h stone
  pub given : stone.kept ≤ next h
