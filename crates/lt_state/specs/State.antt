-- The state of one table, as plain data.
use Rattle.std.specs.Prelude.{ℕ, ◌≡◌, Bool, List, map, Option, Contains}
use Rattle.lt_rec.specs.Periods.{Stretch}
use Rattle.lt_rec.specs.Record.{Record}
use Rattle.lt_rec.specs.declared.listed.Listed.{Listed}
use Rattle.lt_schema.specs.Versions.{SchemaVersions}
use Rattle.lt_deps.specs.Kept.{Kept}
use Rattle.lt_desc.specs.Shape.{StoneShape}
use Rattle.lt_commit.specs.Anchored.{Anchored}

-- a listed tablet and, where the device tells them, its records
pub record Sealed : Type 0 where
  pub listed : Listed
  pub recs : List Record

-- a tablet in memory: its number, its period, its records, the moment of its first row, whether it was frozen for its size,
-- and whether it takes no more rows
pub record Filled : Type 0 where
  pub number : ℕ
  pub period : Stretch
  pub recs : List Record
  pub since : ℕ
  pub full : Bool
  pub frozen : Bool

-- a ticket that is out: the file numbers that were lent for it, and the listed files that were handed out with it
pub record Ticket : Type 0 where
  pub number : ℕ
  pub lent : List ℕ
  pub handed : List ℕ

-- A core. `freed` is one above the last file number that was noted as free, or 0.
pub record Core : Type 0 where
  pub next : ℕ
  pub low : ℕ
  pub ttl : Option ℕ
  pub schemas : SchemaVersions
  pub kept : ℕ
  pub listed : List Sealed
  pub memory : List Filled
  pub next_tablet : ℕ
  pub dependencies : Kept
  pub next_file : ℕ
  pub freed : ℕ
  pub next_ticket : ℕ
  pub tickets : List Ticket
  pub anchor : Anchored
  pub count : ℕ

abbrev pub listing : Core → List Listed
listing c = map (λ t. t.listed) c.listed

-- the stone says what the core has, but for its next file
pub record IsOwn (c : Core) (stone : StoneShape) : Type 0 where
  pub kept : stone.kept ≡ c.kept
  pub low : stone.low ≡ c.low
  pub ttl : stone.ttl ≡ c.ttl
  pub schemas : stone.schemas ≡ c.schemas
  pub tablets : stone.tablets ≡ listing c

-- the tablet in memory of this number has the record
pub record InMemory (memory : List Filled) (number : ℕ) (rec : Record) : Type 0 where
  pub tablet : Filled
  pub held : Contains memory tablet
  pub number_is : tablet.number ≡ number
  pub among : Contains tablet.recs rec
