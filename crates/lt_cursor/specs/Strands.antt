-- What is left of one source: a tablet's records, or those of a list in memory.
use Rattle.std.specs.Prelude.{ℕ, ◌-◌, List, [], ◌++◌, filter, Option, Some, None}
use Rattle.lt_rec.specs.Record.{Record}
use Rattle.lt_rec.specs.Records.{joined}
use Rattle.lt_rec.specs.Boxes.{in_box}
use Rattle.lt_rec.specs.declared.raw_box.RawBox.{RawBox}
use Rattle.lt_tablet.specs.Loaded.{Loaded, blocks_in}
use Rattle.lt_cursor.specs.Order.{in_order}
use Rattle.lt_cursor.specs.Places.{between}
use Rattle.lt_cursor.specs.declared.places.Places.{Places}

-- In the order of reading: the records that are held, and those behind them that are still to be read from a device, in
-- so many blocks.
pub record Strand : Type 0 where
  pub held : List Record
  pub unread : List Record
  pub blocks : ℕ

-- the records of the box that a source will give
abbrev pub left_of : RawBox → Strand → List Record
left_of raw_box s = filter (in_box raw_box) (s.held ++ s.unread)

abbrev pub recs_or_none : Option (List Record) → List Record
recs_or_none None = []
recs_or_none (Some recs) = recs

-- a tablet of which the blocks at the places are still to be read, and a page is held
abbrev pub strand_of : Loaded → Places → Option (List Record) → Strand
strand_of t places page = record { held = recs_or_none page; unread = in_order places.down (joined (between places (blocks_in t))); blocks = places.to - places.from }

abbrev pub strand_in_memory : List Record → Strand
strand_in_memory recs = record { held = recs; unread = []; blocks = 0 }
