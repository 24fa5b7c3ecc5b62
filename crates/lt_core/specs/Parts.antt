-- What the code keeps of a table, as the plain data of a core.
use Rattle.std.specs.Prelude.{◌≤◌}
use Rattle.lt_rec.specs.declared.listed.Listed.{Listed}
use Rattle.lt_tablet.specs.Loaded.{Loaded, records_in}
use Rattle.lt_desc.specs.Shape.{StoneShape}
use Rattle.lt_desc.specs.Lawful.{IsStone}
use Rattle.lt_state.specs.State.{Core, Sealed, listing}

-- what the list of tablets says of a tablet
abbrev pub entry_of : Loaded → Listed
entry_of t = t.listed

-- a tablet that is listed, with the records that its bytes tell
abbrev pub sealed : Loaded → Sealed
sealed t = record { listed = t.listed; recs = records_in t }

-- the stone that says what the core has, and that files from its next one on are free
abbrev pub own_stone : Core → StoneShape
own_stone c = record { kept = c.kept; low = c.low; ttl = c.ttl; next_file = c.next_file; schemas = c.schemas; tablets = listing c }

-- What holds of each core over any device: its stone is lawful, and no file number from its next one on was lent.
pub record IsTable (c : Core) : Type 0 where
  pub lawful : IsStone (own_stone c)
  pub free : c.anchor.directory.now.ceiling ≤ c.next_file
