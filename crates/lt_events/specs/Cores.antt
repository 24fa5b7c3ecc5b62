-- What an event makes of a core.
use Rattle.std.specs.Prelude.{ℕ, ◌+◌, ◌≤◌, nat_eq, not, filter, List, [], ◌∷◌, ◌++◌, Contains}
use Rattle.lt_io.specs.Directory.{moment}
use Rattle.lt_deps.specs.Kept.{Kept}
use Rattle.lt_schema.specs.declared.change.Change.{Change}
use Rattle.lt_schema.specs.Versions.{SchemaVersions}
use Rattle.lt_desc.specs.Shape.{StoneShape}
use Rattle.lt_commit.specs.Anchored.{Anchored}
use Rattle.lt_model.specs.History.{Opening}
use Rattle.lt_trace.specs.Elements.{Noted, Story}
use Rattle.lt_state.specs.State.{Core, Sealed, Ticket, listing}
use Rattle.lt_state.specs.Stands.{IsLent, files_used, lent_out}

-- a core that was loaded from a stone, and the story that it begins
abbrev pub loaded_core : Anchored → StoneShape → List Sealed → Kept → ℕ → Core
loaded_core anchor stone listed dependencies next_file = record {
  next = stone.kept;
  low = stone.low;
  ttl = stone.ttl;
  schemas = stone.schemas;
  kept = stone.kept;
  listed = listed;
  memory = [];
  next_tablet = 0;
  dependencies = dependencies;
  next_file = next_file;
  freed = 0;
  next_ticket = 0;
  tickets = [];
  anchor = anchor;
  count = 1;
}

abbrev pub loaded_story : Anchored → Opening → List Noted → ℕ → Story
loaded_story anchor found loaded next_file = record {
  opening = found;
  loaded = loaded;
  began = record { moment = moment anchor.directory; lends = anchor.directory.lends; ceiling = anchor.directory.now.ceiling; free = next_file };
  since = [];
}

-- the next file number was lent
abbrev pub with_lent : Core → Anchored → Core
with_lent c after = record c { next_file = c.next_file + 1; anchor = after }

-- files of the directory came or went
abbrev pub with_anchor : Core → Anchored → Core
with_anchor c after = record c { anchor = after }

-- a ticket went out
abbrev pub with_ticket : Core → Ticket → Core
with_ticket c ticket = record c { next_ticket = c.next_ticket + 1; tickets = c.tickets ++ ticket ∷ [] }

-- the ticket of this number came back
abbrev pub without : ℕ → List Ticket → List Ticket
without number tickets = filter (λ (t : Ticket). not (nat_eq t.number number)) tickets

abbrev pub with_released : Core → ℕ → Core
with_released c number = record c { tickets = without number c.tickets }

-- it was noted from which number on files are free
abbrev pub with_freed : Core → Core
with_freed c = record c { freed = c.next_file + 1; count = c.count + 1 }

-- so many of the file numbers that were lent have no use yet
abbrev pub HasRoom : Core → Story → ℕ → Type 0
HasRoom c s count = files_used s.since + lent_out c.tickets + count + s.began.free ≤ c.next_file

-- a lent file number that no ticket has
pub record IsFree (c : Core) (notes : List Noted) (file : ℕ) : Type 0 where
  pub lent : IsLent c notes file
  pub apart : (ticket : Ticket) → Contains c.tickets ticket → Contains ticket.lent file → ⊥

abbrev pub with_change : SchemaVersions → Change → SchemaVersions
with_change versions change = record { first = versions.first; changes = versions.changes ++ change ∷ [] }

-- the core's own stone under one more change of the schema
abbrev pub changed_stone : Core → Change → StoneShape
changed_stone c change = record { kept = c.kept; low = c.low; ttl = c.ttl; next_file = c.next_file + 1; schemas = with_change c.schemas change; tablets = listing c }

-- it was published
abbrev pub with_schemas : Core → SchemaVersions → Anchored → Core
with_schemas c versions after = record c { schemas = versions; next_file = c.next_file + 1; anchor = after; count = c.count + 1 }
