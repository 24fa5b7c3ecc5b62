-- What a history says by now: its rows, its next number, its bounds, its schemas, and its tablets in memory.
use Rattle.std.specs.Prelude.{ℕ, ◌+◌, ◌-◌, max, List, [], ◌∷◌, ◌++◌, length, nat_le, nat_eq, filter, IsTrue, Option, Some, None}
use Rattle.std.specs.List.{list_any}
use Rattle.lt_schema.specs.declared.value.Value.{Value}
use Rattle.lt_schema.specs.declared.change.Change.{Change}
use Rattle.lt_schema.specs.Versions.{SchemaVersions}
use Rattle.lt_schema.specs.Check.{key_of, time_of}
use Rattle.lt_model.specs.History.{Numbered, Entry, row_entry, bound_entry, schema_entry, kept_entry, History}

-- the rows that entries add
abbrev pub rows_in : List Entry → List Numbered
rows_in [] = []
rows_in (row_entry numbered tablet ∷ entries) = numbered ∷ rows_in entries
rows_in (bound_entry bound ∷ entries) = rows_in entries
rows_in (schema_entry change ∷ entries) = rows_in entries
rows_in (kept_entry number ∷ entries) = rows_in entries

-- the greatest of a bound and those of the entries
abbrev pub low_in : ℕ → List Entry → ℕ
low_in low [] = low
low_in low (row_entry numbered tablet ∷ entries) = low_in low entries
low_in low (bound_entry bound ∷ entries) = low_in (max low bound) entries
low_in low (schema_entry change ∷ entries) = low_in low entries
low_in low (kept_entry number ∷ entries) = low_in low entries

-- the greatest of a kept number and those of the entries
abbrev pub kept_in : ℕ → List Entry → ℕ
kept_in kept [] = kept
kept_in kept (row_entry numbered tablet ∷ entries) = kept_in kept entries
kept_in kept (bound_entry bound ∷ entries) = kept_in kept entries
kept_in kept (schema_entry change ∷ entries) = kept_in kept entries
kept_in kept (kept_entry number ∷ entries) = kept_in (max kept number) entries

abbrev pub changes_in : List Entry → List Change
changes_in [] = []
changes_in (row_entry numbered tablet ∷ entries) = changes_in entries
changes_in (bound_entry bound ∷ entries) = changes_in entries
changes_in (schema_entry change ∷ entries) = change ∷ changes_in entries
changes_in (kept_entry number ∷ entries) = changes_in entries

-- the opening's rows, and those added since
abbrev pub rows : History → List Numbered
rows h = h.opening.rows ++ rows_in h.entries

-- the number of the next row
abbrev pub next : History → ℕ
next h = h.opening.next + length (rows_in h.entries)

-- the greatest bound; rows below it are gone
abbrev pub low : History → ℕ
low h = low_in h.opening.low h.entries

-- the kept number: each row below it is durable
abbrev pub kept : History → ℕ
kept h = kept_in h.opening.kept h.entries

-- the schemas, with the changes since
abbrev pub schemas : History → SchemaVersions
schemas h = record { first = h.opening.schemas.first; changes = h.opening.schemas.changes ++ changes_in h.entries }

-- the time to live
abbrev pub ttl : History → Option ℕ
ttl h = h.opening.ttl

-- a row's key and its timestamp; no change of the schema touches them
abbrev pub key_in : History → Numbered → List Value
key_in h numbered = key_of h.opening.schemas.first numbered.row

abbrev pub time_in : History → Numbered → ℕ
time_in h numbered = time_of h.opening.schemas.first numbered.row

-- the greater of a low and the time to live before a moment
abbrev pub bound_at : Option ℕ → ℕ → ℕ → ℕ
bound_at None low now = low
bound_at (Some ttl) low now = max low (now - ttl)

-- rows from this timestamp on are unexpired at that moment
abbrev pub since : History → ℕ → ℕ
since h now = bound_at (ttl h) (low h) now

-- a row of a tablet in memory
pub record Note : Type 0 where
  pub tablet : ℕ
  pub seq : ℕ

abbrev pub notes_in : List Entry → List Note
notes_in [] = []
notes_in (row_entry numbered tablet ∷ entries) = record { tablet = tablet; seq = numbered.seq } ∷ notes_in entries
notes_in (bound_entry bound ∷ entries) = notes_in entries
notes_in (schema_entry change ∷ entries) = notes_in entries
notes_in (kept_entry number ∷ entries) = notes_in entries

-- the tablets in memory with their rows: those that rows from the kept number on were added to
abbrev pub in_memory : History → List Note
in_memory h = filter (λ note. nat_le (kept h) note.seq) (notes_in h.entries)

abbrev pub IsInMemory : History → ℕ → Type 0
IsInMemory h tablet = IsTrue (list_any (λ note. nat_eq note.tablet tablet) (in_memory h))

abbrev pub next_tablet_in : ℕ → List Note → ℕ
next_tablet_in least [] = least
next_tablet_in least (note ∷ notes) = next_tablet_in (max least (note.tablet + 1)) notes

-- one above the greatest tablet that is named, or 0 where none is
abbrev pub next_tablet : History → ℕ
next_tablet h = next_tablet_in 0 (notes_in h.entries)
