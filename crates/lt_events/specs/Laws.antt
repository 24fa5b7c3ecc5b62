-- After each event the core stands for its story.
use Rattle.std.specs.Prelude.{ℕ, ◌+◌, ◌^◌, ◌≡◌, ◌≤◌, ◌<◌, ◌⊎◌, ◌↔◌, Bool, true, List, [], ◌∷◌, ◌++◌, map, length, Ok, Some, None, Contains}
use Rattle.std.specs.List.Sorted.{IsStrictlyIncreasing}
use Rattle.lt_io.specs.Device.{KeepsLent}
use Rattle.lt_io.specs.Directory.{lent}
use Rattle.lt_io.specs.Steps.{Steps}
use Rattle.lt_rec.specs.declared.listed.Listed.{Listed}
use Rattle.lt_deps.specs.Kept.{Kept, StandsFor as DependenciesStandFor}
use Rattle.lt_schema.specs.declared.change.Change.{Change}
use Rattle.lt_schema.specs.Versions.{newest, alter_refusal}
use Rattle.lt_desc.specs.Shape.{StoneShape}
use Rattle.lt_desc.specs.Lawful.{IsStone, lists_file}
use Rattle.lt_desc.specs.Reading.{stone_at}
use Rattle.lt_desc.specs.Spelling.{spelling}
use Rattle.lt_commit.specs.Anchored.{Anchored, IsAnchored}
use Rattle.lt_commit.specs.Moments.{Replaces}
use Rattle.lt_model.specs.History.{Numbered, Opening, schema_entry}
use Rattle.lt_model.specs.Legal.{IsLegal}
use Rattle.lt_trace.specs.Elements.{Noted, Story, entry, free, records_noted, is_noted, notes_of, grown}
use Rattle.lt_trace.specs.Records.{HasRow}
use Rattle.lt_trace.specs.Opens.{IsWhole}
use Rattle.lt_state.specs.State.{Core, Sealed, Ticket}
use Rattle.lt_state.specs.Stands.{AreNotedOnce, StandsFor}
use Rattle.lt_state.specs.Laws.{Spares}
use Rattle.lt_events.specs.Cores.{loaded_core, loaded_story, with_lent, with_anchor, with_ticket, with_released, with_freed, IsFree, HasRoom, with_change, changed_stone, with_schemas}

-- ---- loading

-- A core that was loaded stands for the opening of its stone. What is asked of the files and rows is asked where the device
-- tells them.
abbrev pub LoadStands : Type 0
LoadStands = (told : Bool) (anchor : Anchored) (stone : StoneShape) (found : Opening) (loaded : List Noted) (listed : List Sealed) (dependencies : Kept) (next_file : ℕ)
    → anchor.may ≡ Some stone ∷ [] → anchor.directory.now.ceiling ≤ next_file → next_file ≤ 2 ^ 62 → map (λ (t : Sealed). t.listed) listed ≡ stone.tablets
    → DependenciesStandFor dependencies []
    → found.schemas ≡ stone.schemas → found.ttl ≡ stone.ttl → found.low ≡ stone.low → found.next ≡ stone.kept → found.kept ≡ stone.kept
    -- the listed files are noted, once each, and below the next file number
    → AreNotedOnce loaded → ((file : ℕ) → is_noted loaded file ≡ true → file < next_file) → ((file : ℕ) → lists_file stone.tablets file ≡ true → file < next_file)
    → ((t : Sealed) → Contains listed t → is_noted loaded t.listed.file ≡ true)
    → (told ≡ true → IsLegal (record { opening = found; entries = [] }))
    → (told ≡ true → IsAnchored true anchor)
    → (told ≡ true → IsWhole (records_noted loaded) anchor.directory.now.files stone)
    → (told ≡ true → (x : Numbered) → Contains found.rows x ↔ HasRow stone.schemas (records_noted loaded) stone.tablets stone.low x)
    → (told ≡ true → (t : Sealed) → Contains listed t → t.recs ≡ records_noted loaded t.listed.file)
    → StandsFor told (loaded_core anchor stone listed dependencies next_file) (loaded_story anchor found loaded next_file)

-- ---- file numbers and tickets

-- no lent number is without use at first
abbrev pub RoomBegins : Type 0
RoomBegins = (told : Bool) (c : Core) (s : Story) → StandsFor told c s → HasRoom c s 0

-- The next file number was lent and nothing else was done: the core stands for the same story. The number is free, and so is
-- each that was.
abbrev pub LendStands : Type 0
LendStands = (told : Bool) (c : Core) (s : Story) (after : Anchored)
    → StandsFor told c s → IsAnchored told c.anchor → c.next_file < 2 ^ 62
    → (told ≡ true → after.directory ≡ lent c.anchor.directory c.next_file)
    → after.directory.now.ceiling ≡ c.next_file + 1 → after.directory.lends ≡ c.anchor.directory.lends + 1 → after.may ≡ c.anchor.may
    → StandsFor told (with_lent c after) s × IsFree (with_lent c after) (notes_of s) c.next_file × ((file : ℕ) → IsFree c (notes_of s) file → IsFree (with_lent c after) (notes_of s) file) × ((count : ℕ) → HasRoom c s count → HasRoom (with_lent c after) s (count + 1))

-- a ticket goes out with free file numbers, which rise, and with noted files
abbrev pub TicketStands : Type 0
TicketStands = (told : Bool) (c : Core) (s : Story) (ticket : Ticket)
    → StandsFor told c s → ticket.number ≡ c.next_ticket → IsStrictlyIncreasing (map (λ t. t.number) (c.tickets ++ ticket ∷ [])) → IsStrictlyIncreasing ticket.lent → HasRoom c s (length ticket.lent)
    → ((file : ℕ) → Contains ticket.lent file → IsFree c (notes_of s) file)
    → ((file : ℕ) → Contains ticket.handed file → is_noted (notes_of s) file ≡ true)
    → StandsFor told (with_ticket c ticket) s

-- a ticket comes back
abbrev pub ReleaseStands : Type 0
ReleaseStands = (told : Bool) (c : Core) (s : Story) (number : ℕ) → StandsFor told c s → StandsFor told (with_released c number) s

-- It was noted from which number on files are free, where that was not noted yet. Where it was, the story has the note.
abbrev pub SpentStands : Type 0
SpentStands = (told : Bool) (c : Core) (s : Story) → StandsFor told c s → c.freed ≤ c.next_file → StandsFor told (with_freed c) (grown s (free c.next_file ∷ []))

abbrev pub SpentIsNoted : Type 0
SpentIsNoted = (told : Bool) (c : Core) (s : Story) → StandsFor told c s → c.next_file < c.freed → Contains s.since (free c.next_file)

-- ---- files come and go

-- Files were entered or removed that no possible stone names: the core stands for the same story.
abbrev pub SpareStands : Type 0
SpareStands = (told : Bool) (c : Core) (s : Story) (goes : ℕ → Bool) (after : Anchored)
    → StandsFor told c s → IsAnchored told c.anchor
    → ((stone : StoneShape) (listed : Listed) → Contains c.anchor.may (Some stone) → Contains stone.tablets listed → goes listed.file ≡ true → ⊥)
    → (told ≡ true → Steps (Spares (λ n. goes n ≡ true)) c.anchor.directory after.directory)
    → KeepsLent c.anchor.directory after.directory → after.may ≡ c.anchor.may
    → StandsFor told (with_anchor c after) s

-- ---- a change of the schema

-- An admitted change was published: the core stands for its story with the change.
abbrev pub AlterStands : Type 0
AlterStands = (told : Bool) (c : Core) (s : Story) (change : Change) (after : Anchored)
    → StandsFor told c s → alter_refusal (newest c.schemas) change ≡ None → IsStone (changed_stone c change) → c.next_file < 2 ^ 62
    → IsAnchored told c.anchor → IsAnchored told after → after.may ≡ Some (changed_stone c change) ∷ []
    → (told ≡ true → Steps (Replaces c.next_file (spelling (changed_stone c change))) c.anchor.directory after.directory)
    → after.directory.now.ceiling ≡ c.next_file + 1 → after.directory.lends ≡ c.anchor.directory.lends + 1
    → StandsFor told (with_schemas c (with_change c.schemas change) after) (grown s (entry (schema_entry change) ∷ []))

-- Publishing it failed, so that its stone may be possible or not: the core stands for the same story.
abbrev pub AlterFaultStands : Type 0
AlterFaultStands = (told : Bool) (c : Core) (s : Story) (change : Change) (after : Anchored)
    → StandsFor told c s → alter_refusal (newest c.schemas) change ≡ None → IsStone (changed_stone c change) → c.next_file < 2 ^ 62
    → IsAnchored told c.anchor → IsAnchored told after → (after.may ≡ c.anchor.may) ⊎ (after.may ≡ c.anchor.may ++ Some (changed_stone c change) ∷ [])
    → (told ≡ true → Steps (Replaces c.next_file (spelling (changed_stone c change))) c.anchor.directory after.directory)
    → (told ≡ true → (after.directory ≡ lent c.anchor.directory c.next_file) ⊎ (stone_at (spelling (changed_stone c change)) ≡ Ok (changed_stone c change)))
    → after.directory.now.ceiling ≡ c.next_file + 1 → after.directory.lends ≡ c.anchor.directory.lends + 1
    → StandsFor told (with_lent c after) s
