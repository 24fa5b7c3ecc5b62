-- A flush that was published.
use Rattle.std.specs.Prelude.{ℕ, ◌+◌, ◌^◌, ◌≡◌, ◌≤◌, ◌<◌, ◌⊎◌, Bool, true, List, [], ◌∷◌, ◌++◌, length, map, Ok, Some, Contains}
use Rattle.lt_io.specs.Directory.{lent}
use Rattle.lt_io.specs.Steps.{Steps}
use Rattle.lt_rec.specs.Closure.{has}
use Rattle.lt_deps.specs.Kept.{Kept, StandsFor as DependenciesStandFor}
use Rattle.lt_desc.specs.Shape.{StoneShape}
use Rattle.lt_desc.specs.Lawful.{IsStone}
use Rattle.lt_desc.specs.Reading.{stone_at}
use Rattle.lt_desc.specs.Spelling.{spelling}
use Rattle.lt_commit.specs.Anchored.{Anchored, IsAnchored}
use Rattle.lt_commit.specs.Moments.{Replaces}
use Rattle.lt_model.specs.History.{kept_entry, History, extended}
use Rattle.lt_model.specs.Disk.{tablets_of_rows}
use Rattle.lt_trace.specs.Elements.{Noted, Element, entry, held, Story, history_of, grown}
use Rattle.lt_trace.specs.Records.{HasFile}
use Rattle.lt_state.specs.State.{Core, Sealed, Filled, Ticket}
use Rattle.lt_state.specs.Memory.{AreTablets}
use Rattle.lt_state.specs.Flushes.{TakesAlong, Leaves}
use Rattle.lt_state.specs.Stands.{AreNotedOnce, StandsFor}
use Rattle.lt_events.specs.Cores.{without, with_lent, with_released}

-- the stone that lists the tablets' files, and below whose number all is durable
abbrev pub flushed_stone : Core → ℕ → List Sealed → StoneShape
flushed_stone c number listed = record { kept = number; low = c.low; ttl = c.ttl; next_file = c.next_file + 1; schemas = c.schemas; tablets = map (λ (t : Sealed). t.listed) listed }

-- what is new after a flush: the number below which all is durable, the list of tablets, the files in it that are new, the
-- tablets that are left in memory with what is kept of their dependencies, and the ticket that came back
pub record Flush : Type 0 where
  pub number : ℕ
  pub parts : List ℕ
  pub listed : List Sealed
  pub news : List Noted
  pub left : List Filled
  pub dependencies : Kept
  pub ticket : Ticket

-- the core once the flush was published
abbrev pub with_flush : Core → Flush → Anchored → Core
with_flush c flush after = record c {
  kept = flush.number;
  listed = flush.listed;
  memory = flush.left;
  dependencies = flush.dependencies;
  next_file = c.next_file + 1;
  tickets = without flush.ticket.number c.tickets;
  anchor = after;
  count = c.count + (length flush.news + 1);
}

-- its story has a note of each new file, and the number
abbrev pub flush_elements : Flush → List Element
flush_elements flush = map held flush.news ++ entry (kept_entry flush.number) ∷ []

-- a listed tablet is the file of a tablet in memory that goes
pub record IsNew (told : Bool) (c : Core) (flush : Flush) (t : Sealed) : Type 0 where
  pub tablet : Filled
  pub memory : Contains c.memory tablet
  pub part : has flush.parts tablet.number ≡ true
  pub noted : Contains flush.news (record { file = t.listed.file; recs = t.recs })
  pub records : told ≡ true → t.recs ≡ tablet.recs
  pub file : told ≡ true → HasFile c.anchor.directory.now.files t.listed t.recs

-- a tablet in memory has its file in the new list
pub record HasNew (told : Bool) (c : Core) (flush : Flush) (tablet : Filled) : Type 0 where
  pub sealed : Sealed
  pub listed : Contains flush.listed sealed
  pub new : IsNew told c flush sealed
  pub records : told ≡ true → sealed.recs ≡ tablet.recs

-- The flush takes along what must go. Each tablet of the new list was listed before or is the file of one that goes; each
-- that was listed stays, each that goes has a file, and one alone. The new files were lent for the ticket.
pub record IsFlush (told : Bool) (c : Core) (h : History) (flush : Flush) : Type 0 where
  pub takes : TakesAlong h flush.parts flush.number
  pub leaves : Leaves c.memory flush.left flush.parts
  pub tablets : AreTablets flush.left
  pub dependencies : DependenciesStandFor flush.dependencies (tablets_of_rows (extended h (kept_entry flush.number ∷ [])))
  pub each : (t : Sealed) → Contains flush.listed t → Contains c.listed t ⊎ IsNew told c flush t
  pub stays : (t : Sealed) → Contains c.listed t → Contains flush.listed t
  pub goes : (tablet : Filled) → Contains c.memory tablet → has flush.parts tablet.number ≡ true → HasNew told c flush tablet
  pub alone : (one other : Sealed) (a : IsNew told c flush one) (b : IsNew told c flush other) → a.tablet.number ≡ b.tablet.number → one.listed.file ≡ other.listed.file
  pub once : AreNotedOnce flush.news
  pub out : Contains c.tickets flush.ticket
  pub lent : (note : Noted) → Contains flush.news note → Contains flush.ticket.lent note.file
  pub enough : length flush.news ≤ length flush.ticket.lent

-- A core that published a flush stands for its story with the new files and the number.
abbrev pub FlushStands : Type 0
FlushStands = (told : Bool) (c : Core) (s : Story) (flush : Flush) (after : Anchored)
    → StandsFor told c s → IsFlush told c (history_of s) flush → IsStone (flushed_stone c flush.number flush.listed) → c.next_file < 2 ^ 62
    → IsAnchored told c.anchor → IsAnchored told after → after.may ≡ Some (flushed_stone c flush.number flush.listed) ∷ []
    → (told ≡ true → Steps (Replaces c.next_file (spelling (flushed_stone c flush.number flush.listed))) c.anchor.directory after.directory)
    → after.directory.now.ceiling ≡ c.next_file + 1 → after.directory.lends ≡ c.anchor.directory.lends + 1
    → StandsFor told (with_flush c flush after) (grown s (flush_elements flush))

-- Publishing it failed, so that its stone may be possible or not. The ticket came back: the core stands for the same story.
abbrev pub FlushFaultStands : Type 0
FlushFaultStands = (told : Bool) (c : Core) (s : Story) (flush : Flush) (after : Anchored)
    → StandsFor told c s → IsFlush told c (history_of s) flush → IsStone (flushed_stone c flush.number flush.listed) → c.next_file < 2 ^ 62
    → IsAnchored told c.anchor → IsAnchored told after → (after.may ≡ c.anchor.may) ⊎ (after.may ≡ c.anchor.may ++ Some (flushed_stone c flush.number flush.listed) ∷ [])
    → (told ≡ true → Steps (Replaces c.next_file (spelling (flushed_stone c flush.number flush.listed))) c.anchor.directory after.directory)
    → (told ≡ true → (after.directory ≡ lent c.anchor.directory c.next_file) ⊎ (stone_at (spelling (flushed_stone c flush.number flush.listed)) ≡ Ok (flushed_stone c flush.number flush.listed)))
    → after.directory.now.ceiling ≡ c.next_file + 1 → after.directory.lends ≡ c.anchor.directory.lends + 1
    → StandsFor told (with_released (with_lent c after) flush.ticket.number) s
