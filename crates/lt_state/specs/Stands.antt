-- What a core stands for: a story, that is a history with its notes.
use Rattle.std.specs.Prelude.{ℕ, ◌+◌, ◌^◌, ◌≡◌, ◌≤◌, ◌<◌, Bool, true, false, List, [], ◌∷◌, length, map, Contains, Some, None}
use Rattle.std.specs.List.Sorted.{IsStrictlyIncreasing}
use Rattle.lt_deps.specs.Kept.{StandsFor as DependenciesStandFor}
use Rattle.lt_desc.specs.Shape.{StoneShape}
use Rattle.lt_commit.specs.Anchored.{IsNamed}
use Rattle.lt_model.specs.History.{row_entry, bound_entry, schema_entry, kept_entry, History}
use Rattle.lt_model.specs.Readings.{next, low, ttl, kept, schemas, next_tablet}
use Rattle.lt_model.specs.Legal.{EachFollows}
use Rattle.lt_model.specs.Disk.{tablets_of_rows}
use Rattle.lt_trace.specs.Elements.{Noted, Began, Element, entry, held, free, Story, history_of, is_noted, notes_of}
use Rattle.lt_state.specs.State.{Core, Sealed, Ticket, IsOwn}
use Rattle.lt_state.specs.Memory.{IsMemory, AreTablets}
use Rattle.lt_state.specs.Facts.{IsSafe}

-- the core's values are the readings of the history
pub record Reads (c : Core) (h : History) : Type 0 where
  pub next_is : c.next ≡ next h
  pub low_is : c.low ≡ low h
  pub ttl_is : c.ttl ≡ ttl h
  pub schemas_are : c.schemas ≡ schemas h
  pub kept_is : c.kept ≡ kept h
  pub next_tablet_is : c.next_tablet ≡ next_tablet h

-- no file is noted twice
abbrev pub AreNotedOnce : List Noted → Type 0
AreNotedOnce [] = Unit {0}
AreNotedOnce (note ∷ notes) = (is_noted notes note.file ≡ false) × AreNotedOnce notes

-- the elements that took a file: a file that was listed, and each entry but a row's, for which a descriptor was written
abbrev pub files_used : List Element → ℕ
files_used [] = 0
files_used (entry (row_entry numbered tablet) ∷ more) = files_used more
files_used (entry (bound_entry bound) ∷ more) = files_used more + 1
files_used (entry (schema_entry change) ∷ more) = files_used more + 1
files_used (entry (kept_entry number) ∷ more) = files_used more + 1
files_used (held note ∷ more) = files_used more + 1
files_used (free number ∷ more) = files_used more

-- the numbers from which on files were free
abbrev pub frees_in : List Element → List ℕ
frees_in [] = []
frees_in (entry e ∷ more) = frees_in more
frees_in (held note ∷ more) = frees_in more
frees_in (free number ∷ more) = number ∷ frees_in more

-- the numbers rise from the least on, and the end is one above the last
abbrev pub RiseTo : ℕ → List ℕ → ℕ → Type 0
RiseTo least [] end = least ≡ end
RiseTo least (number ∷ more) end = (least ≤ number) × RiseTo (number + 1) more end

-- how many file numbers are lent for tickets
abbrev pub lent_out : List Ticket → ℕ
lent_out [] = 0
lent_out (ticket ∷ tickets) = length ticket.lent + lent_out tickets

-- So many file numbers were lent since the story began. None was skipped, the ceiling is the first free one, and they are
-- enough for the elements that took a file and for the tickets that are out.
pub record LentSince (told : Bool) (c : Core) (began : Began) (since : List Element) : Type 0 where
  pub more : ℕ
  pub lends : c.anchor.directory.lends ≡ began.lends + more
  pub next_file : c.next_file ≡ began.free + more
  pub none : told ≡ true → more ≡ 0 → c.anchor.directory.now.ceiling ≡ began.ceiling
  pub some : told ≡ true → 0 < more → c.anchor.directory.now.ceiling ≡ c.next_file
  pub used : files_used since + lent_out c.tickets ≤ more

-- files that are noted, named by a possible stone or below the ceiling are below the next file number
pub record AreBelow (c : Core) (notes : List Noted) (since : List Element) : Type 0 where
  pub ceiling : c.anchor.directory.now.ceiling ≤ c.next_file
  pub noted : (file : ℕ) → is_noted notes file ≡ true → file < c.next_file
  pub named : (file : ℕ) → IsNamed c.anchor.may file → file < c.next_file
  pub frees : RiseTo 0 (frees_in since) c.freed
  pub freed : c.freed ≤ c.next_file + 1
  pub most : c.next_file ≤ 2 ^ 62

-- a file number that is lent for a ticket: below the ceiling, of no noted file, and named by no possible stone
pub record IsLent (c : Core) (notes : List Noted) (file : ℕ) : Type 0 where
  pub below : file < c.anchor.directory.now.ceiling
  pub unnoted : is_noted notes file ≡ false
  pub unnamed : IsNamed c.anchor.may file → ⊥

-- tickets differ, no number is lent for two of them or twice for one, and what is handed out with one is noted
pub record AreTickets (c : Core) (notes : List Noted) : Type 0 where
  pub rising : IsStrictlyIncreasing (map (λ t. t.number) c.tickets)
  pub below : (ticket : Ticket) → Contains c.tickets ticket → ticket.number < c.next_ticket
  pub once : (ticket : Ticket) → Contains c.tickets ticket → IsStrictlyIncreasing ticket.lent
  pub lent : (ticket : Ticket) (file : ℕ) → Contains c.tickets ticket → Contains ticket.lent file → IsLent c notes file
  pub apart : (one other : Ticket) (file : ℕ) → Contains c.tickets one → Contains c.tickets other → Contains one.lent file → Contains other.lent file → one ≡ other
  pub handed : (ticket : Ticket) (file : ℕ) → Contains c.tickets ticket → Contains ticket.handed file → is_noted notes file ≡ true

pub record Stands (told : Bool) (c : Core) (h : History) (notes : List Noted) (began : Began) (since : List Element) : Type 0 where
  pub reads : Reads c h
  pub opened : h.opening.kept ≡ h.opening.next
  pub follows : EachFollows h.opening [] h.entries
  pub memory : IsMemory h c.memory
  pub tablets : AreTablets c.memory
  pub dependencies : DependenciesStandFor c.dependencies (tablets_of_rows h)
  -- some possible stone is the core's own, and 'no descriptor' is not possible
  pub own : (stone : StoneShape) × Contains c.anchor.may (Some stone) × IsOwn c stone
  pub some : Contains c.anchor.may None → ⊥
  pub listed : (t : Sealed) → Contains c.listed t → is_noted notes t.listed.file ≡ true
  pub once : AreNotedOnce notes
  pub lent : LentSince told c began since
  pub files : AreBelow c notes since
  pub tickets : AreTickets c notes
  pub count_is : c.count ≡ length since + 1
  pub safe : IsSafe told c h notes began

abbrev pub StandsFor : Bool → Core → Story → Type 0
StandsFor told c s = Stands told c (history_of s) (notes_of s) s.began s.since
