-- The six facts about a table's directory on which each stop relies, and what holds beside them.
use Rattle.std.specs.Prelude.{ℕ, ◌≡◌, ◌≤◌, Bool, true, List, Contains, Some}
use Rattle.lt_io.specs.Directory.{moment}
use Rattle.lt_rec.specs.Record.{Record}
use Rattle.lt_rec.specs.declared.listed.Listed.{Listed}
use Rattle.lt_desc.specs.Shape.{StoneShape}
use Rattle.lt_commit.specs.Anchored.{Anchored}
use Rattle.lt_model.specs.History.{History}
use Rattle.lt_model.specs.Readings.{next, low, kept}
use Rattle.lt_model.specs.Legal.{IsLegal}
use Rattle.lt_trace.specs.Elements.{Noted, Began, Placed, placed_in, records_noted, is_noted}
use Rattle.lt_trace.specs.Records.{KeysApart, InFile}
use Rattle.lt_trace.specs.Opens.{IsWhole, HoldsRows}
use Rattle.lt_trace.specs.Past.{PastOpens}
use Rattle.lt_state.specs.State.{Core, Filled, Sealed, listing, InMemory}

-- the stone's number is at least the settled one and at most the next one
pub record IsSettled (h : History) (stone : StoneShape) : Type 0 where
  pub no_lower : kept h ≤ stone.kept
  pub given : stone.kept ≤ next h

-- where a tablet took a row from the settled number on, all the rows that it ever took are from there on
abbrev pub NoneIsSplit : History → Type 0
NoneIsSplit h = (one other : Placed) → Contains (placed_in h.entries) one → Contains (placed_in h.entries) other → one.tablet ≡ other.tablet → kept h ≤ one.numbered.seq → kept h ≤ other.numbered.seq

-- where a record is held
pub data Source : Type 0 where
  in_file : ℕ → Source
  in_tablet : ℕ → Source

abbrev pub Holds : (ℕ → List Record) → List Listed → List Filled → Source → Record → Type 0
Holds recs tablets memory (in_file file) rec = InFile recs tablets file rec
Holds recs tablets memory (in_tablet number) rec = InMemory memory number rec

-- Of the possible stones of an anchor, the list of tablets and the tablets in memory. What the facts say of contents they
-- say where the device tells them.
pub record SixFacts (told : Bool) (recs : ℕ → List Record) (h : History) (anchor : Anchored) (tablets : List Listed) (memory : List Filled) : Type 0 where
  -- 1. each names only files that were entered and not removed, and is whole with them
  pub entered : told ≡ true → (stone : StoneShape) → Contains anchor.may (Some stone) → IsWhole recs anchor.directory.now.files stone
  -- 2. its files have exactly the rows below its number that are unexpired at its low
  pub rows : told ≡ true → (stone : StoneShape) → Contains anchor.may (Some stone) → HoldsRows recs h stone
  -- 3. its number is at least the settled one and at most the next one
  pub settled : (stone : StoneShape) → Contains anchor.may (Some stone) → IsSettled h stone
  -- 4. its low is no lower than that of the history
  pub lows : (stone : StoneShape) → Contains anchor.may (Some stone) → low h ≤ stone.low
  -- 5. a tablet in memory has only rows from the settled number on
  pub unsettled : NoneIsSplit h
  -- 6. no key stands twice
  pub keys : told ≡ true → KeysApart (Holds recs tablets memory)

-- The facts of a core, by the records that files have. Those of a noted file are noted; a file that only a stone names whose
-- publishing failed has no note.
pub record IsSafe (told : Bool) (c : Core) (h : History) (notes : List Noted) (began : Began) : Type 0 where
  pub recs : ℕ → List Record
  pub noted : told ≡ true → (file : ℕ) → is_noted notes file ≡ true → recs file ≡ records_noted notes file
  pub tablets : told ≡ true → (t : Sealed) → Contains c.listed t → t.recs ≡ recs t.listed.file
  pub facts : SixFacts told recs h c.anchor (listing c) c.memory
  pub legal : told ≡ true → IsLegal h
  pub begun : told ≡ true → began.moment ≤ moment c.anchor.directory
  pub past : told ≡ true → PastOpens h began.moment c.anchor.directory
