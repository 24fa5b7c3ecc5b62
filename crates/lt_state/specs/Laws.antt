-- Laws of a table's state.
use Rattle.std.specs.Prelude.{ℕ, ◌+◌, ◌^◌, ◌*◌, ◌≡◌, ◌≢◌, ◌≤◌, ◌<◌, ◌⊎◌, IsTrue, Ok, length, max, Bool, true, List, [], ◌∷◌, ◌++◌, Contains, Some, None}
use Rattle.lt_io.specs.Directory.{Contents, State, Image, Directory, Fits, moment, file_at}
use Rattle.lt_io.specs.Steps.{Steps}
use Rattle.lt_rec.specs.Closure.{has, IsClosed}
use Rattle.lt_rec.specs.Record.{Record}
use Rattle.lt_rec.specs.declared.listed.Listed.{Listed}
use Rattle.lt_desc.specs.Shape.{StoneShape}
use Rattle.lt_desc.specs.Spelling.{spelling}
use Rattle.lt_desc.specs.Lawful.{IsStone}
use Rattle.lt_desc.specs.Reading.{stone_at}
use Rattle.lt_schema.specs.Check.{key_of}
use Rattle.lt_schema.specs.Versions.{is_versions}
use Rattle.lt_commit.specs.Anchored.{Anchored, IsAnchored}
use Rattle.lt_commit.specs.Moments.{Replaces}
use Rattle.lt_deps.specs.Kept.{Kept, StandsFor as DependenciesStandFor}
use Rattle.lt_model.specs.History.{Numbered, Entry, row_entry, kept_entry, History, front, extended}
use Rattle.lt_model.specs.Readings.{Note, rows, next, low, kept, schemas, key_in, time_in, in_memory}
use Rattle.lt_model.specs.Verdict.{HasKey, HasNewKey}
use Rattle.lt_model.specs.Disk.{tablets_of_rows}
use Rattle.lt_model.specs.Legal.{IsLegal, EachFollows, RowMayFollow}
use Rattle.lt_trace.specs.Elements.{Story, entry, Placed, placed_in, history_of, grown}
use Rattle.lt_trace.specs.Records.{IsRecordOf, IsOn, KeysApart}
use Rattle.lt_trace.specs.Opens.{IsWhole, OpensAfter, HoldsRows}
use Rattle.lt_trace.specs.Past.{PastOpens}
use Rattle.lt_trace.specs.Laws.{StoodBefore}
use Rattle.lt_state.specs.State.{Core, Sealed, Filled, InMemory}
use Rattle.lt_state.specs.Memory.{IsMemory, AreTablets}
use Rattle.lt_state.specs.Facts.{IsSettled, NoneIsSplit, Source, Holds, SixFacts}
use Rattle.lt_state.specs.Flushes.{IsJobAt, TakesAlong, Joins, IsFlushed, Leaves, AddsRecord}
use Rattle.lt_state.specs.Stands.{StandsFor}

-- each entry may follow the history before it, whatever the opening holds
abbrev pub Follows : History → Type 0
Follows h = EachFollows h.opening [] h.entries

-- ---- what possible images open to

-- by the six facts each image that is possible now opens to what a stop leaves of the history
abbrev pub PresentOpens : Type 0
PresentOpens = (h : History) (recs : ℕ → List Record) (anchor : Anchored) (tablets : List Listed) (memory : List Filled) (image : Image)
    → IsLegal h → IsAnchored true anchor → SixFacts true recs h anchor tablets memory → (Contains anchor.may None → ⊥) → Fits image anchor.directory.now → OpensAfter h image

-- and so does each that is possible at any moment while a stone is published that is whole and holds its rows
abbrev pub PublishKeepsPast : Type 0
PublishKeepsPast = (h : History) (recs new_recs : ℕ → List Record) (anchor : Anchored) (tablets : List Listed) (memory : List Filled) (file begin : ℕ) (stone : StoneShape) (new : Directory)
    → IsLegal h → IsAnchored true anchor → SixFacts true recs h anchor tablets memory → (Contains anchor.may None → ⊥) → PastOpens h begin anchor.directory → begin ≤ moment anchor.directory
    → IsWhole new_recs anchor.directory.now.files stone → HoldsRows new_recs h stone → stone.kept ≤ next h
    → (own : StoneShape) → Contains anchor.may (Some own) → own.kept ≤ stone.kept
    → Steps (Replaces file (spelling stone)) anchor.directory new
    → PastOpens h begin new

-- files go or come that no possible stone names: the others stand, and so do the possible descriptors
pub record Spares (goes : ℕ → Type 0) (before after : State) : Type 0 where
  pub stands : (number : ℕ) (bytes : List ℕ) → (goes number → ⊥) → file_at before.files number ≡ Some bytes → file_at after.files number ≡ Some bytes
  pub may : after.may ≡ before.may

-- while they do, the past stays true, and so do the facts
abbrev pub SparingKeepsFacts : Type 0
SparingKeepsFacts = (h : History) (recs : ℕ → List Record) (anchor : Anchored) (tablets : List Listed) (memory : List Filled) (goes : ℕ → Bool) (begin : ℕ) (new : Directory)
    → IsLegal h → IsAnchored true anchor → SixFacts true recs h anchor tablets memory → (Contains anchor.may None → ⊥) → PastOpens h begin anchor.directory → begin ≤ moment anchor.directory
    → ((stone : StoneShape) (listed : Listed) → Contains anchor.may (Some stone) → Contains stone.tablets listed → goes listed.file ≡ true → ⊥)
    → Steps (Spares (λ n. goes n ≡ true)) anchor.directory new
    → PastOpens h begin new × SixFacts true recs h (record { directory = new; may = anchor.may }) tablets memory

-- ---- which tablets a flush takes

-- a closed set of tablets in memory is a job, up to its greatest row
abbrev pub ClosedIsJob : Type 0
ClosedIsJob = (h : History) (parts : List ℕ) (top : Note) → Follows h → IsClosed (tablets_of_rows h) parts
    → Contains (in_memory h) top → has parts top.tablet ≡ true
    → IsJobAt h parts (top.seq + 1)

-- a job of an earlier front takes all along that must go, where its tablets took no row since and one of them is there
abbrev pub JobTakesAlong : Type 0
JobTakesAlong = (h : History) (k : ℕ) (parts : List ℕ) (number : ℕ) → Follows h → k ≤ length h.entries → IsJobAt (front k h) parts number
    → ((placed : Placed) → Contains (placed_in h.entries) placed → kept h ≤ placed.numbered.seq → has parts placed.tablet ≡ true → placed.numbered.seq < number)
    → (left : Placed) → Contains (placed_in h.entries) left → kept h ≤ left.numbered.seq → has parts left.tablet ≡ true
    → TakesAlong h parts number

-- ---- what a flush leaves

-- its stone holds exactly the rows below its number that are unexpired at its low
abbrev pub FlushHolds : Type 0
FlushHolds = (h : History) (memory : List Filled) (parts : List ℕ) (old_recs new_recs : ℕ → List Record) (own new : StoneShape)
    → IsLegal h → h.opening.kept ≡ h.opening.next → IsMemory h memory
    → own.kept ≡ kept h → own.schemas ≡ schemas h → HoldsRows old_recs h own
    → TakesAlong h parts new.kept → new.schemas ≡ schemas h → new.low ≡ own.low → Joins memory parts old_recs own.tablets new_recs new.tablets
    → HoldsRows new_recs h new

-- it splits no tablet
abbrev pub FlushSplitsNone : Type 0
FlushSplitsNone = (h : History) (parts : List ℕ) (number : ℕ) → Follows h → NoneIsSplit h → TakesAlong h parts number → NoneIsSplit (extended h (kept_entry number ∷ []))

-- its stone is whole
abbrev pub FlushIsWhole : Type 0
FlushIsWhole = (h : History) (old_recs new_recs : ℕ → List Record) (tablets : List Listed) (memory : List Filled) (parts : List ℕ) (files : Contents) (own new : StoneShape)
    → IsMemory h memory → IsWhole old_recs files own → own.tablets ≡ tablets → own.schemas ≡ schemas h → KeysApart (Holds old_recs tablets memory)
    → IsStone new → stone_at (spelling new) ≡ Ok new → new.schemas ≡ schemas h
    → (each : (listed : Listed) → Contains new.tablets listed → StoodBefore old_recs new_recs own.tablets listed ⊎ IsFlushed memory parts files new_recs listed)
    → ((one other : Listed) → Contains new.tablets one → Contains new.tablets other → (a : IsFlushed memory parts files new_recs one) (b : IsFlushed memory parts files new_recs other) → a.tablet.number ≡ b.tablet.number → one.file ≡ other.file)
    → IsWhole new_recs files new

-- memory is without the tablets that went
abbrev pub FlushLeavesMemory : Type 0
FlushLeavesMemory = (h : History) (memory left : List Filled) (parts : List ℕ) (number : ℕ) → IsMemory h memory → TakesAlong h parts number → Leaves memory left parts
    → IsMemory (extended h (kept_entry number ∷ [])) left

-- and all six facts hold, once its stone is the one that is possible
abbrev pub FlushKeepsFacts : Type 0
FlushKeepsFacts = (h : History) (old_recs new_recs : ℕ → List Record) (anchor : Anchored) (tablets : List Listed) (memory left : List Filled) (parts : List ℕ) (new : Directory) (own stone : StoneShape)
    → IsLegal h → IsLegal (extended h (kept_entry stone.kept ∷ [])) → h.opening.kept ≡ h.opening.next → IsMemory h memory → SixFacts true old_recs h anchor tablets memory
    → Contains anchor.may (Some own) → own.kept ≡ kept h → own.low ≡ low h → own.schemas ≡ schemas h → own.tablets ≡ tablets
    → IsStone stone → stone_at (spelling stone) ≡ Ok stone → stone.low ≡ low h → stone.schemas ≡ schemas h → TakesAlong h parts stone.kept
    -- what the entered files are, and that the old ones still stand
    → IsWhole old_recs new.now.files own
    → ((listed : Listed) → Contains stone.tablets listed → StoodBefore old_recs new_recs tablets listed ⊎ IsFlushed memory parts new.now.files new_recs listed)
    → ((one other : Listed) → Contains stone.tablets one → Contains stone.tablets other → (a : IsFlushed memory parts new.now.files new_recs one) (b : IsFlushed memory parts new.now.files new_recs other) → a.tablet.number ≡ b.tablet.number → one.file ≡ other.file)
    -- each old one stays, and each tablet that goes has a file
    → ((listed : Listed) → Contains tablets listed → Contains stone.tablets listed × (new_recs listed.file ≡ old_recs listed.file))
    → ((number : ℕ) (rec : Record) → has parts number ≡ true → InMemory memory number rec → IsOn new_recs stone.tablets rec)
    → Leaves memory left parts
    → SixFacts true new_recs (extended h (kept_entry stone.kept ∷ [])) (record { directory = new; may = Some stone ∷ [] }) stone.tablets left

-- ---- while the history and the notes grow

-- the facts hold of the history with more entries, where these leave the numbers, lows, tablets and keys in place
abbrev pub FactsOutlive : Type 0
FactsOutlive = (told : Bool) (recs : ℕ → List Record) (h : History) (more : List Entry) (anchor : Anchored) (tablets : List Listed) (memory left : List Filled)
    → (told ≡ true → IsLegal (extended h more)) → SixFacts told recs h anchor tablets memory
    → ((stone : StoneShape) → Contains anchor.may (Some stone) → (kept (extended h more) ≤ stone.kept) × (low (extended h more) ≤ stone.low))
    → NoneIsSplit (extended h more) → (told ≡ true → KeysApart (Holds recs tablets left))
    → SixFacts told recs (extended h more) anchor tablets left

-- and by records that are the same in all files that a possible stone or the list has
abbrev pub FactsBySameRecords : Type 0
FactsBySameRecords = (told : Bool) (recs more : ℕ → List Record) (h : History) (anchor : Anchored) (tablets : List Listed) (memory : List Filled)
    → SixFacts told recs h anchor tablets memory
    → ((stone : StoneShape) (listed : Listed) → Contains anchor.may (Some stone) → Contains stone.tablets listed → more listed.file ≡ recs listed.file)
    → ((listed : Listed) → Contains tablets listed → more listed.file ≡ recs listed.file)
    → SixFacts told more h anchor tablets memory

-- entries that are no rows and leave the settled number leave the tablets in memory, and split none
abbrev pub OthersLeaveMemory : Type 0
OthersLeaveMemory = (h : History) (memory : List Filled) (more : List Entry) → placed_in more ≡ [] → kept (extended h more) ≡ kept h → IsMemory h memory → IsMemory (extended h more) memory

abbrev pub OthersSplitNone : Type 0
OthersSplitNone = (h : History) (more : List Entry) → placed_in more ≡ [] → kept (extended h more) ≡ kept h → NoneIsSplit h → NoneIsSplit (extended h more)

-- ---- other stones

-- the facts of a stone that was published, and is the only one that is possible
abbrev pub PublishedFacts : Type 0
PublishedFacts = (told : Bool) (h : History) (recs : ℕ → List Record) (new : Directory) (stone : StoneShape) (memory : List Filled)
    → (told ≡ true → IsWhole recs new.now.files stone) → (told ≡ true → HoldsRows recs h stone) → IsSettled h stone → low h ≤ stone.low → NoneIsSplit h → (told ≡ true → KeysApart (Holds recs stone.tablets memory))
    → SixFacts told recs h (record { directory = new; may = Some stone ∷ [] }) stone.tablets memory

-- the facts after a publishing that failed, so that one more stone is possible
abbrev pub FaultKeepsFacts : Type 0
FaultKeepsFacts = (told : Bool) (h : History) (recs : ℕ → List Record) (anchor after : Anchored) (tablets : List Listed) (memory : List Filled) (stone : StoneShape)
    → SixFacts told recs h anchor tablets memory → after.directory.now.files ≡ anchor.directory.now.files → after.may ≡ anchor.may ++ Some stone ∷ []
    → (told ≡ true → IsWhole recs anchor.directory.now.files stone) → (told ≡ true → HoldsRows recs h stone) → IsSettled h stone → low h ≤ stone.low
    → SixFacts told recs h after tablets memory

-- ---- a row is added

abbrev pub RowJoinsMemory : Type 0
RowJoinsMemory = (h : History) (memory left : List Filled) (numbered : Numbered) (tablet : ℕ) (rec : Record)
    → kept h ≤ next h → IsMemory h memory → RowMayFollow h numbered tablet → IsRecordOf (schemas h) rec numbered → AddsRecord memory left tablet rec
    → IsMemory (extended h (row_entry numbered tablet ∷ [])) left

abbrev pub RowSplitsNone : Type 0
RowSplitsNone = (h : History) (numbered : Numbered) (tablet : ℕ) → kept h ≤ next h → NoneIsSplit h → RowMayFollow h numbered tablet → NoneIsSplit (extended h (row_entry numbered tablet ∷ []))

-- a record whose key no source has joins a tablet
abbrev pub NewKeyStaysApart : Type 0
NewKeyStaysApart = (recs : ℕ → List Record) (tablets : List Listed) (memory left : List Filled) (tablet : ℕ) (rec : Record)
    → KeysApart (Holds recs tablets memory) → ((source : Source) (other : Record) → Holds recs tablets memory source other → other.key ≢ rec.key) → AddsRecord memory left tablet rec
    → KeysApart (Holds recs tablets left)

-- no record that the core holds has the key
pub record HasNoKey (c : Core) (rec : Record) : Type 0 where
  pub listed : (t : Sealed) (other : Record) → Contains c.listed t → Contains t.recs other → other.key ≢ rec.key
  pub memory : (number : ℕ) (other : Record) → InMemory c.memory number other → other.key ≢ rec.key

abbrev pub with_record : Core → List Filled → Kept → ℕ → Core
with_record c left dependencies tablet = record c { next = c.next + 1; memory = left; next_tablet = max c.next_tablet (tablet + 1); dependencies = dependencies; count = c.count + 1 }

-- a core with one record more stands for its story with one row more
abbrev pub InsertStands : Type 0
InsertStands = (told : Bool) (c : Core) (s : Story) (numbered : Numbered) (tablet : ℕ) (rec : Record) (left : List Filled) (dependencies : Kept)
    → StandsFor told c s → RowMayFollow (history_of s) numbered tablet → IsRecordOf (schemas (history_of s)) rec numbered → AddsRecord c.memory left tablet rec
    → AreTablets left → DependenciesStandFor dependencies (tablets_of_rows (history_of s) ++ tablet ∷ [])
    → (told ≡ true → HasNewKey (history_of s) numbered.row)
    → (told ≡ true → HasNoKey c rec)
    → StandsFor told (with_record c left dependencies tablet) (grown s (entry (row_entry numbered tablet) ∷ []))

-- ---- the verdict by the records that are held

-- a record with the row's key, held at the low or above, is that of a row of the history with this key
abbrev pub FoundIsPresent : Type 0
FoundIsPresent = (h : History) (recs : ℕ → List Record) (anchor : Anchored) (tablets : List Listed) (memory : List Filled) (own : StoneShape) (numbered : Numbered) (rec other : Record) (source : Source)
    → IsTrue (is_versions (schemas h)) → IsMemory h memory → SixFacts true recs h anchor tablets memory → Contains anchor.may (Some own) → own.tablets ≡ tablets → own.schemas ≡ schemas h → own.low ≡ low h
    → IsRecordOf (schemas h) rec numbered → low h ≤ time_in h numbered → Holds recs tablets memory source other → other.key ≡ rec.key
    → HasKey h numbered.row other.seq

-- where none is held but below a number below which no row has the key, the key is new
abbrev pub NoneFoundIsNew : Type 0
NoneFoundIsNew = (h : History) (recs : ℕ → List Record) (anchor : Anchored) (tablets : List Listed) (memory : List Filled) (own : StoneShape) (numbered : Numbered) (rec : Record) (clear : ℕ)
    → IsLegal h → h.opening.kept ≡ h.opening.next → IsTrue (is_versions (schemas h)) → IsMemory h memory → SixFacts true recs h anchor tablets memory → Contains anchor.may (Some own) → own.tablets ≡ tablets → own.schemas ≡ schemas h → own.low ≡ low h → own.kept ≡ kept h
    → IsRecordOf (schemas h) rec numbered → low h ≤ time_in h numbered
    → ((source : Source) (other : Record) → Holds recs tablets memory source other → other.key ≡ rec.key → other.seq < clear)
    → ((x : Numbered) → Contains (rows h) x → x.seq < clear → key_in h x ≢ key_of h.opening.schemas.first numbered.row)
    → HasNewKey h numbered.row

-- ---- numbers

-- a core's count fits a word
abbrev pub CountFits : Type 0
CountFits = (told : Bool) (c : Core) (s : Story) → StandsFor told c s → c.count ≤ 3 * 2 ^ 62 + 2
