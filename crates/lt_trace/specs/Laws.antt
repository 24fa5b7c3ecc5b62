-- Laws of stories, stones and images.
use Rattle.std.specs.Prelude.{ℕ, ◌≡◌, ◌≢◌, ◌≤◌, ◌⊎◌, ◌↔◌, true, false, IsTrue, Ok, Some, List, Contains, slice_get}
use Rattle.lt_io.specs.Directory.{Contents, State, Image, Directory, Fits, PossibleAt, states}
use Rattle.lt_rec.specs.Record.{Record}
use Rattle.lt_rec.specs.Closure.{has}
use Rattle.lt_rec.specs.declared.listed.Listed.{Listed}
use Rattle.lt_schema.specs.Shapes.{SchemaShape}
use Rattle.lt_schema.specs.Check.{key_of}
use Rattle.lt_schema.specs.Versions.{is_versions}
use Rattle.lt_desc.specs.Shape.{StoneShape}
use Rattle.lt_desc.specs.Lawful.{IsStone}
use Rattle.lt_desc.specs.Reading.{stone_at}
use Rattle.lt_desc.specs.Spelling.{spelling}
use Rattle.lt_model.specs.History.{Numbered, Opening, Entry, History, extended}
use Rattle.lt_model.specs.Readings.{rows, next, low, kept, schemas, time_in}
use Rattle.lt_model.specs.Verdict.{HasNewKey}
use Rattle.lt_model.specs.Step.{HoldsDurable}
use Rattle.lt_model.specs.Legal.{IsLegal, AreRising}
use Rattle.lt_trace.specs.Records.{IsRecordOf, HasFile, IsOn, InFile, Extends}
use Rattle.lt_trace.specs.Opens.{IsWhole, OpensTo, OpensAfter, HoldsRows, IsBacked}
use Rattle.lt_trace.specs.Past.{IsPossible, PastOpens}

-- ---- what an image opens to

-- rows of which two with one key are the same can be put in order, as an opening has them
abbrev pub RowsCanRise : Type 0
RowsCanRise = (schema : SchemaShape) (xs : List Numbered) → ((a b : Numbered) → Contains xs a → Contains xs b → key_of schema a.row ≡ key_of schema b.row → a ≡ b)
    → (ys : List Numbered) × AreRising schema ys × ((x : Numbered) → Contains ys x ↔ Contains xs x)

-- in one way
abbrev pub RisingIsOne : Type 0
RisingIsOne = (schema : SchemaShape) (xs ys : List Numbered) → AreRising schema xs → AreRising schema ys → ((x : Numbered) → Contains xs x ↔ Contains ys x) → xs ≡ ys

-- an image with the descriptor of a whole stone opens to something
abbrev pub SomeOpening : Type 0
SomeOpening = (image : Image) (recs : ℕ → List Record) (stone : StoneShape) → image.descriptor ≡ Some (spelling stone) → IsWhole recs image.files stone → (found : Opening) × OpensTo image stone found

-- and to nothing else
abbrev pub OneOpening : Type 0
OneOpening = (image : Image) (stone : StoneShape) (one other : Opening) → OpensTo image stone one → OpensTo image stone other → one ≡ other

-- an image that the state may leave, with the descriptor of a backed stone, opens to what a stop leaves of the history
abbrev pub BackedOpens : Type 0
BackedOpens = (h : History) (recs : ℕ → List Record) (state : State) (image : Image) (stone : StoneShape)
    → IsLegal h → IsBacked recs h state.files stone → Fits image state → image.descriptor ≡ Some (spelling stone) → OpensAfter h image

-- ---- the past

-- it stays true of the history with more entries
abbrev pub PastOutlives : Type 0
PastOutlives = (h : History) (more : List Entry) (begin : ℕ) (directory : Directory) → IsLegal (extended h more) → PastOpens h begin directory → PastOpens (extended h more) begin directory

-- an image, and that it opens by a stone whose number is no lower than this
pub record OpensFrom (h : History) (image : Image) (number : ℕ) : Type 0 where
  pub after : OpensAfter h image
  pub no_lower : number ≤ after.stone.kept

-- what each stone had reached that was possible at a moment, each image has reached that is possible at a later one
abbrev pub ReachedStays : Type 0
ReachedStays = (h : History) (begin at then number : ℕ) (directory : Directory) (state : State) (image : Image)
    → PastOpens h begin directory → begin ≤ at → at ≤ then → slice_get (states directory) at ≡ Some state
    → ((stone : StoneShape) → IsPossible state stone → number ≤ stone.kept)
    → PossibleAt directory then image → OpensFrom h image number

-- ---- stones that hold their rows

-- a stone holds its rows of the history with more entries too
abbrev pub RowsOutlive : Type 0
RowsOutlive = (recs : ℕ → List Record) (h : History) (more : List Entry) (stone : StoneShape) → IsLegal (extended h more) → stone.kept ≤ next h → HoldsRows recs h stone → HoldsRows recs (extended h more) stone

-- a stone with the same number that keeps each record from its low on and has no others, perhaps under more versions
abbrev pub SameRecordsHold : Type 0
SameRecordsHold = (h : History) (old_recs new_recs : ℕ → List Record) (own new : StoneShape)
    → HoldsRows old_recs h own → ((rec : Record) → IsOn old_recs own.tablets rec → (numbered : Numbered) × IsRecordOf own.schemas rec numbered)
    → new.kept ≡ own.kept → own.low ≤ new.low → Extends own.schemas new.schemas
    → ((rec : Record) → new.low ≤ rec.ts → IsOn old_recs own.tablets rec ↔ IsOn new_recs new.tablets rec)
    → HoldsRows new_recs h new

-- a stone that lists some of the tablets of a whole one, perhaps under more versions
abbrev pub FewerIsWhole : Type 0
FewerIsWhole = (recs : ℕ → List Record) (files : Contents) (own new : StoneShape) → IsWhole recs files own → IsStone new → stone_at (spelling new) ≡ Ok new → Extends own.schemas new.schemas
    → ((listed : Listed) → Contains new.tablets listed → Contains own.tablets listed)
    → IsWhole recs files new

-- the tablet was listed before, and has the records that it had
pub record StoodBefore (old_recs new_recs : ℕ → List Record) (olds : List Listed) (listed : Listed) : Type 0 where
  pub listed_before : Contains olds listed
  pub same : new_recs listed.file ≡ old_recs listed.file

-- the tablet's file is there, and each of its records was in one of the files that were merged
pub record IsMerged (old_recs new_recs : ℕ → List Record) (olds : List Listed) (inputs : List ℕ) (files : Contents) (listed : Listed) : Type 0 where
  pub from : (rec : Record) → Contains (new_recs listed.file) rec → (file : ℕ) × InFile old_recs olds file rec × (has inputs file ≡ true)
  pub file : HasFile files listed (new_recs listed.file)

-- a stone that lists one merged file in place of those that it was made of
abbrev pub MergeIsWhole : Type 0
MergeIsWhole = (old_recs new_recs : ℕ → List Record) (files : Contents) (own new : StoneShape) (inputs : List ℕ) (merged : ℕ)
    → IsWhole old_recs files own → IsStone new → stone_at (spelling new) ≡ Ok new → new.schemas ≡ own.schemas
    → ((listed : Listed) → Contains new.tablets listed → (StoodBefore old_recs new_recs own.tablets listed × (has inputs listed.file ≡ false)) ⊎ (IsMerged old_recs new_recs own.tablets inputs files listed × (listed.file ≡ merged)))
    → IsWhole new_recs files new

-- ---- keys, and what a list of tablets counts

-- a row whose key is new has a record whose key no record of a row of the history has
abbrev pub NewRowHasNewKey : Type 0
NewRowHasNewKey = (h : History) (numbered : Numbered) (rec other : Record) (row : Numbered)
    → IsTrue (is_versions (schemas h)) → HasNewKey h numbered.row → low h ≤ time_in h numbered → IsRecordOf (schemas h) rec numbered
    → IsRecordOf (schemas h) other row → (low h ≤ other.ts → Contains (rows h) row)
    → other.key ≢ rec.key

-- the tablets of the present stone count the rows on disk
abbrev pub ListingCounts : Type 0
ListingCounts = (h : History) (recs : ℕ → List Record) (files : Contents) (own : StoneShape)
    → IsLegal h → IsWhole recs files own → HoldsRows recs h own → own.kept ≡ kept h → own.low ≡ low h → HoldsDurable h own.tablets
