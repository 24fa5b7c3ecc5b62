-- When a flush that was written may be committed: it was given out at a front of the history, and its files are what its
-- tablets had then.
use Rattle.std.specs.Prelude.{ℕ, ◌+◌, ◌^◌, ◌≡◌, ◌≤◌, ◌<◌, ◌⊎◌, ◌↔◌, Bool, true, List, [], length, map, Contains, IsTrue}
use Rattle.std.specs.List.{All, AllPairs}
use Rattle.lt_rec.specs.Bytes.{is_less}
use Rattle.lt_rec.specs.Closure.{has}
use Rattle.lt_rec.specs.Record.{Record}
use Rattle.lt_schema.specs.Versions.{is_versions}
use Rattle.lt_model.specs.History.{History, front}
use Rattle.lt_model.specs.Readings.{kept, schemas}
use Rattle.lt_trace.specs.Elements.{Placed, placed_in}
use Rattle.lt_trace.specs.Records.{IsRecordOf}
use Rattle.lt_state.specs.State.{Sealed, Filled}
use Rattle.lt_state.specs.Memory.{IsMemory, AreTablets}
use Rattle.lt_state.specs.Facts.{NoneIsSplit}
use Rattle.lt_state.specs.Flushes.{TakesAlong}
use Rattle.lt_state.specs.Laws.{Follows}

-- a tablet, and the file that was written of it
pub record Written : Type 0 where
  pub tablet : ℕ
  pub sealed : Sealed

abbrev pub tablets_of : List Written → List ℕ
tablets_of parts = map (λ (p : Written). p.tablet) parts

-- a row from the settled number on that went to the tablet
pub record IsTaken (h : History) (tablet : ℕ) (placed : Placed) : Type 0 where
  pub among : Contains (placed_in h.entries) placed
  pub unsettled : kept h ≤ placed.numbered.seq
  pub tablet_is : placed.tablet ≡ tablet

-- the tablet has such a row below the number
pub record HasRowBelow (h : History) (number tablet : ℕ) : Type 0 where
  pub placed : Placed
  pub taken : IsTaken h tablet placed
  pub below : placed.numbered.seq < number

-- the greatest row in these tablets is right below the number
pub record HasTop (h : History) (parts : List Written) (number : ℕ) : Type 0 where
  pub placed : Placed
  pub part : has (tablets_of parts) placed.tablet ≡ true
  pub taken : IsTaken h placed.tablet placed
  pub top : number ≡ placed.numbered.seq + 1

-- a record of the row is in the list
pub record HasRecord (h : History) (recs : List Record) (placed : Placed) : Type 0 where
  pub rec : Record
  pub among : Contains recs rec
  pub is : IsRecordOf (schemas h) rec placed.numbered

-- the record is that of a row that went to the tablet
pub record IsOfTaken (h : History) (tablet : ℕ) (rec : Record) : Type 0 where
  pub placed : Placed
  pub taken : IsTaken h tablet placed
  pub is : IsRecordOf (schemas h) rec placed.numbered

-- the file has the records of the rows that its tablet had taken, and no others
pub record HasRowsOf (h : History) (part : Written) : Type 0 where
  pub each : (rec : Record) → Contains part.sealed.recs rec → IsOfTaken h part.tablet rec
  pub all : (placed : Placed) → IsTaken h part.tablet placed → HasRecord h part.sealed.recs placed

-- The flush was given out when the history was this front. No tablet is in two of its parts, and its tablets are those in
-- memory then that have a row below its number. Its number is one above the greatest row in them, or the settled one where
-- there are none.
pub record WasGiven (told : Bool) (h : History) (parts : List Written) (number : ℕ) : Type 0 where
  pub once : (one other : Written) → Contains parts one → Contains parts other → one.tablet ≡ other.tablet → one ≡ other
  pub tablets : (tablet : ℕ) → (has (tablets_of parts) tablet ≡ true) ↔ HasRowBelow h number tablet
  pub number_is : ((parts ≡ []) × (number ≡ kept h)) ⊎ HasTop h parts number
  pub rows : told ≡ true → (part : Written) → Contains parts part → HasRowsOf h part

-- its tablets that are still in memory took no row since: each record in them is below its number
abbrev pub TookNoneSince : List Filled → List Written → ℕ → Type 0
TookNoneSince memory parts number = (tablet : Filled) (rec : Record) → Contains memory tablet → has (tablets_of parts) tablet.number ≡ true → Contains tablet.recs rec → rec.seq < number

-- Where they took none and one of them is still there, the flush takes along what must go.
abbrev pub GivenTakesAlong : Type 0
GivenTakesAlong = (told : Bool) (h : History) (memory : List Filled) (k : ℕ) (parts : List Written) (number : ℕ)
    → Follows h → IsMemory h memory → AreTablets memory → k ≤ length h.entries → WasGiven told (front k h) parts number → TookNoneSince memory parts number
    → (left : Filled) → Contains memory left → has (tablets_of parts) left.number ≡ true
    → TakesAlong h (tablets_of parts) number

-- keys rise from record to record, and all bytes are bytes
pub record AreInOrder (recs : List Record) : Type 0 where
  pub rising : AllPairs (λ (early late : Record). is_less early.key late.key ≡ true) recs
  pub bytes : (rec : Record) → Contains recs rec → All (λ b. b < 2 ^ 8) rec.key × All (λ b. b < 2 ^ 8) rec.body

-- And each of its files has the records that its tablet has, where that is still in memory.
abbrev pub GivenIsSame : Type 0
GivenIsSame = (h : History) (memory : List Filled) (k : ℕ) (parts : List Written) (number : ℕ)
    → Follows h → IsTrue (is_versions (schemas h)) → IsMemory h memory → NoneIsSplit h → k ≤ length h.entries → WasGiven true (front k h) parts number → TookNoneSince memory parts number
    → (part : Written) (tablet : Filled) → Contains parts part → Contains memory tablet → tablet.number ≡ part.tablet → AreTablets memory → AreInOrder part.sealed.recs → AreInOrder tablet.recs
    → part.sealed.recs ≡ tablet.recs
