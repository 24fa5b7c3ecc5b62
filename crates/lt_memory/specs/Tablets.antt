-- The tablets in memory of one table, as one value.
use Rattle.std.specs.Prelude.{ℕ, ◌≡◌, ◌≢◌, ◌≤◌, ◌<◌, true, List, Contains, length, slice_index_or, ⊤}
use Rattle.lt_rec.specs.Record.{Record, IsRecord}
use Rattle.lt_mem.specs.Rising.{HasNumber, NoneHas, all_stored}
use Rattle.lt_mem.specs.declared.add_error.AddError.{AddError}
use Rattle.lt_mem.specs.declared.add_error.AddError.TheVariants.{Present, NoMemory}
use Rattle.lt_deps.specs.Kept.{Kept}
use Rattle.lt_state.specs.State.{Filled, InMemory}
use Rattle.lt_state.specs.Memory.{AreTablets}

-- the tablets in the order in which they were made, the number of the next one, and what is kept of which of them must go out
-- together
pub record Tablets : Type 0 where
  pub tablets : List Filled
  pub next : ℕ
  pub dependencies : Kept

-- the most bytes that the records of one tablet take where they are stored
abbrev pub most_bytes : ℕ
most_bytes = 16777216

-- They are tablets whose numbers were handed out, of lawful records. None has too many bytes, and one that is full is frozen.
pub record AreHeld (tablets : List Filled) (next : ℕ) : Type 0 where
  pub are : AreTablets tablets
  pub below : (tablet : Filled) → Contains tablets tablet → tablet.number < next
  pub lawful : (tablet : Filled) (rec : Record) → Contains tablets tablet → Contains tablet.recs rec → IsRecord rec
  pub small : (tablet : Filled) → Contains tablets tablet → all_stored tablet.recs ≤ most_bytes
  pub sealed : (tablet : Filled) → Contains tablets tablet → tablet.full ≡ true → tablet.frozen ≡ true

-- ---- by key

-- no record in these tablets has the key
abbrev pub NoneHasKey : List Filled → List ℕ → Type 0
NoneHasKey tablets key = (number : ℕ) (other : Record) → InMemory tablets number other → other.key ≢ key

-- no record in the tablets but the one at the place has the key
abbrev pub NoneBeside : List Filled → ℕ → List ℕ → Type 0
NoneBeside tablets place key = (k : ℕ) (d : Filled) → k < length tablets → k ≢ place → NoneHas (slice_index_or tablets k d).recs key

-- one of these tablets has the record, and this is its key
pub record IsKeyHeld (tablets : List Filled) (key : List ℕ) (rec : Record) : Type 0 where
  pub number : ℕ
  pub held : InMemory tablets number rec
  pub key_is : rec.key ≡ key

-- a record of this number in these tablets has the key
pub record IsTaken (tablets : List Filled) (key : List ℕ) (seq : ℕ) : Type 0 where
  pub rec : Record
  pub held : IsKeyHeld tablets key rec
  pub seq_is : rec.seq ≡ seq

-- what a refusal says of the records of one tablet and the key that was added
abbrev pub SaysOfRecords : List Record → List ℕ → AddError → Type 0
SaysOfRecords recs key (Present seq) = HasNumber recs key seq
SaysOfRecords recs key NoMemory = ⊤

-- what it says of all tablets
abbrev pub SaysOfKey : List Filled → List ℕ → AddError → Type 0
SaysOfKey tablets key (Present seq) = IsTaken tablets key seq
SaysOfKey tablets key NoMemory = ⊤

-- records of this key in these tablets have this timestamp
abbrev pub HaveTime : List Filled → List ℕ → ℕ → Type 0
HaveTime tablets key ts = (number : ℕ) (other : Record) → InMemory tablets number other → other.key ≡ key → other.ts ≡ ts
