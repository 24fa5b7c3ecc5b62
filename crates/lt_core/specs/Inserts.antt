-- What a look-up of a row's key tells, and what adding the row makes of a core.
use Rattle.std.specs.Prelude.{ℕ, ◌-◌, ◌^◌, ◌≡◌, ◌≢◌, ◌<◌, ⊤, min, Bool, List, [], ◌∷◌, Some, Contains, ◌&&◌, nat_le}
use Rattle.lt_rec.specs.Record.{Record}
use Rattle.lt_schema.specs.declared.value.Value.{Value}
use Rattle.lt_schema.specs.Check.{Passes, row_fault, key_of, time_of}
use Rattle.lt_schema.specs.Versions.{newest, newest_version}
use Rattle.lt_codec.specs.Spelling.{record_of}
use Rattle.lt_model.specs.History.{Numbered, row_entry, History}
use Rattle.lt_model.specs.Readings.{rows, key_in, bound_at}
use Rattle.lt_trace.specs.Elements.{Story, entry, grown}
use Rattle.lt_tablet.specs.Loaded.{Loaded}
use Rattle.lt_probe.specs.Keys.{may_have_key}
use Rattle.lt_state.specs.State.{Core, Sealed, InMemory}
use Rattle.lt_state.specs.Stands.{StandsFor}
use Rattle.lt_core.specs.declared.errors.InsertError.{InsertError}
use Rattle.lt_core.specs.declared.errors.InsertError.TheVariants.{BadRow, TooOld, Present, Spent, Damaged, Fault, NoMemory}

-- no row of the history that is numbered below this has the row's key
abbrev pub IsClear : History → List Value → ℕ → Type 0
IsClear h row clear = (x : Numbered) → Contains (rows h) x → x.seq < clear → key_in h x ≢ key_of h.opening.schemas.first row

-- the row under a number and the newest version, and its record
abbrev pub numbered_row : Core → ℕ → List Value → Numbered
numbered_row c seq row = record { seq = seq; ver = newest_version c.schemas; row = row }

abbrev pub row_record : Core → ℕ → List Value → Record
row_record c seq row = record_of (newest c.schemas) (newest_version c.schemas) seq row

-- the next number or, where none is left, the last one
abbrev pub number_for : Core → ℕ
number_for c = min c.next (2 ^ 62 - 1)

-- the row passes, and its timestamp is below the bound
pub record IsTooOld (c : Core) (row : List Value) (now bound : ℕ) : Type 0 where
  pub passes : Passes (newest c.schemas) row
  pub bound_is : bound ≡ bound_at c.ttl c.low now
  pub older : time_of c.schemas.first row < bound

-- why a row is refused by itself
abbrev pub IsRowRefusal : Core → List Value → ℕ → InsertError → Type 0
IsRowRefusal c row now (BadRow fault) = row_fault (newest c.schemas) row ≡ Some fault
IsRowRefusal c row now (TooOld bound) = IsTooOld c row now bound
IsRowRefusal c row now NoMemory = ⊤
IsRowRefusal c row now (Present seq) = ⊥
IsRowRefusal c row now Spent = ⊥
IsRowRefusal c row now (Damaged file at) = ⊥
IsRowRefusal c row now Fault = ⊥

-- where the core has a record
pub data Place : Type 0 where
  in_listed : Sealed → Place
  in_tablet : ℕ → Place

abbrev pub HasAt : Core → Place → Record → Type 0
HasAt c (in_listed t) rec = Contains c.listed t × Contains t.recs rec
HasAt c (in_tablet number) rec = InMemory c.memory number rec

-- the core has a record with this key, of this number
pub record HasRecord (c : Core) (key : List ℕ) (seq : ℕ) : Type 0 where
  pub place : Place
  pub rec : Record
  pub held : HasAt c place rec
  pub key_is : rec.key ≡ key
  pub number : rec.seq ≡ seq

-- each record with this key that the core has is numbered below this
abbrev pub NoneFrom : Core → List ℕ → ℕ → Type 0
NoneFrom c key clear = (place : Place) (rec : Record) → HasAt c place rec → rec.key ≡ key → rec.seq < clear

-- the row joined one tablet in memory: for each story that the core stood for, it stands for that story with the row
pub record TookRow (told : Bool) (old new : Core) (row : List Value) : Type 0 where
  pub tablet : ℕ
  pub stands : (s : Story) → StandsFor told old s → StandsFor told new (grown s (entry (row_entry (numbered_row old old.next row) tablet) ∷ []))

-- ---- in files

-- a listed tablet is read where its last number is no lower, and its span, filter and index all admit the key
abbrev pub is_probed : List ℕ → ℕ → Loaded → Bool
is_probed key clear t = nat_le clear t.listed.last && may_have_key key t

-- one of these tablets has a record with the key, of this number
pub record IsListedIn (tablets : List Sealed) (key : List ℕ) (seq : ℕ) : Type 0 where
  pub tablet : Sealed
  pub listed : Contains tablets tablet
  pub rec : Record
  pub among : Contains tablet.recs rec
  pub key_is : rec.key ≡ key
  pub number : rec.seq ≡ seq

-- each record of these tablets that has the key is numbered below this
abbrev pub NoneListedFrom : List Sealed → List ℕ → ℕ → Type 0
NoneListedFrom tablets key clear = (t : Sealed) (rec : Record) → Contains tablets t → Contains t.recs rec → rec.key ≡ key → rec.seq < clear
