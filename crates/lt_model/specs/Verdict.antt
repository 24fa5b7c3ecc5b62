-- Whether a row may be added, and if not, why: the first cause that holds.
use Rattle.std.specs.Prelude.{ℕ, ◌^◌, ◌≡◌, ◌≢◌, ◌≤◌, ◌<◌, List, Contains, Some}
use Rattle.lt_schema.specs.declared.value.Value.{Value}
use Rattle.lt_schema.specs.declared.row.RowFault.{RowFault}
use Rattle.lt_schema.specs.Versions.{newest}
use Rattle.lt_schema.specs.Check.{Passes, row_fault, key_of, time_of}
use Rattle.lt_model.specs.History.{Numbered, History}
use Rattle.lt_model.specs.Readings.{rows, next, schemas, since, key_in}

pub data Verdict : Type 0 where
  bad_row : RowFault → Verdict
  too_old : ℕ → Verdict
  present : ℕ → Verdict
  spent : Verdict
  accepted : Verdict

-- a row of the history with this number has the row's key
pub record HasKey (h : History) (row : List Value) (seq : ℕ) : Type 0 where
  pub found : Numbered
  pub among : Contains (rows h) found
  pub same_key : key_in h found ≡ key_of h.opening.schemas.first row
  pub number : found.seq ≡ seq

-- no row of the history has the row's key
abbrev pub HasNewKey : History → List Value → Type 0
HasNewKey h row = (other : Numbered) → Contains (rows h) other → key_in h other ≢ key_of h.opening.schemas.first row

-- the row passes the newest schema and is not below the bound
pub record IsTimely (h : History) (row : List Value) (now : ℕ) : Type 0 where
  pub passes : Passes (newest (schemas h)) row
  pub unexpired : since h now ≤ time_of h.opening.schemas.first row

-- each verdict names what has to fail before it
abbrev pub IsVerdict : History → List Value → ℕ → Verdict → Type 0
IsVerdict h row now (bad_row fault) = row_fault (newest (schemas h)) row ≡ Some fault
IsVerdict h row now (too_old bound) = Passes (newest (schemas h)) row × (bound ≡ since h now) × (time_of h.opening.schemas.first row < bound)
IsVerdict h row now (present seq) = IsTimely h row now × HasKey h row seq
IsVerdict h row now spent = IsTimely h row now × HasNewKey h row × (2 ^ 62 ≤ next h)
IsVerdict h row now accepted = IsTimely h row now × HasNewKey h row × (next h < 2 ^ 62)
