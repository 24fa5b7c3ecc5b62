-- The history of a table: what its opening found, and the entries since.
use Rattle.std.specs.Prelude.{ℕ, List, ◌++◌, take, Option}
use Rattle.lt_schema.specs.declared.value.Value.{Value}
use Rattle.lt_schema.specs.declared.change.Change.{Change}
use Rattle.lt_schema.specs.Versions.{SchemaVersions}

-- a row, its number, and the version of the schema that it was written under
pub record Numbered : Type 0 where
  pub seq : ℕ
  pub ver : ℕ
  pub row : List Value

-- what the opening of a table found: its schemas, its time to live in microseconds if it has one, the bound below which
-- rows are gone, the next number, the number below which all is durable, and its rows
pub record Opening : Type 0 where
  pub schemas : SchemaVersions
  pub ttl : Option ℕ
  pub low : ℕ
  pub next : ℕ
  pub kept : ℕ
  pub rows : List Numbered

-- a row that was added to a tablet in memory, a raised bound, a change of the schema, or that all below a number is durable
pub data Entry : Type 0 where
  row_entry : Numbered → ℕ → Entry
  bound_entry : ℕ → Entry
  schema_entry : Change → Entry
  kept_entry : ℕ → Entry

pub record History : Type 0 where
  pub opening : Opening
  pub entries : List Entry

-- the opening with the first k of the entries
abbrev pub front : ℕ → History → History
front k h = record { opening = h.opening; entries = take k h.entries }

-- the history with entries added at its end
abbrev pub extended : History → List Entry → History
extended h more = record { opening = h.opening; entries = h.entries ++ more }
