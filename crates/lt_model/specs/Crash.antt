-- What a stop leaves of a history.
use Rattle.std.specs.Prelude.{ℕ, ◌≡◌, ◌&&◌, List, filter, nat_le, nat_lt, Option}
use Rattle.lt_schema.specs.Versions.{SchemaVersions}
use Rattle.lt_model.specs.History.{Numbered, Opening, History}
use Rattle.lt_model.specs.Readings.{rows, time_in}

-- what is durable of a table: its schemas, its time to live, the bound below which rows are gone, and the number below which
-- each row is kept
pub record Durable : Type 0 where
  pub schemas : SchemaVersions
  pub ttl : Option ℕ
  pub low : ℕ
  pub kept : ℕ

-- the history's rows that are numbered below that number and unexpired at that bound
abbrev pub durable_rows : History → Durable → List Numbered
durable_rows h durable = filter (λ numbered. nat_lt numbered.seq durable.kept && nat_le durable.low (time_in h numbered)) (rows h)

-- what is found after a stop is an opening with exactly these rows of the history
pub record IsCrash (h : History) (durable : Durable) (found : Opening) : Type 0 where
  pub schemas : found.schemas ≡ durable.schemas
  pub ttl : found.ttl ≡ durable.ttl
  pub low : found.low ≡ durable.low
  pub next : found.next ≡ durable.kept
  pub kept : found.kept ≡ durable.kept
  pub rows_left : found.rows ≡ durable_rows h durable
