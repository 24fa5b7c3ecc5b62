-- A stone as plain data.
use Rattle.std.specs.Prelude.{ℕ, List, Option}
use Rattle.lt_rec.specs.declared.listed.Listed.{Listed}
use Rattle.lt_schema.specs.Versions.{SchemaVersions}

-- The state of a table that a descriptor says: rows numbered below `kept` are in the tablets, those older than `low` are
-- gone, rows live for so long, files from `next_file` on are free; the schemas, and the tablets.
pub record StoneShape : Type 0 where
  pub kept : ℕ
  pub low : ℕ
  pub ttl : Option ℕ
  pub next_file : ℕ
  pub schemas : SchemaVersions
  pub tablets : List Listed
