-- Columns, schemas and their versions as plain data, which histories hold.
use Rattle.std.specs.Prelude.{ℕ, List}
use Rattle.lt_schema.specs.declared.kind.Kind.{Kind}
use Rattle.lt_schema.specs.declared.value.Value.{Value}

-- a column: its name, its kind, and what rows written before it take
pub record ColumnShape : Type 0 where
  pub name : List ℕ
  pub kind : Kind
  pub default : Value

-- the columns, and how many of the first are the key
pub record SchemaShape : Type 0 where
  pub columns : List ColumnShape
  pub key_len : ℕ
