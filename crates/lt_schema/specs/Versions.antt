-- The versions of a schema, what a change does, and what a row becomes under later versions.
use Rattle.std.specs.Prelude.{ℕ, ◌-◌, Bool, true, false, ◌&&◌, List, [], ◌∷◌, ◌++◌, length, take, drop, map, find, nat_le, Option, Some, None, if◌then◌else◌}
use Rattle.std.specs.List.{list_any}
use Rattle.std.specs.Option.{is_none}
use Rattle.lt_schema.specs.declared.kind.Kind.{Kind}
use Rattle.lt_schema.specs.declared.kind.Kind.TheVariants.{Int32, Int64, Time, Text as TextKind, Blob as BlobKind}
use Rattle.lt_schema.specs.declared.value.Value.{Value}
use Rattle.lt_schema.specs.declared.change.Change.{Change}
use Rattle.lt_schema.specs.declared.change.Change.TheVariants.{Append, Widen}
use Rattle.lt_schema.specs.declared.change.AlterError.{AlterError}
use Rattle.lt_schema.specs.declared.change.AlterError.TheVariants.{Exists, TooMany, BadDefault, NoColumn, NotInt32}
use Rattle.lt_schema.specs.Shapes.{ColumnShape, SchemaShape}
use Rattle.lt_schema.specs.Names.{is_name}
use Rattle.lt_schema.specs.Lawful.{has_name, has_lawful_default, is_schema}

-- the first schema and the changes since; version v is the schema after v of them
pub record SchemaVersions : Type 0 where
  pub first : SchemaShape
  pub changes : List Change

abbrev pub widened : List ℕ → ColumnShape → ColumnShape
widened name column = if has_name name column then record column { kind = Int64 } else column

-- the schema after a change
abbrev pub changed : SchemaShape → Change → SchemaShape
changed schema (Append column) = record schema { columns = schema.columns ++ column ∷ [] }
changed schema (Widen name) = record schema { columns = map (widened name) schema.columns }

abbrev pub after_changes : SchemaShape → List Change → SchemaShape
after_changes schema [] = schema
after_changes schema (change ∷ changes) = after_changes (changed schema change) changes

abbrev pub schema_at : SchemaVersions → ℕ → SchemaShape
schema_at versions version = after_changes versions.first (take version versions.changes)

abbrev pub newest_version : SchemaVersions → ℕ
newest_version versions = length versions.changes

abbrev pub newest : SchemaVersions → SchemaShape
newest versions = after_changes versions.first versions.changes

-- a widened integer keeps its number, an appended column has its default
abbrev pub lifted_over : List Change → List Value → List Value
lifted_over [] row = row
lifted_over (Append column ∷ changes) row = lifted_over changes (row ++ column.default ∷ [])
lifted_over (Widen name ∷ changes) row = lifted_over changes row

-- the row of one version under a later one
abbrev pub lift : SchemaVersions → List Value → ℕ → ℕ → List Value
lift versions row from to = lifted_over (take (to - from) (drop from versions.changes)) row

-- the row of a version under the newest
abbrev pub lift_to_newest : SchemaVersions → List Value → ℕ → List Value
lift_to_newest versions row from = lifted_over (drop from versions.changes) row

abbrev pub is_int32_kind : Kind → Bool
is_int32_kind Int32 = true
is_int32_kind Int64 = false
is_int32_kind Time = false
is_int32_kind TextKind = false
is_int32_kind BlobKind = false

abbrev pub widening_refusal : Option ColumnShape → Option AlterError
widening_refusal None = Some NoColumn
widening_refusal (Some column) = if is_int32_kind column.kind then None else Some NotInt32

-- why a schema does not admit a change: the first that holds, or none
abbrev pub alter_refusal : SchemaShape → Change → Option AlterError
alter_refusal schema (Append column) =
    if list_any (has_name column.name) schema.columns then Some Exists else
    (if nat_le 64 (length schema.columns) then Some TooMany else
    (if has_lawful_default column then None else Some BadDefault))
alter_refusal schema (Widen name) = widening_refusal (find (has_name name) schema.columns)

abbrev pub has_lawful_name : Change → Bool
has_lawful_name (Append column) = is_name column.name
has_lawful_name (Widen name) = true

-- a column of a lawful name, or a widening, that the schema does not refuse
abbrev pub is_admitted : SchemaShape → Change → Bool
is_admitted schema change = is_none (alter_refusal schema change) && has_lawful_name change

-- each change is admitted by the version before it
abbrev pub are_admitted : SchemaShape → List Change → Bool
are_admitted schema [] = true
are_admitted schema (change ∷ changes) = is_admitted schema change && are_admitted (changed schema change) changes

abbrev pub is_versions : SchemaVersions → Bool
is_versions versions = is_schema versions.first && are_admitted versions.first versions.changes

-- the schemas after each of the changes
abbrev pub after_each : SchemaShape → List Change → List SchemaShape
after_each schema [] = []
after_each schema (change ∷ changes) = changed schema change ∷ after_each (changed schema change) changes

-- all versions, from the first on
abbrev pub all_versions : SchemaVersions → List SchemaShape
all_versions versions = versions.first ∷ after_each versions.first versions.changes

abbrev pub first_of : List SchemaShape → SchemaShape
first_of [] = record { columns = []; key_len = 0 }
first_of (schema ∷ schemas) = schema
