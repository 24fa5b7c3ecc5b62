-- What a schema has to keep.
use Rattle.std.specs.Prelude.{ℕ, Bool, true, false, ◌&&◌, ◌-◌, not, List, [], ◌∷◌, length, nat_le, nat_eq, Option, Some, None, slice_get}
use Rattle.std.specs.List.{list_all, list_any}
use Rattle.std.specs.Cmp.Lexicographic.{pointwise}
use Rattle.lt_schema.specs.declared.kind.Kind.{Kind}
use Rattle.lt_schema.specs.declared.kind.Kind.TheVariants.{Int32, Int64, Time, Text as TextKind, Blob as BlobKind}
use Rattle.lt_schema.specs.declared.value.Value.{Value}
use Rattle.lt_schema.specs.declared.value.Value.TheVariants.{Int, Text, Blob}
use Rattle.lt_schema.specs.Names.{is_name}
use Rattle.lt_schema.specs.Shapes.{ColumnShape, SchemaShape}
use Rattle.lt_schema.specs.Values.{is_of_kind}

-- the column has this name
abbrev pub has_name : List ℕ → ColumnShape → Bool
has_name name column = pointwise nat_eq column.name name

abbrev pub names_differ : List ColumnShape → Bool
names_differ [] = true
names_differ (column ∷ columns) = not (list_any (has_name column.name) columns) && names_differ columns

-- at most 1,024 bytes of a text or of bytes
abbrev pub is_short : Value → Bool
is_short (Int x) = true
is_short (Text x) = nat_le (length x) 1024
is_short (Blob x) = nat_le (length x) 1024

abbrev pub has_lawful_default : ColumnShape → Bool
has_lawful_default column = is_of_kind column.kind column.default && is_short column.default

abbrev pub is_time_kind : Kind → Bool
is_time_kind Int32 = false
is_time_kind Int64 = false
is_time_kind Time = true
is_time_kind TextKind = false
is_time_kind BlobKind = false

abbrev pub is_time_column : Option ColumnShape → Bool
is_time_column None = false
is_time_column (Some column) = is_time_kind column.kind

-- 1 to 64 columns of lawful, different names and lawful defaults; the key is some of the first, and ends in a time
abbrev pub is_schema : SchemaShape → Bool
is_schema schema =
    nat_le (length schema.columns) 64 && nat_le 1 schema.key_len && nat_le schema.key_len (length schema.columns)
    && is_time_column (slice_get schema.columns (schema.key_len - 1))
    && list_all (λ column. is_name column.name) schema.columns && names_differ schema.columns
    && list_all has_lawful_default schema.columns
