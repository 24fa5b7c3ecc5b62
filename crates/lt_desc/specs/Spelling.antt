-- The one spelling of each stone.
use Rattle.std.specs.Prelude.{ℕ, suc, List, [], ◌∷◌, ◌++◌, length, Option, Some, None, if◌then◌else◌}
use Rattle.std.specs.List.{flat_map}
use Rattle.std.specs.Int.{w32, w64, to_be_bytes, cast_unsigned}
use Rattle.lt_rec.specs.declared.listed.Listed.{Listed}
use Rattle.lt_schema.specs.declared.kind.Kind.{Kind}
use Rattle.lt_schema.specs.declared.kind.Kind.TheVariants.{Int32, Int64, Time, Text as TextKind, Blob as BlobKind}
use Rattle.lt_schema.specs.declared.value.Value.{Value}
use Rattle.lt_schema.specs.declared.value.Value.TheVariants.{Int, Text, Blob}
use Rattle.lt_schema.specs.declared.change.Change.{Change}
use Rattle.lt_schema.specs.declared.change.Change.TheVariants.{Append, Widen}
use Rattle.lt_schema.specs.Shapes.{ColumnShape, SchemaShape}
use Rattle.lt_schema.specs.Lawful.{has_name}
use Rattle.lt_schema.specs.Versions.{SchemaVersions, changed, is_int32_kind}
use Rattle.lt_desc.specs.Shape.{StoneShape}
use Rattle.lt_desc.specs.declared.head.Head.{Head}

-- "LTDESCR1"
abbrev pub mark : List ℕ
mark = 76 ∷ 84 ∷ 68 ∷ 69 ∷ 83 ∷ 67 ∷ 82 ∷ 49 ∷ []

-- ---- columns

-- bytes behind their length
abbrev pub counted : List ℕ → List ℕ
counted bytes = to_be_bytes w32 (length bytes) ++ bytes

abbrev pub kind_byte : Kind → ℕ
kind_byte Int32 = 0
kind_byte Int64 = 1
kind_byte Time = 2
kind_byte TextKind = 3
kind_byte BlobKind = 4

-- integers in two's complement, texts and bytes behind their length
unfoldable pub value_spelled : Kind → Value → List ℕ
value_spelled kind (Int z) = if is_int32_kind kind then to_be_bytes w32 (cast_unsigned w32 z) else to_be_bytes w64 (cast_unsigned w64 z)
value_spelled kind (Text text) = counted text
value_spelled kind (Blob bytes) = counted bytes

-- its name, its kind, its default
unfoldable pub column_spelled : ColumnShape → List ℕ
column_spelled column = counted column.name ++ (kind_byte column.kind ∷ value_spelled column.kind column.default)

-- ---- schemas

-- which of the columns has this name
abbrev pub place_of : List ℕ → List ColumnShape → ℕ
place_of name [] = 0
place_of name (column ∷ columns) = if has_name name column then 0 else suc (place_of name columns)

-- 0 and the column that is appended, or 1 and the number of the column that is widened
unfoldable pub change_spelled : SchemaShape → Change → List ℕ
change_spelled schema (Append column) = 0 ∷ column_spelled column
change_spelled schema (Widen name) = 1 ∷ to_be_bytes w32 (place_of name schema.columns)

-- each change by the schema before it
abbrev pub changes_spelled : SchemaShape → List Change → List ℕ
changes_spelled schema [] = []
changes_spelled schema (change ∷ changes) = change_spelled schema change ++ changes_spelled (changed schema change) changes

-- the key's length, how many columns there are, and each of them
unfoldable pub first_spelled : SchemaShape → List ℕ
first_spelled schema = to_be_bytes w32 schema.key_len ++ (to_be_bytes w32 (length schema.columns) ++ flat_map column_spelled schema.columns)

-- the first schema, how many changes there are, and each of them
unfoldable pub schemas_spelled : SchemaVersions → List ℕ
schemas_spelled v = first_spelled v.first ++ (to_be_bytes w32 (length v.changes) ++ changes_spelled v.first v.changes)

-- ---- tablets

abbrev pub numbers : List ℕ → List ℕ
numbers ns = flat_map (to_be_bytes w64) ns

abbrev pub entry_numbers : Listed → List ℕ
entry_numbers t = t.file ∷ t.rows ∷ t.bytes ∷ t.low ∷ t.high ∷ t.period.start ∷ t.period.len ∷ t.first ∷ t.last ∷ []

unfoldable pub tablet_spelled : Listed → List ℕ
tablet_spelled t = numbers (entry_numbers t)

-- ---- all of it

-- whether there is a time to live, and what it is
unfoldable pub ttl_spelled : Option ℕ → List ℕ
ttl_spelled None = 0 ∷ []
ttl_spelled (Some ttl) = 1 ∷ to_be_bytes w64 ttl

unfoldable pub head_spelled : Head → List ℕ
head_spelled h = mark ++ (to_be_bytes w64 h.kept ++ (to_be_bytes w64 h.low ++ (ttl_spelled h.ttl ++ to_be_bytes w64 h.next_file)))

-- how many tablets there are, and each of them
unfoldable pub listing_spelled : List Listed → List ℕ
listing_spelled tablets = to_be_bytes w32 (length tablets) ++ flat_map tablet_spelled tablets

abbrev pub head_of : StoneShape → Head
head_of s = record { kept = s.kept; low = s.low; ttl = s.ttl; next_file = s.next_file }

unfoldable pub spelling : StoneShape → List ℕ
spelling s = head_spelled (head_of s) ++ (schemas_spelled s.schemas ++ listing_spelled s.tablets)
