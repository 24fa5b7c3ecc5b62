-- How rows are spelled as bytes: the key so that its bytes order as the keys do, and the values behind it as the body.
use Rattle.std.specs.Prelude.{ℕ, ◌+◌, ◌-◌, ◌^◌, ℤ, pos, negsuc, ◌==◌, List, [], ◌∷◌, ◌++◌, length, take, drop, if◌then◌else◌}
use Rattle.std.specs.Int.{w32, w64, to_be_bytes, cast_unsigned}
use Rattle.lt_rec.specs.Record.{Record}
use Rattle.lt_schema.specs.declared.kind.Kind.{Kind}
use Rattle.lt_schema.specs.declared.value.Value.{Value}
use Rattle.lt_schema.specs.declared.value.Value.TheVariants.{Int, Text, Blob}
use Rattle.lt_schema.specs.Shapes.{ColumnShape, SchemaShape}
use Rattle.lt_schema.specs.Lawful.{is_time_kind}
use Rattle.lt_schema.specs.Versions.{is_int32_kind}
use Rattle.lt_schema.specs.Values.{moment_of}
use Rattle.lt_schema.specs.Check.{time_of}

-- a number and 2^63, so that the negative ones come first
abbrev pub turned : ℤ → ℕ
turned (pos n) = 2 ^ 63 + n
turned (negsuc n) = 2 ^ 63 - (n + 1)

-- a zero byte as 00 ff, each other byte as it is, and 00 00 at the end
unfoldable pub escaped : List ℕ → List ℕ
escaped [] = 0 ∷ 0 ∷ []
escaped (b ∷ bs) = if b == 0 then 0 ∷ 255 ∷ escaped bs else b ∷ escaped bs

abbrev pub key_number : Kind → ℤ → ℕ
key_number kind z = if is_time_kind kind then moment_of (Int z) else turned z

-- a value in a key; the width of an integer column plays no part
unfoldable pub in_key : Kind → Value → List ℕ
in_key kind (Int z) = to_be_bytes w64 (key_number kind z)
in_key kind (Text s) = escaped s
in_key kind (Blob s) = escaped s

-- a value in a body: integers in two's complement, texts and bytes behind their length
unfoldable pub in_body : Kind → Value → List ℕ
in_body kind (Int z) = if is_int32_kind kind then to_be_bytes w32 (cast_unsigned w32 z) else to_be_bytes w64 (cast_unsigned w64 z)
in_body kind (Text s) = to_be_bytes w32 (length s) ++ s
in_body kind (Blob s) = to_be_bytes w32 (length s) ++ s

-- values one after the other, each as its column's kind has it; as many as there are of both
abbrev pub spelled_by : (Kind → Value → List ℕ) → List ColumnShape → List Value → List ℕ
spelled_by spelled [] values = []
spelled_by spelled (column ∷ columns) [] = []
spelled_by spelled (column ∷ columns) (value ∷ values) = spelled column.kind value ++ spelled_by spelled columns values

abbrev pub key_columns : SchemaShape → List ColumnShape
key_columns schema = take schema.key_len schema.columns

abbrev pub body_columns : SchemaShape → List ColumnShape
body_columns schema = drop schema.key_len schema.columns

-- the bytes of a row's key, or of leading values of one
abbrev pub key_bytes : SchemaShape → List Value → List ℕ
key_bytes schema row = spelled_by in_key (key_columns schema) row

abbrev pub body_bytes : SchemaShape → List Value → List ℕ
body_bytes schema row = spelled_by in_body (body_columns schema) (drop schema.key_len row)

-- the record of a row
abbrev pub record_of : SchemaShape → ℕ → ℕ → List Value → Record
record_of schema ver seq row = record { key = key_bytes schema row; ts = time_of schema row; seq = seq; ver = ver; body = body_bytes schema row }
