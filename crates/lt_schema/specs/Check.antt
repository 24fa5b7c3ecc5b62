-- When a row passes a schema, and its key and timestamp.
use Rattle.std.specs.Prelude.{ℕ, ◌+◌, ◌-◌, ◌^◌, min, ◌≡◌, List, [], ◌∷◌, length, take, drop, nat_lt, nat_eq, sum_by, Option, Some, None, slice_get, if◌then◌else◌}
use Rattle.std.specs.Option.{option_map_or}
use Rattle.lt_schema.specs.declared.row.RowFault.{RowFault}
use Rattle.lt_schema.specs.declared.row.RowFault.TheVariants.{Arity, WrongKind, KeyLong, BodyLong}
use Rattle.lt_schema.specs.declared.value.Value.{Value}
use Rattle.lt_schema.specs.Shapes.{ColumnShape, SchemaShape}
use Rattle.lt_schema.specs.Values.{is_of_kind, moment_of, key_len_of, body_len_of}

-- a row's key is its first values
abbrev pub key_of : SchemaShape → List Value → List Value
key_of schema row = take schema.key_len row

-- the key's last value is the row's timestamp
abbrev pub time_of : SchemaShape → List Value → ℕ
time_of schema row = option_map_or moment_of (slice_get row (schema.key_len - 1)) 0

-- the least column whose value isn't of its kind
abbrev pub wrong_kind_from : ℕ → List ColumnShape → List Value → Option ℕ
wrong_kind_from at [] row = None
wrong_kind_from at (column ∷ columns) [] = None
wrong_kind_from at (column ∷ columns) (value ∷ row) = if is_of_kind column.kind value then wrong_kind_from (at + 1) columns row else Some at

-- how many bytes the key takes
abbrev pub key_len_in_bytes : SchemaShape → List Value → ℕ
key_len_in_bytes schema row = sum_by key_len_of (key_of schema row)

-- how many bytes values take under these columns
abbrev pub len_under : List ColumnShape → List Value → ℕ
len_under [] row = 0
len_under (column ∷ columns) [] = 0
len_under (column ∷ columns) (value ∷ row) = body_len_of column.kind value + len_under columns row

-- how many bytes the values after the key take
abbrev pub body_len_in_bytes : SchemaShape → List Value → ℕ
body_len_in_bytes schema row = len_under (drop schema.key_len schema.columns) (drop schema.key_len row)

-- a number of bytes as it is told: it stands still at the end of 64 bits
abbrev pub counted : ℕ → ℕ
counted n = min n (2 ^ 64 - 1)

abbrev pub length_fault : SchemaShape → List Value → Option RowFault
length_fault schema row =
    if nat_lt 4096 (key_len_in_bytes schema row) then Some (KeyLong (counted (key_len_in_bytes schema row))) else
    (if nat_lt 60000 (body_len_in_bytes schema row) then Some (BodyLong (counted (body_len_in_bytes schema row))) else None)

abbrev pub kind_fault : Option ℕ → Option RowFault → Option RowFault
kind_fault None other = other
kind_fault (Some column) other = Some (WrongKind column)

-- why a row does not pass a schema: the first that holds, or none
abbrev pub row_fault : SchemaShape → List Value → Option RowFault
row_fault schema row =
    if nat_eq (length row) (length schema.columns)
    then kind_fault (wrong_kind_from 0 schema.columns row) (length_fault schema row)
    else Some (Arity (length schema.columns) (length row))

abbrev pub Passes : SchemaShape → List Value → Type 0
Passes schema row = row_fault schema row ≡ None
