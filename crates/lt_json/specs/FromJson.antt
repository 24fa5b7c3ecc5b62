-- Schemas as JSON: what a JSON value says as a schema, and the first refusal that holds.
use Rattle.std.specs.Prelude.{◌≡◌, ℕ, ◌+◌, ◌-◌, ◌*◌, pos, Bool, not, ◌&&◌, ◌==◌, nat_le, nat_lt, nat_eq, List, [], ◌∷◌, ◌++◌, length, map, codes, Option, Some, None, is_some, is_none, unwrap_or, option_map, option_and_then, slice_get, if◌then◌else◌}
use Rattle.std.specs.Option.{option_map_or, option_or}
use Rattle.std.specs.List.{list_any}
use Rattle.std.specs.Str.{IsUtf8}
use Rattle.std.specs.Cmp.Lexicographic.{pointwise}
use Rattle.serde_json.specs.Data.{Data, null, boolean, number, string, array, object, Items, no_items, item, Members, no_members, member}
use Rattle.serde_json.specs.Find.{get, as_number, as_u64, as_i64, as_str, as_array}
use Rattle.serde_json.specs.Read.{read}
use Rattle.lt_schema.specs.declared.kind.Kind.{Kind}
use Rattle.lt_schema.specs.declared.kind.Kind.TheVariants.{Int32, Int64, Time, Text as TextKind, Blob as BlobKind}
use Rattle.lt_schema.specs.declared.value.Value.{Value}
use Rattle.lt_schema.specs.declared.value.Value.TheVariants.{Int, Text, Blob}
use Rattle.lt_json.specs.declared.json.SchemaError.{SchemaError}
use Rattle.lt_json.specs.declared.json.SchemaError.TheVariants.{NotJson, Shape, NoTime, TooMany, Twice, BadDefault, NoMemory}
use Rattle.lt_schema.specs.Names.{is_name, kind_named}
use Rattle.lt_schema.specs.Values.{is_of_kind, blank_of}
use Rattle.lt_hex.specs.Digits.{hex_of}
use Rattle.lt_schema.specs.Lawful.{is_short, is_time_column}
use Rattle.lt_schema.specs.Shapes.{ColumnShape, SchemaShape}

abbrev pub list_of : Items → List Data
list_of no_items = []
list_of (item d ds) = d ∷ list_of ds

abbrev pub count_of : Members → ℕ
count_of no_members = 0
count_of (member k d ms) = count_of ms + 1

-- how many members an object has, and 0 of all else
abbrev pub members_in : Data → ℕ
members_in null = 0
members_in (boolean b) = 0
members_in (number n) = 0
members_in (string s) = 0
members_in (array ds) = 0
members_in (object ms) = count_of ms

-- an object of exactly `columns` and `key`
unfoldable pub is_whole : Data → Bool
is_whole d = is_some (get (codes "columns") d) && is_some (get (codes "key") d) && (members_in d == 2)

-- the elements of `columns`; none where it is no list
unfoldable pub columns_in : Data → List Data
columns_in d = option_map_or list_of (option_and_then as_array (get (codes "columns") d)) []

abbrev pub is_key : ℕ → ℕ → Bool
is_key columns n = nat_le 1 n && nat_le n columns

-- `key`, where it is a whole number from 1 to the number of columns
unfoldable pub key_in : Data → Option ℕ
key_in d = option_and_then (λ n. if is_key (length (columns_in d)) n then Some n else None) (option_and_then as_u64 (option_and_then as_number (get (codes "key") d)))

-- a column's name; empty where it is no string
abbrev pub name_in : Data → List ℕ
name_in d = unwrap_or (option_and_then as_str (get (codes "name") d)) []

-- a column's kind, where it is one of the five
unfoldable pub kind_in : Data → Option Kind
kind_in d = option_and_then kind_named (option_and_then as_str (get (codes "kind") d))

abbrev pub default_in : Data → Option Data
default_in d = get (codes "default") d

abbrev pub members_of_column : Option Data → ℕ
members_of_column None = 2
members_of_column (Some default) = 3

-- an object of exactly a lawful `name`, a `kind` and perhaps a `default`
unfoldable pub is_column : Data → Bool
is_column d = is_name (name_in d) && is_some (kind_in d) && (members_in d == members_of_column (default_in d))

-- the least column that isn't such an object
unfoldable pub misshapen_from : ℕ → List Data → Option ℕ
misshapen_from at [] = None
misshapen_from at (d ∷ ds) = if is_column d then misshapen_from (at + 1) ds else Some at

-- what a JSON value is as a value of a kind
abbrev pub value_of : Kind → Data → Option Value
value_of Int32 d = option_map Int (option_and_then as_i64 (as_number d))
value_of Int64 d = option_map Int (option_and_then as_i64 (as_number d))
value_of Time d = option_map Int (option_and_then as_i64 (as_number d))
value_of TextKind d = option_map Text (as_str d)
value_of BlobKind d = option_map Blob (option_and_then hex_of (as_str d))

-- the value where it may be the default of a column of this kind
abbrev pub lawful_value : Kind → Value → Option Value
lawful_value kind value = if is_of_kind kind value && is_short value then Some value else None

-- a column's default, where it is of the kind and at most 1,024 bytes; one that is missing is 0 or empty
abbrev pub default_of : Kind → Option Data → Option Value
default_of kind None = Some (blank_of kind)
default_of kind (Some d) = option_and_then (lawful_value kind) (value_of kind d)

abbrev pub kind_of : Data → Kind
kind_of d = unwrap_or (kind_in d) Int64

unfoldable pub lawful_default : Data → Option Value
lawful_default d = default_of (kind_of d) (default_in d)

-- the least column whose default isn't lawful
unfoldable pub bad_default_from : ℕ → List Data → Option ℕ
bad_default_from at [] = None
bad_default_from at (d ∷ ds) = if is_some (lawful_default d) then bad_default_from (at + 1) ds else Some at

abbrev pub is_same : List ℕ → List ℕ → Bool
is_same name other = pointwise nat_eq name other

-- the least column that has the name of an earlier one
unfoldable pub twice_from : ℕ → List (List ℕ) → List (List ℕ) → Option ℕ
twice_from at earlier [] = None
twice_from at earlier (name ∷ names) = if list_any (is_same name) earlier then Some at else twice_from (at + 1) (earlier ++ name ∷ []) names

abbrev pub names_in : List Data → List (List ℕ)
names_in ds = map name_in ds

unfoldable pub column_in : Data → ColumnShape
column_in d = record { name = name_in d; kind = kind_of d; default = unwrap_or (lawful_default d) (Int (pos 0)) }

-- the schema that a JSON value says, where nothing speaks against it
abbrev pub schema_in : Data → SchemaShape
schema_in d = record { columns = map column_in (columns_in d); key_len = unwrap_or (key_in d) 1 }

unfoldable pub shape_refusal : Data → Option SchemaError
shape_refusal d =
    if not (is_whole d) then Some (Shape 0) else
    (if length (columns_in d) == 0 then Some (Shape 1) else
    (if is_none (key_in d) then Some (Shape 2) else
    option_map (λ column. Shape (3 + column)) (misshapen_from 0 (columns_in d))))

unfoldable pub time_refusal : Data → Option SchemaError
time_refusal d = if is_time_column (slice_get (schema_in d).columns ((schema_in d).key_len - 1)) then None else Some NoTime

unfoldable pub count_refusal : Data → Option SchemaError
count_refusal d = if nat_lt 64 (length (columns_in d)) then Some (TooMany (length (columns_in d))) else None

unfoldable pub name_refusal : Data → Option SchemaError
name_refusal d = option_map Twice (twice_from 0 [] (names_in (columns_in d)))

unfoldable pub default_refusal : Data → Option SchemaError
default_refusal d = option_map BadDefault (bad_default_from 0 (columns_in d))

-- what speaks against a JSON value as a schema: the first that holds, or none
abbrev pub refusal_in : Data → Option SchemaError
refusal_in d = option_or (shape_refusal d) (option_or (time_refusal d) (option_or (count_refusal d) (option_or (name_refusal d) (default_refusal d))))

-- the bytes are a JSON text of this value
pub record IsText (bytes : List ℕ) (d : Data) : Type 0 where
  pub utf8 : IsUtf8 bytes
  pub value : read bytes ≡ Some d

-- the bytes are a JSON text that says this schema
pub record SaysSchema (bytes : List ℕ) (schema : SchemaShape) : Type 0 where
  pub json : Data
  pub text : IsText bytes json
  pub unrefused : refusal_in json ≡ None
  pub schema_is : schema ≡ schema_in json

-- the bytes are a JSON text of a value that is refused for this
pub record IsRefused (bytes : List ℕ) (why : SchemaError) : Type 0 where
  pub json : Data
  pub text : IsText bytes json
  pub refusal : refusal_in json ≡ Some why

-- why the bytes say no schema, unless memory ran out
abbrev pub IsCause : List ℕ → SchemaError → Type 0
IsCause bytes NoMemory = Unit {0}
IsCause bytes NotJson = (d : Data) → IsText bytes d → ⊥
IsCause bytes (Shape field) = IsRefused bytes (Shape field)
IsCause bytes NoTime = IsRefused bytes NoTime
IsCause bytes (TooMany count) = IsRefused bytes (TooMany count)
IsCause bytes (Twice column) = IsRefused bytes (Twice column)
IsCause bytes (BadDefault column) = IsRefused bytes (BadDefault column)

-- a default was refused, the least that isn't lawful, or memory ran out
abbrev pub IsBadDefault : SchemaError → Option ℕ → Type 0
IsBadDefault NoMemory found = Unit {0}
IsBadDefault NotJson found = ⊥
IsBadDefault (Shape field) found = ⊥
IsBadDefault NoTime found = ⊥
IsBadDefault (TooMany count) found = ⊥
IsBadDefault (Twice column) found = ⊥
IsBadDefault (BadDefault column) found = found ≡ Some column
