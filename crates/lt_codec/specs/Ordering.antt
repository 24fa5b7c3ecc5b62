-- How bytes of keys compare, for the laws.
use Rattle.std.specs.Prelude.{◌≡◌, ℕ, ◌^◌, ◌≤◌, ◌<◌, ℤ, pos, negsuc, Bool, true, false, List, length, nat_lt, IsTrue}
use Rattle.std.specs.List.{list_all}
use Rattle.std.specs.declared.cmp.Ordering.{Ordering}
use Rattle.std.specs.declared.cmp.Ordering.TheVariants.{Less, Equal, Greater}
use Rattle.lt_schema.specs.declared.value.Value.{Value}
use Rattle.lt_schema.specs.declared.value.Value.TheVariants.{Int, Text, Blob}
use Rattle.lt_schema.specs.Versions.{SchemaVersions, is_versions, schema_at}
use Rattle.std.specs.Str.{is_utf8}
use Rattle.std.specs.Prelude.{Some, None}
use Rattle.lt_schema.specs.Shapes.{SchemaShape}
use Rattle.lt_schema.specs.Check.{Passes, wrong_kind_from}
use Rattle.lt_codec.specs.Spelling.{key_bytes, body_bytes}
use Rattle.lt_codec.specs.declared.fault.BoundError.{BoundError}
use Rattle.lt_codec.specs.declared.fault.BoundError.TheVariants.{Count, WrongKind, NoMemory}

-- within 64 bits, signed
abbrev pub is_word : ℤ → Bool
is_word (pos n) = nat_lt n (2 ^ 63)
is_word (negsuc n) = nat_lt n (2 ^ 63)

-- an integer is within 64 bits, as each value of the program is
abbrev pub fits_word : Value → Bool
fits_word (Int z) = is_word z
fits_word (Text s) = true
fits_word (Blob s) = true

-- a row that passes a version
pub record IsRowOf (versions : SchemaVersions) (ver : ℕ) (row : List Value) : Type 0 where
  pub versions_lawful : IsTrue (is_versions versions)
  pub passes : Passes (schema_at versions ver) row
  pub words : IsTrue (list_all fits_word row)

-- whether a key lies below a cut of leading values, by how these compare with it
abbrev pub lies_below : Bool → Ordering → Bool
lies_below after Less = false
lies_below after Equal = after
lies_below after Greater = true

-- why leading values are no bound: there are more than key columns; else the least that isn't of its column's kind
abbrev pub IsCauseOfBound : SchemaShape → List Value → BoundError → Type 0
IsCauseOfBound schema values Count = schema.key_len < length values
IsCauseOfBound schema values (WrongKind column) = (length values ≤ schema.key_len) × (wrong_kind_from 0 schema.columns values ≡ Some column)
IsCauseOfBound schema values NoMemory = Unit {0}

-- a text is UTF-8, as each text of the program is
abbrev pub is_text : Value → Bool
is_text (Int z) = true
is_text (Text s) = is_utf8 s
is_text (Blob s) = true

-- the key and the body are those of this row: it has a value for each column, of its kind
pub record IsSpelling (schema : SchemaShape) (key body : List ℕ) (row : List Value) : Type 0 where
  pub arity : length row ≡ length schema.columns
  pub kinds : wrong_kind_from 0 schema.columns row ≡ None
  pub words : IsTrue (list_all fits_word row)
  pub texts : IsTrue (list_all is_text row)
  pub key_is : key ≡ key_bytes schema row
  pub body_is : body ≡ body_bytes schema row
