-- Reading records from left to right. The first column that has no spelling is named by its offset.
use Rattle.std.specs.Prelude.{◌≡◌, ℕ, ◌+◌, ◌-◌, ◌^◌, ℤ, pos, negsuc, Bool, true, false, ◌==◌, nat_lt, nat_le, List, [], ◌∷◌, ◌++◌, length, take, drop, Option, Some, None, option_map, option_and_then, Result, Ok, Err, if◌then◌else◌}
use Rattle.std.specs.Int.{Width, w32, w64, cast_signed}
use Rattle.std.specs.Str.{is_utf8}
use Rattle.std.specs.Result.{result_ok}
use Rattle.lt_rec.specs.Record.{Record}
use Rattle.lt_rec.specs.Reading.{◌>>=◌, number_at, bytes_at, or_fault, ended}
use Rattle.lt_schema.specs.declared.kind.Kind.{Kind}
use Rattle.lt_schema.specs.declared.kind.Kind.TheVariants.{Int32, Int64, Time, Text as TextKind, Blob as BlobKind}
use Rattle.lt_schema.specs.declared.value.Value.{Value}
use Rattle.lt_schema.specs.declared.value.Value.TheVariants.{Int, Text, Blob}
use Rattle.lt_schema.specs.Shapes.{ColumnShape, SchemaShape}
use Rattle.lt_schema.specs.Values.{is_of_kind}
use Rattle.lt_schema.specs.Versions.{SchemaVersions, newest_version, schema_at, lift_to_newest}
use Rattle.lt_schema.specs.Packing.{value_of}
use Rattle.lt_schema.specs.Placing.{RowsSoFar}
use Rattle.lt_codec.specs.Spelling.{key_columns, body_columns}
use Rattle.lt_codec.specs.declared.reading.Part.{Part}
use Rattle.lt_codec.specs.declared.reading.Part.TheVariants.{Key, Body}
use Rattle.lt_codec.specs.declared.taking.Piece.{Piece}
use Rattle.lt_codec.specs.declared.taking.Piece.TheVariants.{InPlace, Copied}
use Rattle.lt_codec.specs.declared.taking.Taken.{Taken}
use Rattle.lt_codec.specs.declared.taking.Taken.TheVariants as taken
use Rattle.lt_codec.specs.declared.taking.Step.{Step}
use Rattle.lt_codec.specs.declared.taking.Step.TheVariants.{Put, Wait, End, Fault}
use Rattle.lt_codec.specs.declared.fault.CodecError.{CodecError}
use Rattle.lt_codec.specs.declared.fault.CodecError.TheVariants as errors

-- the number in the first bytes, and what stands behind it
abbrev pub number_of : Width → List ℕ → Option (ℕ × List ℕ)
number_of w bytes = result_ok (number_at w 0 bytes)

abbrev pub bytes_of : ℕ → List ℕ → Option (List ℕ × List ℕ)
bytes_of n bytes = result_ok (bytes_at n 0 bytes)

-- bytes behind their length
unfoldable pub counted_at : List ℕ → Option (List ℕ × List ℕ)
counted_at bytes = option_and_then (λ n. bytes_of n.0 n.1) (number_of w32 bytes)

abbrev pub behind : ℕ → List ℕ × List ℕ → List ℕ × List ℕ
behind b x = (b ∷ x.0, x.1)

-- the bytes up to 00 00, of which each 00 ff is a zero, and what stands behind; the flag says that a 00 went before
unfoldable pub unescaped : Bool → List ℕ → Option (List ℕ × List ℕ)
unescaped zero [] = None
unescaped false (b ∷ bs) = if b == 0 then unescaped true bs else option_map (behind b) (unescaped false bs)
unescaped true (b ∷ bs) = if b == 0 then Some ([], bs) else (if b == 255 then option_map (behind 0) (unescaped false bs) else None)

-- the number that has 2^63 added
abbrev pub turned_back : ℕ → ℤ
turned_back n = if nat_lt n (2 ^ 63) then negsuc (2 ^ 63 - 1 - n) else pos (n - 2 ^ 63)

abbrev pub number_as : (ℕ → ℤ) → ℕ × List ℕ → Value × List ℕ
number_as f x = (Int (f x.0), x.1)

abbrev pub text_as : List ℕ × List ℕ → Option (Value × List ℕ)
text_as x = if is_utf8 x.0 then Some (Text x.0, x.1) else None

abbrev pub bytes_as : List ℕ × List ℕ → Value × List ℕ
bytes_as x = (Blob x.0, x.1)

-- a value where it is of the kind
abbrev pub if_of_kind : Kind → Value × List ℕ → Option (Value × List ℕ)
if_of_kind kind x = if is_of_kind kind x.0 then Some x else None

abbrev pub any_in_key : Kind → List ℕ → Option (Value × List ℕ)
any_in_key Int32 bytes = option_map (number_as turned_back) (number_of w64 bytes)
any_in_key Int64 bytes = option_map (number_as turned_back) (number_of w64 bytes)
any_in_key Time bytes = option_map (number_as (cast_signed w64)) (number_of w64 bytes)
any_in_key TextKind bytes = option_and_then text_as (unescaped false bytes)
any_in_key BlobKind bytes = option_map bytes_as (unescaped false bytes)

-- the value of a kind that a key's bytes begin with, and what stands behind it; none where there is no spelling of one
unfoldable pub in_key_at : Kind → List ℕ → Option (Value × List ℕ)
in_key_at kind bytes = option_and_then (if_of_kind kind) (any_in_key kind bytes)

abbrev pub any_in_body : Kind → List ℕ → Option (Value × List ℕ)
any_in_body Int32 bytes = option_map (number_as (cast_signed w32)) (number_of w32 bytes)
any_in_body Int64 bytes = option_map (number_as (cast_signed w64)) (number_of w64 bytes)
any_in_body Time bytes = option_map (number_as (cast_signed w64)) (number_of w64 bytes)
any_in_body TextKind bytes = option_and_then text_as (counted_at bytes)
any_in_body BlobKind bytes = option_map bytes_as (counted_at bytes)

-- the same of a body's bytes
unfoldable pub in_body_at : Kind → List ℕ → Option (Value × List ℕ)
in_body_at kind bytes = option_and_then (if_of_kind kind) (any_in_body kind bytes)

-- The values under these columns and the bytes behind them, or the offset of the first column that has no spelling.
-- The bytes end at the given offset.
unfoldable pub values_at : (Kind → List ℕ → Option (Value × List ℕ)) → ℕ → List ColumnShape → List ℕ → Result (List Value × List ℕ) ℕ
values_at reads end [] bytes = Ok ([], bytes)
values_at reads end (column ∷ columns) bytes = do
  first ← or_fault (reads column.kind bytes) (end - length bytes)
  others ← values_at reads end columns first.1
  Ok (first.0 ∷ others.0, others.1)

-- all of the bytes as the values under these columns
abbrev pub all_at : (Kind → List ℕ → Option (Value × List ℕ)) → ℕ → List ColumnShape → List ℕ → Result (List Value) ℕ
all_at reads end columns bytes = values_at reads end columns bytes >>= ended end

-- values behind earlier ones
abbrev pub behind_values : List Value → Result (List Value) ℕ → Result (List Value) ℕ
behind_values before read = read >>= λ row. Ok (before ++ row)

-- the row of a key and a body that are joined
unfoldable pub row_at : SchemaShape → List ℕ → List ℕ → Result (List Value) ℕ
row_at schema key body = do
  first ← all_at in_key_at (length key) (key_columns schema) key
  behind_values first (all_at in_body_at (length key + length body) (body_columns schema) body)

-- the row of a record, by its version; where there is no such version offset 0 is named
unfoldable pub row_in : SchemaVersions → Record → Result (List Value) ℕ
row_in versions rec = if nat_le rec.ver (newest_version versions) then row_at (schema_at versions rec.ver) rec.key rec.body else Err 0

-- the row of a record under the newest version
abbrev pub newest_row_in : SchemaVersions → Record → Result (List Value) ℕ
newest_row_in versions rec = row_in versions rec >>= λ row. Ok (lift_to_newest versions row rec.ver)

-- what reading gives stands behind the rows that were whole, and no row is begun
abbrev pub IsPushed : RowsSoFar → Result (List Value) ℕ → RowsSoFar → Type 0
IsPushed before (Ok row) after = after ≡ record { rows = before.rows ++ row ∷ []; row = [] }
IsPushed before (Err at) after = ⊥

-- why reading fails, unless memory ran out
abbrev pub IsCause : CodecError → Result (List Value) ℕ → Type 0
IsCause (errors.Bad at) read = read ≡ Err at
IsCause errors.NoMemory read = Unit {0}

-- what a call answered, and left, is what reading gives, unless memory ran out
abbrev pub Leaves : {A : Type 0} → List Value → Result A CodecError → Result (List Value) ℕ → Type 0
Leaves left (Ok x) read = read ≡ Ok left
Leaves left (Err (errors.Bad at)) read = read ≡ Err at
Leaves left (Err errors.NoMemory) read = Unit {0}

abbrev pub Answers : Result (List Value) CodecError → Result (List Value) ℕ → Type 0
Answers (Ok row) read = read ≡ Ok row
Answers (Err (errors.Bad at)) read = read ≡ Err at
Answers (Err errors.NoMemory) read = Unit {0}

abbrev pub reads_of : Part → Kind → List ℕ → Option (Value × List ℕ)
reads_of Key = in_key_at
reads_of Body = in_body_at

-- the bytes of a piece
abbrev pub piece_bytes : Piece → List ℕ
piece_bytes (InPlace bytes) = bytes.now
piece_bytes (Copied bytes) = bytes

-- the value that was taken
abbrev pub taken_value : Taken → Value
taken_value (taken.InPlace view) = value_of view
taken_value (taken.Copied value) = value

-- what the next byte of an escaped text does: it is one of the text, it waits for the next, it ends the text, or it can't stand there
abbrev pub step : Bool → ℕ → Step
step false b = if b == 0 then Wait else Put b
step true b = if b == 0 then End else (if b == 255 then Put 0 else Fault)
