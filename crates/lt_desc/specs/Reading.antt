-- Reading a descriptor from left to right. What breaks a rule first is named by its offset.
use Rattle.std.specs.Prelude.{◌≡◌, ℕ, zero, suc, ◌+◌, ◌-◌, ◌%◌, ◌^◌, Bool, true, not, ◌&&◌, ◌||◌, ◌==◌, nat_lt, nat_le, nat_eq, List, [], ◌∷◌, ◌++◌, length, take, drop, slice_get, Option, Some, None, Result, Ok, Err, if◌then◌else◌}
use Rattle.std.specs.List.{list_any}
use Rattle.std.specs.Option.{option_map_or}
use Rattle.std.specs.Int.{Width, w32, w64, byte_len, from_be_bytes, cast_signed}
use Rattle.std.specs.Str.{is_utf8}
use Rattle.std.specs.Cmp.Lexicographic.{pointwise}
use Rattle.lt_rec.specs.Periods.{is_period_len}
use Rattle.lt_rec.specs.Reading.{◌>>=◌, place, byte_at, number_at, bytes_at, holds, asked, or_fault, is_within}
use Rattle.lt_rec.specs.declared.listed.Listed.{Listed}
use Rattle.lt_schema.specs.declared.kind.Kind.{Kind}
use Rattle.lt_schema.specs.declared.kind.Kind.TheVariants.{Int32, Int64, Time, Text as TextKind, Blob as BlobKind}
use Rattle.lt_schema.specs.declared.value.Value.{Value}
use Rattle.lt_schema.specs.declared.value.Value.TheVariants.{Int, Text, Blob}
use Rattle.lt_schema.specs.declared.change.Change.{Change}
use Rattle.lt_schema.specs.declared.change.Change.TheVariants.{Append, Widen}
use Rattle.lt_schema.specs.Shapes.{ColumnShape, SchemaShape}
use Rattle.lt_schema.specs.Names.{is_name}
use Rattle.lt_schema.specs.Values.{is_of_kind}
use Rattle.lt_schema.specs.Lawful.{has_name, is_short, is_time_kind}
use Rattle.lt_schema.specs.Versions.{SchemaVersions, newest, is_int32_kind}
use Rattle.lt_desc.specs.Shape.{StoneShape}
use Rattle.lt_desc.specs.Lawful.{lists_file, comes_before}
use Rattle.lt_desc.specs.Spelling.{mark}
use Rattle.lt_desc.specs.declared.head.Head.{Head}
use Rattle.lt_desc.specs.declared.listing.Sizes.{Sizes}
use Rattle.lt_desc.specs.declared.listing.Times.{Times}

-- ---- fields

-- A field of what is left of so many bytes. Where the bytes end in it, it is named.
abbrev pub byte_from : ℕ → List ℕ → Result (ℕ × List ℕ) ℕ
byte_from total bytes = byte_at (place total bytes) bytes

abbrev pub number_from : Width → ℕ → List ℕ → Result (ℕ × List ℕ) ℕ
number_from w total bytes = number_at w (place total bytes) bytes

-- a length and the bytes behind it are one field
unfoldable pub counted_at : ℕ → List ℕ → Result (List ℕ × List ℕ) ℕ
counted_at total bytes = number_from w32 total bytes >>= λ n. bytes_at n.0 (place total bytes) n.1

-- a number that passes its test
abbrev pub number_where : Width → (ℕ → Bool) → ℕ → List ℕ → Result (ℕ × List ℕ) ℕ
number_where w test total bytes = asked test (place total bytes) (number_from w total bytes)

-- so many steps, each from what the one before left
unfoldable pub repeated : {S : Type 0} → (S → List ℕ → Result (S × List ℕ) ℕ) → ℕ → S → List ℕ → Result (S × List ℕ) ℕ
repeated step zero s bytes = Ok (s, bytes)
repeated step (suc n) s bytes = step s bytes >>= λ x. repeated step n x.0 x.1

-- what is read, behind what was read before
abbrev pub behind : {A : Type 0} → List A → A × List ℕ → Result (List A × List ℕ) ℕ
behind before x = Ok (before ++ x.0 ∷ [], x.1)

-- ---- the first fields

unfoldable pub mark_at : ℕ → List ℕ → Result (List ℕ × List ℕ) ℕ
mark_at total bytes = asked (pointwise nat_eq mark) (place total bytes) (bytes_at 8 (place total bytes) bytes)

abbrev pub some_at : ℕ × List ℕ → Result (Option ℕ × List ℕ) ℕ
some_at x = Ok (Some x.0, x.1)

-- the flag, and the time to live exactly where it is 1
unfoldable pub ttl_at : ℕ → List ℕ → Result (Option ℕ × List ℕ) ℕ
ttl_at total bytes = do
  flag ← asked (is_within 0 1) (place total bytes) (byte_from total bytes)
  if flag.0 == 0 then Ok (None, flag.1) else (number_where w64 (is_within 1 (2 ^ 62 - 1)) total flag.1 >>= some_at)

unfoldable pub head_at : ℕ → List ℕ → Result (Head × List ℕ) ℕ
head_at total bytes = do
  marked ← mark_at total bytes
  kept ← number_where w64 (is_within 0 (2 ^ 62)) total marked.1
  low ← number_where w64 (is_within 0 (2 ^ 62 - 1)) total kept.1
  ttl ← ttl_at total low.1
  next_file ← number_where w64 (is_within 0 (2 ^ 62)) total ttl.1
  Ok (record { kept = kept.0; low = low.0; ttl = ttl.0; next_file = next_file.0 }, next_file.1)

-- ---- columns

abbrev pub kind_of : ℕ → Option Kind
kind_of b =
    if b == 0 then Some Int32 else (if b == 1 then Some Int64 else (if b == 2 then Some Time else (if b == 3 then Some TextKind else (if b == 4 then Some BlobKind else None))))

unfoldable pub kind_at : ℕ → List ℕ → Result (Kind × List ℕ) ℕ
kind_at total bytes = do
  b ← byte_from total bytes
  kind ← or_fault (kind_of b.0) (place total bytes)
  Ok (kind, b.1)

abbrev pub int_as : Width → ℕ × List ℕ → Result (Value × List ℕ) ℕ
int_as w x = Ok (Int (cast_signed w x.0), x.1)

abbrev pub text_as : List ℕ × List ℕ → Result (Value × List ℕ) ℕ
text_as x = Ok (Text x.0, x.1)

abbrev pub blob_as : List ℕ × List ℕ → Result (Value × List ℕ) ℕ
blob_as x = Ok (Blob x.0, x.1)

-- a value of a kind's form; a text is UTF-8
unfoldable pub value_at : Kind → ℕ → List ℕ → Result (Value × List ℕ) ℕ
value_at Int32 total bytes = number_from w32 total bytes >>= int_as w32
value_at Int64 total bytes = number_from w64 total bytes >>= int_as w64
value_at Time total bytes = number_from w64 total bytes >>= int_as w64
value_at TextKind total bytes = asked is_utf8 (place total bytes) (counted_at total bytes) >>= text_as
value_at BlobKind total bytes = counted_at total bytes >>= blob_as

-- a lawful name that none of the columns has
abbrev pub is_new_name : List ColumnShape → List ℕ → Bool
is_new_name columns name = is_name name && not (list_any (has_name name) columns)

-- the last column of the key is a time
abbrev pub may_be : ℕ → List ColumnShape → Kind → Bool
may_be key_len before kind = not (length before + 1 == key_len) || is_time_kind kind

abbrev pub is_default : Kind → Value → Bool
is_default kind value = is_of_kind kind value && is_short value

-- the place of the change that the field is in, or its own
abbrev pub blamed : Option ℕ → ℕ → ℕ
blamed None at = at
blamed (Some tag) at = tag

-- A column behind others. In a change a name that is not lawful or not new, and a default that is not lawful, are a matter
-- of its tag.
unfoldable pub column_at : (tag : Option ℕ) (key_len : ℕ) (before : List ColumnShape) (total : ℕ) (bytes : List ℕ) → Result (ColumnShape × List ℕ) ℕ
column_at tag key_len before total bytes = do
  name ← asked (is_new_name before) (blamed tag (place total bytes)) (counted_at total bytes)
  kind ← asked (may_be key_len before) (place total name.1) (kind_at total name.1)
  default ← asked (is_default kind.0) (blamed tag (place total kind.1)) (value_at kind.0 total kind.1)
  Ok (record { name = name.0; kind = kind.0; default = default.0 }, default.1)

-- a column of the first schema behind the others
abbrev pub next_column : (key_len total : ℕ) → List ColumnShape → List ℕ → Result (List ColumnShape × List ℕ) ℕ
next_column key_len total before bytes = column_at None key_len before total bytes >>= behind before

-- ---- changes

-- There is room for a column. This is known at the tag.
unfoldable pub append_at : (tag : ℕ) → SchemaShape → (total : ℕ) (bytes : List ℕ) → Result (Change × List ℕ) ℕ
append_at tag schema total bytes = do
  room ← holds (nat_lt (length schema.columns) 64) tag
  column ← column_at (Some tag) 0 schema.columns total bytes
  Ok (Append column.0, column.1)

abbrev pub narrow_name : Option ColumnShape → Option (List ℕ)
narrow_name None = None
narrow_name (Some column) = if is_int32_kind column.kind then Some column.name else None

-- the column of this number is there and has 32 bits
unfoldable pub widen_at : (tag : ℕ) → SchemaShape → (total : ℕ) (bytes : List ℕ) → Result (Change × List ℕ) ℕ
widen_at tag schema total bytes = do
  n ← number_from w32 total bytes
  name ← or_fault (narrow_name (slice_get schema.columns n.0)) tag
  Ok (Widen name, n.1)

-- a change that the schema admits
unfoldable pub change_at : SchemaShape → (total : ℕ) (bytes : List ℕ) → Result (Change × List ℕ) ℕ
change_at schema total bytes = do
  tag ← asked (is_within 0 1) (place total bytes) (byte_from total bytes)
  if tag.0 == 0 then append_at (place total bytes) schema total tag.1 else widen_at (place total bytes) schema total tag.1

abbrev pub with_change : SchemaVersions → Change × List ℕ → Result (SchemaVersions × List ℕ) ℕ
with_change v x = Ok (record { first = v.first; changes = v.changes ++ x.0 ∷ [] }, x.1)

-- a change of the newest version
abbrev pub next_change : (total : ℕ) → SchemaVersions → List ℕ → Result (SchemaVersions × List ℕ) ℕ
next_change total v bytes = change_at (newest v) total bytes >>= with_change v

unfoldable pub first_at : (total : ℕ) (bytes : List ℕ) → Result (SchemaShape × List ℕ) ℕ
first_at total bytes = do
  key_len ← number_where w32 (is_within 1 64) total bytes
  count ← number_where w32 (is_within key_len.0 64) total key_len.1
  columns ← repeated (next_column key_len.0 total) count.0 [] count.1
  Ok (record { columns = columns.0; key_len = key_len.0 }, columns.1)

unfoldable pub schemas_at : (total : ℕ) (bytes : List ℕ) → Result (SchemaVersions × List ℕ) ℕ
schemas_at total bytes = do
  first ← first_at total bytes
  count ← number_where w32 (is_within 0 128) total first.1
  repeated (next_change total) count.0 (record { first = first.0; changes = [] }) count.1

-- ---- tablets

-- it comes behind the last of these
abbrev pub follows : List Listed → ℕ → ℕ → Bool
follows before low file = option_map_or (λ t. comes_before t low file) (slice_get before (length before - 1)) true

-- a length of a period, which starts at a multiple of it and has both timestamps
abbrev pub spans : (start low high : ℕ) → ℕ → Bool
spans start low high len = is_period_len len && (start % len == 0) && nat_le start low && nat_lt high (start + len)

-- a file below the next one that none of the others has, some rows, and the file's bytes
unfoldable pub sizes_at : (next_file : ℕ) (before : List Listed) (total : ℕ) (bytes : List ℕ) → Result (Sizes × List ℕ) ℕ
sizes_at next_file before total bytes = do
  file ← number_where w64 (λ n. nat_lt n next_file && not (lists_file before n)) total bytes
  rows ← number_where w64 (nat_lt 0) total file.1
  size ← number_from w64 total rows.1
  Ok (record { file = file.0; rows = rows.0; bytes = size.0 }, size.1)

-- the start of a period that has both moments, and its length, in which a rule over these is broken
unfoldable pub stretch_at : (low high total : ℕ) (bytes : List ℕ) → Result ((ℕ × ℕ) × List ℕ) ℕ
stretch_at low high total bytes = do
  start ← number_from w64 total bytes
  len ← number_where w64 (spans start.0 low high) total start.1
  Ok ((start.0, len.0), len.1)

-- two moments, of which the first comes behind the others' and the second isn't below it, and their period
unfoldable pub times_at : (file : ℕ) (before : List Listed) (total : ℕ) (bytes : List ℕ) → Result (Times × List ℕ) ℕ
times_at file before total bytes = do
  low ← number_where w64 (λ n. nat_lt n (2 ^ 62) && follows before n file) total bytes
  high ← number_where w64 (is_within low.0 (2 ^ 62 - 1)) total low.1
  stretch ← stretch_at low.0 high.0 total high.1
  Ok (record { low = low.0; high = high.0; start = stretch.0.0; len = stretch.0.1 }, stretch.1)

-- the least number, and the greatest, in which a rule over both is broken
unfoldable pub span_at : (kept total : ℕ) (bytes : List ℕ) → Result ((ℕ × ℕ) × List ℕ) ℕ
span_at kept total bytes = do
  first ← number_from w64 total bytes
  last ← number_where w64 (λ n. nat_le first.0 n && nat_lt n kept) total first.1
  Ok ((first.0, last.0), last.1)

abbrev pub listed_of : Sizes → Times → ℕ × ℕ → Listed
listed_of sizes times span = record { file = sizes.file; rows = sizes.rows; bytes = sizes.bytes; low = times.low; high = times.high; period = record { start = times.start; len = times.len }; first = span.0; last = span.1 }

-- a tablet behind others
unfoldable pub tablet_at : (kept next_file : ℕ) (before : List Listed) (total : ℕ) (bytes : List ℕ) → Result (Listed × List ℕ) ℕ
tablet_at kept next_file before total bytes = do
  sizes ← sizes_at next_file before total bytes
  times ← times_at sizes.0.file before total sizes.1
  span ← span_at kept total times.1
  Ok (listed_of sizes.0 times.0 span.0, span.1)

abbrev pub next_tablet : (kept next_file total : ℕ) → List Listed → List ℕ → Result (List Listed × List ℕ) ℕ
next_tablet kept next_file total before bytes = tablet_at kept next_file before total bytes >>= behind before

-- ---- all of it

-- the tablets, behind which nothing follows; else the first byte too many is named
unfoldable pub listing_at : (kept next_file total : ℕ) (bytes : List ℕ) → Result (List Listed) ℕ
listing_at kept next_file total bytes = do
  count ← number_from w32 total bytes
  tablets ← repeated (next_tablet kept next_file total) count.0 [] count.1
  ended ← holds (length tablets.1 == 0) (place total tablets.1)
  Ok tablets.0

-- the stone that the bytes spell, or the offset of the first fault
unfoldable pub stone_at : List ℕ → Result StoneShape ℕ
stone_at bytes = do
  head ← head_at (length bytes) bytes
  schemas ← schemas_at (length bytes) head.1
  tablets ← listing_at head.0.kept head.0.next_file (length bytes) schemas.1
  Ok (record { kept = head.0.kept; low = head.0.low; ttl = head.0.ttl; next_file = head.0.next_file; schemas = schemas.0; tablets = tablets })
