-- Values: their order, their kinds, and how many bytes they take.
use Rattle.std.specs.Prelude.{ℕ, ◌+◌, ◌^◌, ℤ, pos, negsuc, Bool, true, false, List, [], length, nat_lt, nat_eq, count_by, take}
use Rattle.std.specs.Ordering.{int_cmp, nat_cmp}
use Rattle.std.specs.Cmp.Lexicographic.{slice_cmp}
use Rattle.std.specs.declared.cmp.Ordering.{Ordering}
use Rattle.std.specs.declared.cmp.Ordering.TheVariants.{Less, Greater}
use Rattle.lt_schema.specs.declared.kind.Kind.{Kind}
use Rattle.lt_schema.specs.declared.kind.Kind.TheVariants.{Int32, Int64, Time, Text as TextKind, Blob as BlobKind}
use Rattle.lt_schema.specs.declared.value.Value.{Value}
use Rattle.lt_schema.specs.declared.value.Value.TheVariants.{Int, Text, Blob}

-- integers by number, texts and bytes by their bytes, a proper prefix first; an integer before a text before bytes
abbrev pub value_cmp : Value → Value → Ordering
value_cmp (Int x) (Int y) = int_cmp x y
value_cmp (Int x) (Text y) = Less
value_cmp (Int x) (Blob y) = Less
value_cmp (Text x) (Int y) = Greater
value_cmp (Text x) (Text y) = slice_cmp nat_cmp x y
value_cmp (Text x) (Blob y) = Less
value_cmp (Blob x) (Int y) = Greater
value_cmp (Blob x) (Text y) = Greater
value_cmp (Blob x) (Blob y) = slice_cmp nat_cmp x y

-- keys column by column
abbrev pub key_cmp : List Value → List Value → Ordering
key_cmp = slice_cmp value_cmp

-- a list of leading values with a key, by those columns alone
abbrev pub leading_cmp : List Value → List Value → Ordering
leading_cmp leading key = key_cmp leading (take (length leading) key)

-- within 32 bits, signed
abbrev pub is_int32 : ℤ → Bool
is_int32 (pos n) = nat_lt n (2 ^ 31)
is_int32 (negsuc n) = nat_lt n (2 ^ 31)

-- a moment: from 0 to 2^62 - 1
abbrev pub is_time : ℤ → Bool
is_time (pos n) = nat_lt n (2 ^ 62)
is_time (negsuc n) = false

abbrev pub is_of_kind : Kind → Value → Bool
is_of_kind Int32 (Int x) = is_int32 x
is_of_kind Int64 (Int x) = true
is_of_kind Time (Int x) = is_time x
is_of_kind TextKind (Text x) = true
is_of_kind BlobKind (Blob x) = true
is_of_kind Int32 (Text x) = false
is_of_kind Int32 (Blob x) = false
is_of_kind Int64 (Text x) = false
is_of_kind Int64 (Blob x) = false
is_of_kind Time (Text x) = false
is_of_kind Time (Blob x) = false
is_of_kind TextKind (Int x) = false
is_of_kind TextKind (Blob x) = false
is_of_kind BlobKind (Int x) = false
is_of_kind BlobKind (Text x) = false

-- 0 or empty
abbrev pub blank_of : Kind → Value
blank_of Int32 = Int (pos 0)
blank_of Int64 = Int (pos 0)
blank_of Time = Int (pos 0)
blank_of TextKind = Text []
blank_of BlobKind = Blob []

-- the moment that a time value is
abbrev pub moment_of : Value → ℕ
moment_of (Int (pos n)) = n
moment_of (Int (negsuc n)) = 0
moment_of (Text x) = 0
moment_of (Blob x) = 0

-- in a key a byte 0 takes two bytes, and two more end a text or bytes
abbrev pub key_len_of_bytes : List ℕ → ℕ
key_len_of_bytes bytes = length bytes + count_by (λ b. nat_eq b 0) bytes + 2

abbrev pub key_len_of : Value → ℕ
key_len_of (Int x) = 8
key_len_of (Text x) = key_len_of_bytes x
key_len_of (Blob x) = key_len_of_bytes x

abbrev pub body_len_of : Kind → Value → ℕ
body_len_of Int32 (Int x) = 4
body_len_of Int64 (Int x) = 8
body_len_of Time (Int x) = 8
body_len_of TextKind (Int x) = 8
body_len_of BlobKind (Int x) = 8
body_len_of kind (Text x) = 4 + length x
body_len_of kind (Blob x) = 4 + length x
