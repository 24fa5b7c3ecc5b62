-- Names of columns and of kinds.
use Rattle.std.specs.Prelude.{ℕ, Bool, false, ◌&&◌, ◌||◌, List, [], ◌∷◌, length, nat_le, nat_eq, ◌==◌, Option, Some, None, if◌then◌else◌, codes}
use Rattle.std.specs.List.{list_all}
use Rattle.std.specs.Cmp.Lexicographic.{pointwise}
use Rattle.lt_schema.specs.declared.kind.Kind.{Kind}
use Rattle.lt_schema.specs.declared.kind.Kind.TheVariants.{Int32, Int64, Time, Text as TextKind, Blob as BlobKind}

-- a to z
abbrev pub is_letter : ℕ → Bool
is_letter b = nat_le 97 b && nat_le b 122

-- a to z, 0 to 9 and _
abbrev pub is_name_byte : ℕ → Bool
is_name_byte b = is_letter b || (nat_le 48 b && nat_le b 57) || (b == 95)

-- 1 to 64 such bytes, of which the first is a letter
abbrev pub is_name : List ℕ → Bool
is_name [] = false
is_name (b ∷ bs) = is_letter b && list_all is_name_byte bs && nat_le (length bs) 63

-- the kind of this name
unfoldable pub kind_named : List ℕ → Option Kind
kind_named text =
    if pointwise nat_eq text (codes "int32") then Some Int32 else
    (if pointwise nat_eq text (codes "int64") then Some Int64 else
    (if pointwise nat_eq text (codes "time") then Some Time else
    (if pointwise nat_eq text (codes "text") then Some TextKind else
    (if pointwise nat_eq text (codes "blob") then Some BlobKind else None))))
