-- What hexadecimal digits spell.
use Rattle.std.specs.Prelude.{ℕ, ◌+◌, ◌-◌, ◌*◌, ◌&&◌, nat_le, List, [], ◌∷◌, Option, Some, None, if◌then◌else◌}

-- what a hexadecimal digit stands for, in either case
unfoldable pub hex_value : ℕ → Option ℕ
hex_value b =
    if nat_le 48 b && nat_le b 57 then Some (b - 48) else
    (if nat_le 97 b && nat_le b 102 then Some (b - 87) else
    (if nat_le 65 b && nat_le b 70 then Some (b - 55) else None))

abbrev pub pair_value : Option ℕ → Option ℕ → Option ℕ
pair_value (Some high) (Some low) = Some (16 * high + low)
pair_value _ _ = None

-- the byte that two hexadecimal digits spell
unfoldable pub hex_pair : ℕ → ℕ → Option ℕ
hex_pair high low = pair_value (hex_value high) (hex_value low)

abbrev pub byte_onto : Option ℕ → Option (List ℕ) → Option (List ℕ)
byte_onto (Some b) (Some bs) = Some (b ∷ bs)
byte_onto _ _ = None

-- the bytes that digits spell, two a byte; None where one is no digit, or their number is odd
unfoldable pub hex_of : List ℕ → Option (List ℕ)
hex_of [] = Some []
hex_of (high ∷ []) = None
hex_of (high ∷ low ∷ digits) = byte_onto (hex_pair high low) (hex_of digits)
