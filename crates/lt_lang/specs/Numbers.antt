-- How numbers are spelled.
use Rattle.std.specs.Prelude.{◌≡◌, ◌⊎◌, ℕ, ◌+◌, ◌-◌, ◌*◌, ◌^◌, ◌<◌, ◌≤◌, ℤ, pos, neg_ℤ, Bool, ◌&&◌, nat_le, IsTrue, List, [], ◌∷◌, ◌++◌, length, codes}
use Rattle.std.specs.List.{list_all}

-- 0 to 9
abbrev pub is_digit : ℕ → Bool
is_digit b = nat_le 48 b && nat_le b 57

-- the number that digits spell behind others that spell n: each digit is worth a tenth of the one before it
abbrev pub value_from : ℕ → List ℕ → ℕ
value_from n [] = n
value_from n (digit ∷ digits) = value_from (10 * n + (digit - 48)) digits

-- the number that decimal digits spell
abbrev pub value_of : List ℕ → ℕ
value_of digits = value_from 0 digits

-- 1 to 19 decimal digits, of which the first may be 0, and their number
pub record IsCount (bytes : List ℕ) (n : ℕ) : Type 0 where
  pub digits : IsTrue (list_all is_digit bytes)
  pub some : 1 ≤ length bytes
  pub few : length bytes ≤ 19
  pub value : value_of bytes ≡ n

-- a moment in microseconds since the Unix epoch
pub record IsMoment (bytes : List ℕ) (n : ℕ) : Type 0 where
  pub count : IsCount bytes n
  pub below : n < 2 ^ 62

-- a number without a sign, within 64 bits signed
pub record IsUnsigned (bytes : List ℕ) (x : ℤ) : Type 0 where
  pub number : ℕ
  pub count : IsCount bytes number
  pub within : number < 2 ^ 63
  pub value : pos number ≡ x

-- a number behind a -, within 64 bits signed
pub record IsNegated (bytes : List ℕ) (x : ℤ) : Type 0 where
  pub digits : List ℕ
  pub number : ℕ
  pub spelled : bytes ≡ codes "-" ++ digits
  pub count : IsCount digits number
  pub within : number ≤ 2 ^ 63
  pub value : neg_ℤ (pos number) ≡ x

abbrev pub IsInteger : List ℕ → ℤ → Type 0
IsInteger bytes x = IsUnsigned bytes x ⊎ IsNegated bytes x
