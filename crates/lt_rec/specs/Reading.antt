-- Reading a format from left to right. What breaks a rule first is named by its offset.
use Rattle.std.specs.Prelude.{◌≡◌, ℕ, ◌-◌, Bool, ◌&&◌, ◌==◌, nat_lt, nat_le, List, [], ◌∷◌, length, take, drop, Option, Some, None, Result, Ok, Err, if◌then◌else◌}
use Rattle.std.specs.Int.{Width, byte_len, from_be_bytes}
use Rattle.lt_rec.specs.declared.fault.Fault.{Fault}
use Rattle.lt_rec.specs.declared.fault.FormatError.{FormatError}
use Rattle.lt_rec.specs.declared.fault.FormatError.TheVariants as errors

-- a step, and the next one with what it read
infixl 10 ◌>>=◌
abbrev pub ◌>>=◌ : {A B : Type 0} → Result A ℕ → (A → Result B ℕ) → Result B ℕ
(Ok x) >>= f = f x
(Err at) >>= f = Err at

-- ---- what a call returned is what reading gives

-- the fault of reading, unless memory ran out
abbrev pub Fails : {Y : Type 0} → FormatError → Result Y ℕ → Type 0
Fails errors.NoMemory read = Unit {0}
Fails (errors.Bad at) read = read ≡ Err at

-- what was returned, seen by `view`, unless memory ran out
abbrev pub Gives : {X Y : Type 0} → (X → Y) → Result X FormatError → Result Y ℕ → Type 0
Gives view (Ok x) read = read ≡ Ok (view x)
Gives view (Err e) read = Fails e read

-- the same, for what takes no memory
abbrev pub Reads : {X Y : Type 0} → (X → Y) → Result X Fault → Result Y ℕ → Type 0
Reads view (Ok x) read = read ≡ Ok (view x)
Reads view (Err fault) read = read ≡ Err fault.at

-- ---- fields

-- A field is a value and the bytes after it. Where the bytes end in it, it is named.
abbrev pub byte_at : ℕ → List ℕ → Result (ℕ × List ℕ) ℕ
byte_at at [] = Err at
byte_at at (b ∷ bytes) = Ok (b, bytes)

-- a number, its highest byte first
abbrev pub number_at : Width → ℕ → List ℕ → Result (ℕ × List ℕ) ℕ
number_at w at bytes = if nat_lt (length bytes) (byte_len w) then Err at else Ok (from_be_bytes w (take (byte_len w) bytes), drop (byte_len w) bytes)

abbrev pub bytes_at : ℕ → ℕ → List ℕ → Result (List ℕ × List ℕ) ℕ
bytes_at n at bytes = if nat_lt (length bytes) n then Err at else Ok (take n bytes, drop n bytes)

-- where the bytes begin that are left of so many
abbrev pub place : ℕ → List ℕ → ℕ
place total bytes = total - length bytes

-- ---- tests

-- what holds; else the offset is named
abbrev pub holds : Bool → ℕ → Result (Unit {0}) ℕ
holds test at = if test then Ok tt else Err at

-- a field that passes its test; else the offset is named
abbrev pub asked : {A : Type 0} → (A → Bool) → ℕ → Result (A × List ℕ) ℕ → Result (A × List ℕ) ℕ
asked test at (Ok x) = if test x.0 then Ok x else Err at
asked test at (Err e) = Err e

-- what is there; else the offset is named
abbrev pub or_fault : {A : Type 0} → Option A → ℕ → Result A ℕ
or_fault None at = Err at
or_fault (Some x) at = Ok x

-- nothing is left of so many bytes; else the first byte too many is named
abbrev pub ended : {A : Type 0} → ℕ → A × List ℕ → Result A ℕ
ended total x = if length x.1 == 0 then Ok x.0 else Err (total - length x.1)

abbrev pub is_within : ℕ → ℕ → ℕ → Bool
is_within least most n = nat_le least n && nat_le n most
