-- Bytes that are UTF-8 or not, by the test.
use Rattle.std.proofs.Common.{◌≡◌, ℕ, Bool, true, false, List, refl, Some, None}
use Rattle.std.specs.Prelude.{if◌then◌else◌}
use Rattle.std.specs.Str.{IsUtf8, is_utf8}
use Rattle.std.proofs.lemmas.Str.{IsUtf8-from_is_utf8, is_utf8-from_IsUtf8}
use Rattle.lt_lang.specs.Parsing.{utf8_of}

pub utf8_of-yes : (bytes : List ℕ) → IsUtf8 bytes → utf8_of bytes ≡ Some bytes
unfolding utf8_of
utf8_of-yes bytes is = let e : is_utf8 bytes ≡ true = is_utf8-from_IsUtf8 bytes is in rw e refl

none_by : (t : Bool) (bytes : List ℕ) → (t ≡ true → ⊥) → (if t then Some bytes else None) ≡ None
none_by true bytes never = absurd (never refl)
none_by false bytes never = refl

pub utf8_of-no : (bytes : List ℕ) → (IsUtf8 bytes → ⊥) → utf8_of bytes ≡ None
unfolding utf8_of
utf8_of-no bytes never = none_by (is_utf8 bytes) bytes (λ e. never (IsUtf8-from_is_utf8 bytes e))

-- what is found is the bytes, and they are UTF-8
some_by : (t : Bool) (bytes text : List ℕ) → (if t then Some bytes else None) ≡ Some text → (t ≡ true) × (bytes ≡ text)
some_by true bytes text e = (refl, cc)
some_by false bytes text e = cc

pub utf8_of-read : (bytes text : List ℕ) → utf8_of bytes ≡ Some text → IsUtf8 bytes × (bytes ≡ text)
unfolding utf8_of
utf8_of-read bytes text e = let h = some_by (is_utf8 bytes) bytes text e in (IsUtf8-from_is_utf8 bytes h.0, h.1)
