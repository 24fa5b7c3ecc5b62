-- The bytes of names are ASCII, and a text is UTF-8 by its test.
use Rattle.std.proofs.Common.{◌≡◌, ℕ, zero, suc, ◌<◌, ◌≤◌, Bool, true, false, List, [], ◌∷◌, length, refl, arith}
use Rattle.std.proofs.lemmas.Bool.{eqb-true, leb-true}
use Rattle.std.proofs.lemmas.Str.{IsUtf8-from_is_utf8}
use Rattle.std.specs.Prelude.{nat_eq, nat_le, ◌&&◌, ◌||◌}
use Rattle.std.specs.List.{list_all}
use Rattle.std.specs.Str.{IsAscii, IsUtf8, is_utf8}
use Rattle.std.specs.Cmp.{first_so, second_so}
use Rattle.lt_schema.specs.Names.{is_letter, is_name, is_name_byte}

below_by : (s t u : Bool) (b : ℕ) → (s ≡ true → b ≤ 122) → (t ≡ true → b ≤ 57) → (u ≡ true → b ≡ 95) → (s || t) || u ≡ true → b < 128
below_by true t u b letter digit line e = let h = letter refl in omega arith
below_by false true u b letter digit line e = let h = digit refl in omega arith
below_by false false true b letter digit line e = let h = line refl in omega arith
below_by false false false b letter digit line e = cc

below : (b : ℕ) → is_name_byte b ≡ true → b < 128
below b e = below_by (nat_le 97 b && nat_le b 122) (nat_le 48 b && nat_le b 57) (nat_eq b 95) b
    (λ h. leb-true b 122 (second_so (nat_le 97 b) (nat_le b 122) h)) (λ h. leb-true b 57 (second_so (nat_le 48 b) (nat_le b 57) h)) (λ h. eqb-true b 95 h) e

all_ascii : (bytes : List ℕ) → list_all is_name_byte bytes ≡ true → IsAscii bytes
all_ascii [] e i = omega arith
all_ascii (b ∷ bs) e zero = below b (first_so (is_name_byte b) (list_all is_name_byte bs) e)
all_ascii (b ∷ bs) e (suc i) = all_ascii bs (second_so (is_name_byte b) (list_all is_name_byte bs) e) i

letter_is : (s t u : Bool) → s ≡ true → (s || t) || u ≡ true
letter_is s t u e = rw e refl

pub name_ascii : (name : List ℕ) → is_name name ≡ true → IsAscii name
name_ascii [] e = cc
name_ascii (b ∷ bs) e =
    let front = first_so (is_letter b && list_all is_name_byte bs) (nat_le (length bs) 63) e in
    let letter = first_so (is_letter b) (list_all is_name_byte bs) front in
    let first : is_name_byte b ≡ true = letter_is (is_letter b) (nat_le 48 b && nat_le b 57) (nat_eq b 95) letter in
    all_ascii (b ∷ bs) (rw first (second_so (is_letter b) (list_all is_name_byte bs) front))

false_by : (t : Bool) → (t ≡ true → ⊥) → t ≡ false
false_by true never = absurd (never refl)
false_by false never = refl

pub not_utf8 : (bytes : List ℕ) → (IsUtf8 bytes → ⊥) → is_utf8 bytes ≡ false
not_utf8 bytes never = false_by (is_utf8 bytes) (λ e. never (IsUtf8-from_is_utf8 bytes e))
