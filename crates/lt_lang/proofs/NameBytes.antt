-- The bytes of names are ASCII.
use Rattle.std.proofs.Common.{◌≡◌, ℕ, zero, suc, ◌<◌, ◌≤◌, Bool, true, false, ◌&&◌, List, [], ◌∷◌, length, take, drop, refl, sym, ◌∙◌, ap, arith, Some, None}
use Rattle.std.proofs.lemmas.Bool.{eqb-true, leb-true}
use Rattle.std.proofs.lemmas.Option.{cond_some}
use Rattle.std.specs.Prelude.{nat_eq, nat_le, ◌||◌, if◌then◌else◌, codes, Ok}
use Rattle.std.specs.List.{list_all, prefix_len}
use Rattle.std.specs.Str.{IsAscii}
use Rattle.std.specs.Cmp.{first_so, second_so}
use Rattle.std.specs.Cmp.Lexicographic.{pointwise}
use Rattle.lt_schema.specs.Names.{is_letter, is_name, is_name_byte}
use Rattle.lt_lang.specs.Parsing.{client_of, needed, needed_name, next_word, behind_next}
use Rattle.lt_lang.proofs.Pieces.{all_front}

below_by : (s t u : Bool) (b : ℕ) → (s ≡ true → b ≤ 122) → (t ≡ true → b ≤ 57) → (u ≡ true → b ≡ 95) → (s || t) || u ≡ true → b < 128
below_by true t u b letter digit line e = let h = letter refl in omega arith
below_by false true u b letter digit line e = let h = digit refl in omega arith
below_by false false true b letter digit line e = let h = line refl in omega arith
below_by false false false b letter digit line e = cc

below : (b : ℕ) → is_name_byte b ≡ true → b < 128
below b e = below_by (nat_le 97 b && nat_le b 122) (nat_le 48 b && nat_le b 57) (nat_eq b 95) b
    (λ h. leb-true b 122 (second_so (nat_le 97 b) (nat_le b 122) h)) (λ h. leb-true b 57 (second_so (nat_le 48 b) (nat_le b 57) h)) (λ h. eqb-true b 95 h) e

pub name_ascii : (bytes : List ℕ) → list_all is_name_byte bytes ≡ true → IsAscii bytes
name_ascii [] e i = omega arith
name_ascii (b ∷ bs) e zero = below b (first_so (is_name_byte b) (list_all is_name_byte bs) e)
name_ascii (b ∷ bs) e (suc i) = name_ascii bs (second_so (is_name_byte b) (list_all is_name_byte bs) e) i

letter_is : (s t u : Bool) → s ≡ true → (s || t) || u ≡ true
letter_is s t u e = rw e refl

pub name_bytes : (word : List ℕ) → is_name word ≡ true → list_all is_name_byte word ≡ true
name_bytes [] e = cc
name_bytes (b ∷ bs) e =
    let front = first_so (is_letter b && list_all is_name_byte bs) (nat_le (length bs) 63) e in
    let letter = first_so (is_letter b) (list_all is_name_byte bs) front in
    let first : is_name_byte b ≡ true = letter_is (is_letter b) (nat_le 48 b && nat_le b 57) (nat_eq b 95) letter in
    rw first (second_so (is_letter b) (list_all is_name_byte bs) front)

column_by : (t : Bool) (word rest : List ℕ) (bytes : List ℕ) (p : List ℕ × List ℕ) → needed (if t then Some word else None) bytes rest ≡ Ok p → (t ≡ true) × ((word, rest) ≡ p)
column_by true word rest bytes p e = (refl, cc)
column_by false word rest bytes p e = cc

-- the name of a column that was read
pub read_name : (bytes name rest : List ℕ) → needed_name bytes ≡ Ok (name, rest) → is_name name ≡ true
unfolding needed_name
read_name bytes name rest e =
    let h = column_by (is_name (next_word bytes)) (next_word bytes) (behind_next bytes) bytes (name, rest) e in
    sym (ap (λ (q : List ℕ × List ℕ). is_name q.0) h.1) ∙ h.0

-- a client's name that was read
pub read_client : (word name : List ℕ) → client_of word ≡ Some name → list_all is_name_byte name ≡ true
unfolding client_of
read_client word name e =
    let n = prefix_len is_name_byte word in
    let h = cond_some {A = List ℕ} (nat_le 1 n && nat_le n 32 && pointwise nat_eq (drop n word) (codes ":")) (take n word) name e in
    sym (ap (list_all is_name_byte) h.1) ∙ all_front is_name_byte word
