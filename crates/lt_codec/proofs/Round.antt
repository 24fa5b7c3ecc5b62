-- What is spelled is read.
use Rattle.std.proofs.Common.{◌≡◌, ℕ, zero, suc, ◌+◌, ◌-◌, ◌^◌, ◌<◌, ◌≤◌, ℤ, pos, negsuc, Bool, true, false, cond, eqb, List, [], ◌∷◌, ◌++◌, length, take, drop, refl, sym, ap, ◌∙◌, arith, append_assoc, append-nil}
use Rattle.std.specs.Prelude.{T, IsTrue, nat_lt, Option, Some, None, option_map, option_and_then, Result, Ok, Err}
use Rattle.std.specs.Result.{result_ok}
use Rattle.std.specs.List.{list_all}
use Rattle.std.specs.Int.{w32, w64, to_be_bytes, from_be_bytes, cast_signed, cast_unsigned}
use Rattle.std.specs.Str.{is_utf8}
use Rattle.std.proofs.lemmas.Nat.{from_be_bytes-to_be_bytes_4, from_be_bytes-to_be_bytes_8}
use Rattle.std.proofs.lemmas.List.{length-append, length-drop, take-append-drop}
use Rattle.std.proofs.lemmas.Int.{to_z-of_z}
use Rattle.std.proofs.Common.{SFits}
use Rattle.std.proofs.Math.Facts.{sfits_lit}
use Rattle.std.proofs.lemmas.Bool.Decides.{nat_tests}
use Rattle.lt_schema.specs.declared.kind.Kind.{Kind}
use Rattle.lt_schema.specs.declared.kind.Kind.TheVariants.{Int32, Int64, Time, Text as TextKind, Blob as BlobKind}
use Rattle.lt_schema.specs.declared.value.Value.{Value}
use Rattle.lt_schema.specs.declared.value.Value.TheVariants.{Int, Text, Blob}
use Rattle.lt_schema.specs.Shapes.{ColumnShape, SchemaShape}
use Rattle.lt_schema.specs.Lawful.{is_schema}
use Rattle.lt_schema.specs.Values.{is_of_kind, body_len_of}
use Rattle.lt_schema.specs.Check.{Passes, wrong_kind_from, len_under}
use Rattle.lt_schema.proofs.Growing.{both_true}
use Rattle.lt_codec.specs.Spelling.{turned, escaped, in_key, in_body, spelled_by, key_columns, body_columns, key_bytes, body_bytes}
use Rattle.lt_codec.specs.Ordering.{is_word, fits_word, is_text}
use Rattle.lt_rec.specs.Reading.{◌>>=◌, ended}
use Rattle.lt_codec.specs.Reading.{number_of, bytes_of, counted_at, behind, unescaped, turned_back, number_as, text_as, bytes_as, if_of_kind, any_in_key, in_key_at, any_in_body, in_body_at, values_at, all_at, behind_values, row_at}
use Rattle.lt_codec.proofs.Bytes.{turned_fits}
use Rattle.lt_codec.proofs.Keys.{passes_parts}
use Rattle.lt_codec.proofs.Lengths.{small, spelled_front}

-- ---- numbers

-- what a field of so many bytes gives
abbrev given : {A : Type 0} → Bool → A → Result A ℕ
given short x = cond short (Err 0) (Ok x)

number_by : {A : Type 0} (b : Bool) (x : A) → b ≡ false → result_ok (given b x) ≡ Some x
number_by true x is = absurd (cc)
number_by false x is = refl

number_8 : (n : ℕ) (rest : List ℕ) → n < 2 ^ 64 → number_of w64 (to_be_bytes w64 n ++ rest) ≡ Some (n, rest)
number_8 n rest fits =
    let long : nat_lt (length (to_be_bytes w64 n ++ rest)) 8 ≡ false = rw (length-append (to_be_bytes w64 n) rest) (grind (arith, nat_tests)) in
    number_by (nat_lt (length (to_be_bytes w64 n ++ rest)) 8) (from_be_bytes w64 (to_be_bytes w64 n), rest) long ∙ ap (λ (m : ℕ). Some (m, rest)) (from_be_bytes-to_be_bytes_8 n fits)

number_4 : (n : ℕ) (rest : List ℕ) → n < 2 ^ 32 → number_of w32 (to_be_bytes w32 n ++ rest) ≡ Some (n, rest)
number_4 n rest fits =
    let long : nat_lt (length (to_be_bytes w32 n ++ rest)) 4 ≡ false = rw (length-append (to_be_bytes w32 n) rest) (grind (arith, nat_tests)) in
    number_by (nat_lt (length (to_be_bytes w32 n ++ rest)) 4) (from_be_bytes w32 (to_be_bytes w32 n), rest) long ∙ ap (λ (m : ℕ). Some (m, rest)) (from_be_bytes-to_be_bytes_4 n fits)

back_by : (b : Bool) (x y z : ℤ) → cond b x y ≡ cond b x y → (b ≡ true → x ≡ z) → (b ≡ false → y ≡ z) → cond b x y ≡ z
back_by true x y z same yes_is no_is = yes_is refl
back_by false x y z same yes_is no_is = no_is refl

back_turned : (z : ℤ) → IsTrue (is_word z) → turned_back (turned z) ≡ z
back_turned (pos n) word =
    back_by (nat_lt (2 ^ 63 + n) (2 ^ 63)) (negsuc (2 ^ 63 - 1 - (2 ^ 63 + n))) (pos (2 ^ 63 + n - 2 ^ 63)) (pos n) refl
    (λ less. absurd (grind (arith, nat_tests))) (λ more. ap (λ (m : ℕ). pos m) (omega arith))
back_turned (negsuc n) word =
    let fits : n < 2 ^ 63 = grind (arith, nat_tests) in
    back_by (nat_lt (2 ^ 63 - (n + 1)) (2 ^ 63)) (negsuc (2 ^ 63 - 1 - (2 ^ 63 - (n + 1)))) (pos (2 ^ 63 - (n + 1) - 2 ^ 63)) (negsuc n) refl
    (λ less. ap (λ (m : ℕ). negsuc m) (omega arith)) (λ more. absurd (grind (arith, nat_tests)))

-- ---- escaped texts

text_by : (nil : Bool) (b : ℕ) (bs spelled rest : List ℕ) → eqb b 0 ≡ nil → unescaped false (spelled ++ rest) ≡ Some (bs, rest) → unescaped false (cond nil (0 ∷ 255 ∷ spelled) (b ∷ spelled) ++ rest) ≡ Some (b ∷ bs, rest)
unfolding unescaped
text_by true b bs spelled rest is read =
    let none : 0 ≡ b = grind (arith, nat_tests) in
    ap (option_map (behind 0)) read ∙ ap (λ (x : ℕ). Some (x ∷ bs, rest)) none
text_by false b bs spelled rest is read = rw is (ap (option_map (behind b)) read)

back_text : (s rest : List ℕ) → unescaped false (escaped s ++ rest) ≡ Some (s, rest)
unfolding escaped unescaped
back_text [] rest = refl
back_text (b ∷ bs) rest = text_by (eqb b 0) b bs (escaped bs) rest refl (back_text bs rest)

-- ---- one value

kind_is : (kind : Kind) (value : Value) (rest : List ℕ) → IsTrue (is_of_kind kind value) → if_of_kind kind (value, rest) ≡ Some (value, rest)
kind_is kind value rest is = rw is refl

text_is : (s rest : List ℕ) → IsTrue (is_utf8 s) → text_as (s, rest) ≡ Some (Text s, rest)
text_is s rest is = rw is refl

any_key : (kind : Kind) (value : Value) (rest : List ℕ) → IsTrue (is_of_kind kind value) → IsTrue (fits_word value) → IsTrue (is_text value) → any_in_key kind (in_key kind value ++ rest) ≡ Some (value, rest)
unfolding in_key
any_key Int32 (Int z) rest is word text = ap (option_map (number_as turned_back)) (number_8 (turned z) rest (turned_fits z word)) ∙ ap (λ (x : ℤ). Some (Int x, rest)) (back_turned z word)
any_key Int64 (Int z) rest is word text = ap (option_map (number_as turned_back)) (number_8 (turned z) rest (turned_fits z word)) ∙ ap (λ (x : ℤ). Some (Int x, rest)) (back_turned z word)
any_key Time (Int (pos n)) rest is word text =
    let fits : n < 2 ^ 64 = grind (arith, nat_tests) in
    let same : cast_signed w64 n ≡ pos n = rw word refl in
    ap (option_map (number_as (cast_signed w64))) (number_8 n rest fits) ∙ ap (λ (x : ℤ). Some (Int x, rest)) same
any_key Time (Int (negsuc n)) rest is word text = absurd (cc)
any_key TextKind (Text s) rest is word text = ap (option_and_then text_as) (back_text s rest) ∙ text_is s rest text
any_key BlobKind (Blob s) rest is word text = ap (option_map bytes_as) (back_text s rest)
any_key Int32 (Text s) rest is word text = absurd (cc)
any_key Int32 (Blob s) rest is word text = absurd (cc)
any_key Int64 (Text s) rest is word text = absurd (cc)
any_key Int64 (Blob s) rest is word text = absurd (cc)
any_key Time (Text s) rest is word text = absurd (cc)
any_key Time (Blob s) rest is word text = absurd (cc)
any_key TextKind (Int z) rest is word text = absurd (cc)
any_key TextKind (Blob s) rest is word text = absurd (cc)
any_key BlobKind (Int z) rest is word text = absurd (cc)
any_key BlobKind (Text s) rest is word text = absurd (cc)

key_value : (kind : Kind) (value : Value) (rest : List ℕ) → IsTrue (is_of_kind kind value) → IsTrue (fits_word value) → IsTrue (is_text value) → in_key_at kind (in_key kind value ++ rest) ≡ Some (value, rest)
unfolding in_key_at
key_value kind value rest is word text = ap (option_and_then (if_of_kind kind)) (any_key kind value rest is word text) ∙ kind_is kind value rest is

taken : (s rest : List ℕ) → take (length s) (s ++ rest) ≡ s
taken [] rest = refl
taken (b ∷ s) rest = ap (λ (r : List ℕ). b ∷ r) (taken s rest)

dropped : (s rest : List ℕ) → drop (length s) (s ++ rest) ≡ rest
dropped [] rest = refl
dropped (b ∷ s) rest = dropped s rest

bytes_are : (s rest : List ℕ) → bytes_of (length s) (s ++ rest) ≡ Some (s, rest)
bytes_are s rest =
    let long : nat_lt (length (s ++ rest)) (length s) ≡ false = rw (length-append s rest) (grind (arith, nat_tests)) in
    number_by (nat_lt (length (s ++ rest)) (length s)) (take (length s) (s ++ rest), drop (length s) (s ++ rest)) long
    ∙ ap (λ (t : List ℕ). Some (t, drop (length s) (s ++ rest))) (taken s rest) ∙ ap (λ (t : List ℕ). Some (s, t)) (dropped s rest)

counted : (s rest : List ℕ) → length s < 2 ^ 32 → counted_at ((to_be_bytes w32 (length s) ++ s) ++ rest) ≡ Some (s, rest)
unfolding counted_at
counted s rest fits =
    ap counted_at (append_assoc (to_be_bytes w32 (length s)) s rest) ∙ ap (option_and_then (λ n. bytes_of n.0 n.1)) (number_4 (length s) (s ++ rest) fits) ∙ bytes_are s rest

test_holds : (b : Bool) → IsTrue b → T b
test_holds true is = tt
test_holds false is = absurd (cc)

narrow_fits : (z : ℤ) → IsTrue (is_of_kind Int32 (Int z)) → SFits w32 z
narrow_fits (pos n) is = sfits_lit {w = w32} {z = pos n} (test_holds (nat_lt n (2 ^ 31)) is)
narrow_fits (negsuc n) is = sfits_lit {w = w32} {z = negsuc n} (test_holds (nat_lt n (2 ^ 31)) is)

word_fits : (z : ℤ) → IsTrue (is_word z) → SFits w64 z
word_fits (pos n) is = sfits_lit {w = w64} {z = pos n} (test_holds (nat_lt n (2 ^ 63)) is)
word_fits (negsuc n) is = sfits_lit {w = w64} {z = negsuc n} (test_holds (nat_lt n (2 ^ 63)) is)

narrow_bits : (z : ℤ) → IsTrue (is_of_kind Int32 (Int z)) → cast_unsigned w32 z < 2 ^ 32
narrow_bits (pos n) is = grind (arith, nat_tests)
narrow_bits (negsuc n) is = omega arith

word_bits : (z : ℤ) → IsTrue (is_word z) → cast_unsigned w64 z < 2 ^ 64
word_bits (pos n) is = grind (arith, nat_tests)
word_bits (negsuc n) is = omega arith

any_body : (kind : Kind) (value : Value) (rest : List ℕ) → IsTrue (is_of_kind kind value) → IsTrue (fits_word value) → IsTrue (is_text value) → body_len_of kind value ≤ 60000 → any_in_body kind (in_body kind value ++ rest) ≡ Some (value, rest)
unfolding in_body
any_body Int32 (Int z) rest is word text short = ap (option_map (number_as (cast_signed w32))) (number_4 (cast_unsigned w32 z) rest (narrow_bits z is)) ∙ ap (λ (x : ℤ). Some (Int x, rest)) (to_z-of_z w32 z (narrow_fits z is))
any_body Int64 (Int z) rest is word text short = ap (option_map (number_as (cast_signed w64))) (number_8 (cast_unsigned w64 z) rest (word_bits z word)) ∙ ap (λ (x : ℤ). Some (Int x, rest)) (to_z-of_z w64 z (word_fits z word))
any_body Time (Int z) rest is word text short = ap (option_map (number_as (cast_signed w64))) (number_8 (cast_unsigned w64 z) rest (word_bits z word)) ∙ ap (λ (x : ℤ). Some (Int x, rest)) (to_z-of_z w64 z (word_fits z word))
any_body TextKind (Text s) rest is word text short = ap (option_and_then text_as) (counted s rest (omega arith)) ∙ text_is s rest text
any_body BlobKind (Blob s) rest is word text short = ap (option_map bytes_as) (counted s rest (omega arith))
any_body Int32 (Text s) rest is word text short = absurd (cc)
any_body Int32 (Blob s) rest is word text short = absurd (cc)
any_body Int64 (Text s) rest is word text short = absurd (cc)
any_body Int64 (Blob s) rest is word text short = absurd (cc)
any_body Time (Text s) rest is word text short = absurd (cc)
any_body Time (Blob s) rest is word text short = absurd (cc)
any_body TextKind (Int z) rest is word text short = absurd (cc)
any_body TextKind (Blob s) rest is word text short = absurd (cc)
any_body BlobKind (Int z) rest is word text short = absurd (cc)
any_body BlobKind (Text s) rest is word text short = absurd (cc)

body_value : (kind : Kind) (value : Value) (rest : List ℕ) → IsTrue (is_of_kind kind value) → IsTrue (fits_word value) → IsTrue (is_text value) → body_len_of kind value ≤ 60000 → in_body_at kind (in_body kind value ++ rest) ≡ Some (value, rest)
unfolding in_body_at
body_value kind value rest is word text short = ap (option_and_then (if_of_kind kind)) (any_body kind value rest is word text short) ∙ kind_is kind value rest is

-- ---- lists of values

-- each value is read back from its spelling, whatever stands behind it
abbrev AllRead : (Kind → List ℕ → Option (Value × List ℕ)) → (Kind → Value → List ℕ) → List ColumnShape → List Value → Type 0
AllRead reads spelled [] [] = Unit {0}
AllRead reads spelled [] (value ∷ values) = ⊥
AllRead reads spelled (column ∷ columns) [] = ⊥
AllRead reads spelled (column ∷ columns) (value ∷ values) = ((rest : List ℕ) → reads column.kind (spelled column.kind value ++ rest) ≡ Some (value, rest)) × AllRead reads spelled columns values

values_back : (reads : Kind → List ℕ → Option (Value × List ℕ)) (spelled : Kind → Value → List ℕ) (end : ℕ) (columns : List ColumnShape) (values : List Value) (rest : List ℕ) → AllRead reads spelled columns values
    → values_at reads end columns (spelled_by spelled columns values ++ rest) ≡ Ok (values, rest)
unfolding values_at
values_back reads spelled end [] [] rest all = refl
values_back reads spelled end [] (value ∷ values) rest all = absurd all
values_back reads spelled end (column ∷ columns) [] rest all = absurd all
values_back reads spelled end (column ∷ columns) (value ∷ values) rest all =
    rw (append_assoc (spelled column.kind value) (spelled_by spelled columns values) rest, all.0 (spelled_by spelled columns values ++ rest), values_back reads spelled end columns values rest all.1) refl

all_back : (reads : Kind → List ℕ → Option (Value × List ℕ)) (spelled : Kind → Value → List ℕ) (end : ℕ) (columns : List ColumnShape) (values : List Value) → AllRead reads spelled columns values
    → all_at reads end columns (spelled_by spelled columns values) ≡ Ok values
all_back reads spelled end columns values all =
    ap (λ (b : List ℕ). all_at reads end columns b) (sym (append-nil (spelled_by spelled columns values))) ∙ ap (λ (r : Result (List Value × List ℕ) ℕ). r >>= ended end) (values_back reads spelled end columns values [] all)

kind_of_by : (b : Bool) (at : ℕ) (rest : Option ℕ) → cond b rest (Some at) ≡ None → IsTrue b × (rest ≡ None)
kind_of_by true at rest none = (refl, none)
kind_of_by false at rest none = absurd (cc)

keys_read : (n i : ℕ) (columns : List ColumnShape) (values : List Value) → wrong_kind_from i columns values ≡ None → IsTrue (list_all fits_word values) → IsTrue (list_all is_text values) → length values ≡ length columns
    → AllRead in_key_at in_key (take n columns) (take n values)
keys_read zero i columns values none words texts same = tt
keys_read (suc n) i [] [] none words texts same = tt
keys_read (suc n) i [] (value ∷ values) none words texts same = absurd (omega arith)
keys_read (suc n) i (column ∷ columns) [] none words texts same = absurd (omega arith)
keys_read (suc n) i (column ∷ columns) (value ∷ values) none words texts same =
    let here = kind_of_by (is_of_kind column.kind value) i (wrong_kind_from (i + 1) columns values) none in
    let word = both_true (fits_word value) (list_all fits_word values) words in
    let text = both_true (is_text value) (list_all is_text values) texts in
    (λ rest. key_value column.kind value rest here.0 word.0 text.0, keys_read n (i + 1) columns values here.1 word.1 text.1 (omega arith))

bodies_read : (i : ℕ) (columns : List ColumnShape) (values : List Value) → wrong_kind_from i columns values ≡ None → IsTrue (list_all fits_word values) → IsTrue (list_all is_text values) → length values ≡ length columns
    → len_under columns values ≤ 60000 → AllRead in_body_at in_body columns values
bodies_read i [] [] none words texts same short = tt
bodies_read i [] (value ∷ values) none words texts same short = absurd (omega arith)
bodies_read i (column ∷ columns) [] none words texts same short = absurd (omega arith)
bodies_read i (column ∷ columns) (value ∷ values) none words texts same short =
    let here = kind_of_by (is_of_kind column.kind value) i (wrong_kind_from (i + 1) columns values) none in
    let word = both_true (fits_word value) (list_all fits_word values) words in
    let text = both_true (is_text value) (list_all is_text values) texts in
    (λ rest. body_value column.kind value rest here.0 word.0 text.0 (omega arith), bodies_read (i + 1) columns values here.1 word.1 text.1 (omega arith) (omega arith))

all_drop : (test : Value → Bool) (n : ℕ) (values : List Value) → IsTrue (list_all test values) → IsTrue (list_all test (drop n values))
all_drop test zero values all = all
all_drop test (suc n) [] all = refl
all_drop test (suc n) (value ∷ values) all = all_drop test n values (both_true (test value) (list_all test values) all).1

pub row_back : (schema : SchemaShape) (row : List Value) → IsTrue (is_schema schema) → Passes schema row → IsTrue (list_all fits_word row) → IsTrue (list_all is_text row)
    → row_at schema (key_bytes schema row) (body_bytes schema row) ≡ Ok row
unfolding row_at
row_back schema row lawful passes words texts =
    let k = schema.key_len in
    let key = key_bytes schema row in
    let body = body_bytes schema row in
    let is = small schema row lawful passes in
    let parts = passes_parts schema row passes in
    let arity : length row ≡ length schema.columns = grind (arith, nat_tests, parts.0) in
    let first : all_at in_key_at (length key) (key_columns schema) key ≡ Ok (take k row) =
    ap (all_at in_key_at (length key) (key_columns schema)) (sym (spelled_front in_key k schema.columns row)) ∙ all_back in_key_at in_key (length key) (take k schema.columns) (take k row) (keys_read k 0 schema.columns row parts.1 words texts arity) in
    let same : length (drop k row) ≡ length (body_columns schema) = omega (arith, length-drop k row, length-drop k schema.columns, arity) in
    let others : all_at in_body_at (length key + length body) (body_columns schema) body ≡ Ok (drop k row) =
    all_back in_body_at in_body (length key + length body) (body_columns schema) (drop k row) (bodies_read 0 (body_columns schema) (drop k row) is.kinds (all_drop fits_word k row words) (all_drop is_text k row texts) same is.under) in
    ap (λ (r : Result (List Value) ℕ). r >>= λ front. behind_values front (all_at in_body_at (length key + length body) (body_columns schema) body)) first
    ∙ ap (behind_values (take k row)) others ∙ ap (λ (l : List Value). Ok l) (take-append-drop k row)
