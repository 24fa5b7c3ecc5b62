-- Literals that are so spelled are read.
use Rattle.std.proofs.Common.{◌≡◌, ℕ, ℤ, pos, zero, suc, ◌<◌, ◌≤◌, Bool, true, false, List, [], ◌∷◌, ◌++◌, length, refl, sym, ◌∙◌, ap, arith, append_assoc, Option, Some, None}
use Rattle.std.proofs.lemmas.List.{length-append}
use Rattle.std.proofs.lemmas.Bool.{eqb-true, lt-ltb}
use Rattle.std.specs.Prelude.{nat_eq, if◌then◌else◌, codes}
use Rattle.std.specs.Option.{option_map}
use Rattle.lt_schema.specs.declared.value.Value.{Value}
use Rattle.lt_schema.specs.declared.value.Value.TheVariants.{Int, Text, Blob}
use Rattle.lt_lang.specs.Numbers.{IsInteger}
use Rattle.lt_lang.specs.Reading.{after, integer_at, unsigned_at, count_at}
use Rattle.lt_lang.specs.Tokens.{is_ended, is_quoted}
use Rattle.lt_lang.specs.Literals.{IsHex, is_bare, IsPiece, IsBody, IsText, IsBlob, IsLit, AreLits}
use Rattle.lt_hex.specs.Digits.{hex_pair}
use Rattle.lt_lang.specs.Sentences.{Next, Front}
use Rattle.lt_lang.specs.Parsing.{hex_byte_at, hexed_at, escape_at, piece_at, onto, quoted_by, quoted_within, quoted_at, text_by, text_behind, whole, integer_of, word_value_by, word_value, literal_here, literal_at, literals_by, literals_within, literals_at, value_onto}
use Rattle.lt_hex.specs.Digits.{hex_of}
use Rattle.lt_lang.proofs.Taken.{after-read, after-only}
use Rattle.lt_lang.proofs.Utf8.{utf8_of-yes}
use Rattle.lt_lang.proofs.Pieces.{piece-bare, some_piece}
use Rattle.lt_lang.proofs.LiteralLoop.{literal_at-shorter}
use Rattle.lt_lang.proofs.WordForms.{IsStart, integer_of-only}
use Rattle.lt_lang.proofs.Gaps.{skipped_next, run_word, run_behind, run_of}
use Rattle.lt_lang.proofs.Understood.{word_value-start}

pub hex_of-only : (digits bytes : List ℕ) → IsHex digits bytes → hex_of digits ≡ Some bytes
unfolding hex_of
hex_of-only [] [] is = refl
hex_of-only [] (b ∷ bs) is = absurd is
hex_of-only (h ∷ []) [] is = absurd is
hex_of-only (h ∷ []) (b ∷ bs) is = absurd is
hex_of-only (h ∷ l ∷ ds) [] is = absurd is
hex_of-only (h ∷ l ∷ ds) (b ∷ bs) is = rw (is.0, hex_of-only ds bs is.1) refl

hexed-only : (high low b : ℕ) (rest : List ℕ) → hex_pair high low ≡ Some b → b < 128 → hexed_at (high ∷ low ∷ rest) ≡ Some (b, rest)
unfolding hexed_at hex_byte_at
hexed-only high low b rest pair low_b = rw (pair, lt-ltb b 128 low_b) refl

bare_x : (d : ℕ) (t : Bool) → nat_eq d 120 ≡ t → is_bare d ≡ false → t ≡ false
bare_x d true e bare = let h : is_bare 120 ≡ false = ap is_bare (sym (eqb-true d 120 e)) ∙ bare in cc
bare_x d false e bare = refl

escape-only : (b : ℕ) (rest : List ℕ) → is_bare b ≡ false → escape_at (b ∷ rest) ≡ Some (b, rest)
unfolding escape_at
escape-only b rest bare = let e : nat_eq b 120 ≡ false = bare_x b (nat_eq b 120) refl bare in rw (e, bare) refl

escape_step : (rest : List ℕ) → piece_at (92 ∷ rest) ≡ escape_at rest
unfolding piece_at
escape_step rest = refl

escape_hexed : (rest : List ℕ) → escape_at (120 ∷ rest) ≡ hexed_at rest
unfolding escape_at
escape_hexed rest = refl

piece_at-only : (piece rest : List ℕ) (b : ℕ) → IsPiece piece b → piece_at (piece ++ rest) ≡ Some (b, rest)
piece_at-only [] rest b is = absurd is
piece_at-only (c ∷ []) rest b is = ap (λ d. piece_at (d ∷ rest)) is.0 ∙ piece-bare b rest is.1
piece_at-only (c ∷ d ∷ []) rest b is =
    ap (λ e. piece_at (e ∷ d ∷ rest)) is.0 ∙ escape_step (d ∷ rest) ∙ ap (λ e. escape_at (e ∷ rest)) is.1 ∙ escape-only b rest is.2
piece_at-only (c ∷ d ∷ h ∷ []) rest b is = absurd is
piece_at-only (c ∷ d ∷ h ∷ l ∷ []) rest b is =
    ap (λ e. piece_at (e ∷ d ∷ h ∷ l ∷ rest)) is.0 ∙ escape_step (d ∷ h ∷ l ∷ rest) ∙ ap (λ e. escape_at (e ∷ h ∷ l ∷ rest)) is.1
    ∙ escape_hexed (h ∷ l ∷ rest) ∙ hexed-only h l b rest is.2 is.3
piece_at-only (c ∷ d ∷ h ∷ l ∷ e ∷ more) rest b is = absurd is

closed_step : (n : ℕ) (rest : List ℕ) → quoted_within n (34 ∷ rest) ≡ Some ([], rest)
unfolding quoted_within piece_at
closed_step zero rest = refl
closed_step (suc n) rest = refl

quoted_more : (n : ℕ) (piece rest text behind_it : List ℕ) (b : ℕ) → IsPiece piece b → length (piece ++ rest) ≤ n → ((m : ℕ) → length rest ≤ m → quoted_within m rest ≡ Some (text, behind_it))
    → quoted_within n (piece ++ rest) ≡ Some (b ∷ text, behind_it)
unfolding quoted_within
quoted_more zero piece rest text behind_it b is few more = let some = some_piece piece b is in absurd (omega (arith, length-append piece rest))
quoted_more (suc n) piece rest text behind_it b is few more =
    let some = some_piece piece b is in
    ap (λ r. quoted_by (quoted_within n) r (piece ++ rest)) (piece_at-only piece rest b is) ∙ ap (onto b) (more n (omega (arith, length-append piece rest)))

quoted-only : (text body rest : List ℕ) (n : ℕ) → IsBody body text → length (body ++ 34 ∷ rest) ≤ n → quoted_within n (body ++ 34 ∷ rest) ≡ Some (text, rest)
quoted-only [] body rest n is few = ap (λ l. quoted_within n (l ++ 34 ∷ rest)) is ∙ closed_step n rest
quoted-only (b ∷ text) body rest n is few =
    let piece = is.0 in
    let others = is.1 in
    let whole_text : body ++ 34 ∷ rest ≡ piece ++ (others ++ 34 ∷ rest) = ap (λ l. l ++ 34 ∷ rest) is.2 ∙ append_assoc piece others (34 ∷ rest) in
    ap (quoted_within n) whole_text
    ∙ quoted_more n piece (others ++ 34 ∷ rest) text rest b is.3 (omega (arith, ap length whole_text)) (λ m less. quoted-only text others rest m is.4 less)

text_here : (token text rest : List ℕ) → IsText token text → is_ended rest ≡ true → literal_here (token ++ rest) ≡ Some (Text text, rest)
unfolding literal_here text_behind quoted_at
text_here token text rest t ended =
    let all : token ++ rest ≡ 34 ∷ (t.body ++ 34 ∷ rest) = ap (λ l. l ++ rest) t.spelled ∙ ap (λ l. 34 ∷ l) (append_assoc t.body (34 ∷ []) rest) in
    let quoted = quoted-only text t.body rest (length (t.body ++ 34 ∷ rest)) t.pieces (omega arith) in
    let utf8 = utf8_of-yes text t.utf8 in
    ap literal_here all ∙ ap text_by quoted ∙ rw (ended, utf8) refl

whole_long : (A : Type 0) (x : A) (b : ℕ) (bs : List ℕ) → whole (Some (x, b ∷ bs)) ≡ None
whole_long A x b bs = by (nat_eq (length (b ∷ bs)) 0) refl
  where
    by : (t : Bool) → nat_eq (length (b ∷ bs)) 0 ≡ t → (if t then Some x else None) ≡ None
    by true e = let h = eqb-true (length (b ∷ bs)) 0 e in absurd (omega arith)
    by false e = refl

no_integer : (digits : List ℕ) → integer_of (48 ∷ 120 ∷ digits) ≡ None
unfolding integer_of integer_at unsigned_at count_at
no_integer digits = whole_long ℤ (pos 0) 120 digits

int_value : (token : List ℕ) (r : Option (List ℕ)) (x : ℤ) → after (codes "0x") token ≡ r → integer_of token ≡ Some x → word_value_by r token ≡ Some (Int x)
int_value token None x eq e = ap (option_map Int) e
int_value token (Some digits) x eq e =
    let spelled = after-read (codes "0x") token digits eq in
    let none : integer_of token ≡ None = ap integer_of spelled ∙ no_integer digits in cc

pub int_word : (token : List ℕ) (x : ℤ) → IsInteger token x → word_value token ≡ Some (Int x)
unfolding word_value
int_word token x is = int_value token (after (codes "0x") token) x refl (integer_of-only token x is)

blob_word : (token bytes : List ℕ) → IsBlob token bytes → word_value token ≡ Some (Blob bytes)
unfolding word_value
blob_word token bytes is =
    ap (λ l. word_value_by (after (codes "0x") l) l) is.spelled ∙ ap (λ r. word_value_by r (codes "0x" ++ is.digits)) (after-only (codes "0x") is.digits)
    ∙ ap (option_map Blob) (hex_of-only is.digits bytes is.pairs)

pub unquoted : (token rest : List ℕ) → IsStart token → is_quoted (token ++ rest) ≡ false
unquoted [] rest start = let h = start.some in absurd (omega arith)
unquoted (b ∷ bs) rest start = start.bare

word_lit : (token bytes rest : List ℕ) (value : Value) → Next token bytes rest → word_value token ≡ Some value → literal_at bytes ≡ Some (value, rest)
unfolding literal_at literal_here
word_lit token bytes rest value next e =
    let start = word_value-start token value e in
    let run = run_of token next.is start in
    let bare : is_quoted (token ++ rest) ≡ false = unquoted token rest start in
    ap literal_here (skipped_next token bytes rest next)
    ∙ rw (bare, run_word token rest run next.ended, run_behind token rest run next.ended, e) refl

text_at_next : (token bytes rest text : List ℕ) → Next token bytes rest → IsText token text → literal_at bytes ≡ Some (Text text, rest)
unfolding literal_at
text_at_next token bytes rest text next t = ap literal_here (skipped_next token bytes rest next) ∙ text_here token text rest t next.ended

pub literal_at-only : (token bytes rest : List ℕ) (value : Value) → Next token bytes rest → IsLit token value → literal_at bytes ≡ Some (value, rest)
literal_at-only token bytes rest (Int x) next is = word_lit token bytes rest (Int x) next (int_word token x is)
literal_at-only token bytes rest (Text text) next is = text_at_next token bytes rest text next is
literal_at-only token bytes rest (Blob blob) next is = word_lit token bytes rest (Blob blob) next (blob_word token blob is)

literals_end : (n : ℕ) (bytes : List ℕ) → literal_at bytes ≡ None → literals_within n bytes ≡ ([], bytes)
unfolding literals_within
literals_end zero bytes e = refl
literals_end (suc n) bytes e = ap (λ r. literals_by (literals_within n) r bytes) e

literals_step : (n : ℕ) (bytes rest end : List ℕ) (value : Value) (values : List Value) → literal_at bytes ≡ Some (value, rest) → length bytes ≤ n
    → ((m : ℕ) → length rest ≤ m → literals_within m rest ≡ (values, end)) → literals_within n bytes ≡ (value ∷ values, end)
unfolding literals_within
literals_step zero bytes rest end value values e few more = let less = literal_at-shorter bytes value rest e in absurd (omega arith)
literals_step (suc n) bytes rest end value values e few more =
    let less = literal_at-shorter bytes value rest e in
    ap (λ r. literals_by (literals_within n) r bytes) e ∙ ap (value_onto value) (more n (omega arith))

literals-only : (tokens : List (List ℕ)) (values : List Value) (bytes end : List ℕ) (n : ℕ) → Front tokens bytes end → AreLits tokens values → literal_at end ≡ None → length bytes ≤ n
    → literals_within n bytes ≡ (values, end)
literals-only [] [] bytes end n front are none few = ap (literals_within n) front ∙ literals_end n end none
literals-only [] (value ∷ values) bytes end n front are none few = absurd are
literals-only (token ∷ tokens) [] bytes end n front are none few = absurd are
literals-only (token ∷ tokens) (value ∷ values) bytes end n front are none few =
    literals_step n bytes front.0 end value values (literal_at-only token bytes front.0 value front.1 are.0) few
    (λ m less. literals-only tokens values front.0 end m front.2 are.1 none less)

pub literals_at-only : (tokens : List (List ℕ)) (values : List Value) (bytes end : List ℕ) → Front tokens bytes end → AreLits tokens values → literal_at end ≡ None → literals_at bytes ≡ (values, end)
unfolding literals_at
literals_at-only tokens values bytes end front are none = literals-only tokens values bytes end (length bytes) front are none (omega arith)
