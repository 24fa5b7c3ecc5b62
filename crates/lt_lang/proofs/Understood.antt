-- Literals and options that were read are so spelled.
use Rattle.std.proofs.Common.{◌≡◌, ℕ, ℤ, zero, suc, Bool, true, false, List, [], ◌∷◌, ◌++◌, length, take, drop, refl, sym, ◌∙◌, ap, subst, append_assoc, Option, Some, None, inl, inr}
use Rattle.std.proofs.lemmas.List.{take-append-drop}
use Rattle.std.proofs.lemmas.Bool.{eqb-true}
use Rattle.std.proofs.lemmas.Option.{cond_some}
use Rattle.std.specs.Prelude.{nat_eq, if◌then◌else◌, codes, Result, Ok}
use Rattle.std.specs.List.{prefix_len}
use Rattle.std.specs.Option.{option_map}
use Rattle.std.specs.Str.{IsUtf8}
use Rattle.lt_schema.specs.Names.{is_name}
use Rattle.lt_schema.specs.declared.kind.Kind.{Kind}
use Rattle.lt_schema.specs.declared.value.Value.{Value}
use Rattle.lt_schema.specs.declared.value.Value.TheVariants.{Int, Text, Blob}
use Rattle.lt_lang.specs.Numbers.{IsCount}
use Rattle.lt_lang.specs.Reading.{after, count_at, integer_at, unsigned_at}
use Rattle.lt_lang.specs.Tokens.{is_space, is_solid, is_ended, skipped, word_of, behind}
use Rattle.lt_lang.specs.Literals.{IsHex, IsBody, IsText, IsBlob, IsLit, AreLits, IsToken}
use Rattle.lt_hex.specs.Digits.{hex_pair}
use Rattle.lt_lang.specs.Sentences.{Next, Front, IsOptional, IsMomentToken, kind_word}
use Rattle.lt_lang.specs.Parsing.{beside, integer_of, word_value_by, word_value, quoted_at, utf8_of, text_by, text_beside, text_behind, literal_here, literal_at, literals_by, literals_within, literals_at, needed, maybe, same, next_word, behind_next, after_word, count_of, moment_of, column_name, needed_count, maybe_count, maybe_moment, needed_name, needed_kind}
use Rattle.lt_schema.specs.Names.{kind_named}
use Rattle.lt_hex.specs.Digits.{byte_onto, hex_of}
use Rattle.lt_lang.proofs.Taken.{after-read}
use Rattle.lt_lang.proofs.Utf8.{utf8_of-read}
use Rattle.lt_lang.proofs.Pieces.{all_front, TakesBody, quoted-read}
use Rattle.lt_lang.proofs.WordForms.{IsStart, start_by, same-read, count_of-read, count_of-start, integer_of-read, moment_of-read, moment_of-start, column_name-read, column_name-start, kind_named-read, kind_named-start}
use Rattle.lt_lang.proofs.Gaps.{drop_ended, word_next}

-- a token of this kind, and the rest
pub record TakesToken (X : Type 0) (Is : List ℕ → X → Type 0) (bytes : List ℕ) (p : X × List ℕ) : Type 0 where
  pub token : List ℕ
  pub next : Next token bytes p.1
  pub is : Is token p.0

-- tokens of this kind, and the rest
pub record TakesTokens (X : Type 0) (Is : List (List ℕ) → X → Type 0) (bytes : List ℕ) (p : X × List ℕ) : Type 0 where
  pub tokens : List (List ℕ)
  pub front : Front tokens bytes p.1
  pub is : Is tokens p.0

abbrev pub read_ok : (A : Type 0) → A → Result A ℕ
read_ok A x = Ok x

pub ok_same : (A : Type 0) (p q : A) → read_ok A p ≡ read_ok A q → p ≡ q
ok_same A p q e = cc

some_same : (A : Type 0) (p q : A) → Some p ≡ Some q → p ≡ q
some_same A p q e = cc

needed-read : (X : Type 0) (Is : List ℕ → X → Type 0) (r : Option X) (bytes : List ℕ) (p : X × List ℕ) → ((x : X) → r ≡ Some x → IsStart (next_word bytes) × Is (next_word bytes) x)
    → needed r bytes (behind_next bytes) ≡ Ok p → TakesToken X Is bytes p
needed-read X Is None bytes p each e = cc
needed-read X Is (Some x) bytes p each e =
    let h = each x refl in
    let found : TakesToken X Is bytes (x, behind_next bytes) = record { token = next_word bytes; next = word_next bytes h.0; is = h.1 } in
    subst (TakesToken X Is bytes) (ok_same (X × List ℕ) (x, behind_next bytes) p e) found

pub needed_count-read : (bytes : List ℕ) (p : ℕ × List ℕ) → needed_count bytes ≡ Ok p → TakesToken ℕ IsCount bytes p
unfolding needed_count
needed_count-read bytes p e =
    needed-read ℕ IsCount (count_of (next_word bytes)) bytes p (λ n f. (count_of-start (next_word bytes) n f, count_of-read (next_word bytes) n f)) e

-- a column's name
abbrev pub IsColumnName : List ℕ → List ℕ → Type 0
IsColumnName token name = (is_name token ≡ true) × (token ≡ name)

pub needed_name-read : (bytes : List ℕ) (p : List ℕ × List ℕ) → needed_name bytes ≡ Ok p → TakesToken (List ℕ) IsColumnName bytes p
unfolding needed_name
needed_name-read bytes p e =
    needed-read (List ℕ) IsColumnName (column_name (next_word bytes)) bytes p (λ n f. (column_name-start (next_word bytes) n f, column_name-read (next_word bytes) n f)) e

abbrev pub IsKindWord : List ℕ → Kind → Type 0
IsKindWord token kind = token ≡ kind_word kind

pub needed_kind-read : (bytes : List ℕ) (p : Kind × List ℕ) → needed_kind bytes ≡ Ok p → TakesToken Kind IsKindWord bytes p
unfolding needed_kind
needed_kind-read bytes p e =
    needed-read Kind IsKindWord (kind_named (next_word bytes)) bytes p (λ k f. (kind_named-start (next_word bytes) k f, kind_named-read (next_word bytes) k f)) e

maybe-read : (X : Type 0) (Is : List ℕ → X → Type 0) (r : Option X) (bytes : List ℕ) → ((x : X) → r ≡ Some x → IsStart (next_word bytes) × Is (next_word bytes) x)
    → TakesTokens (Option X) (IsOptional {X = X} Is) bytes (maybe r bytes (behind_next bytes))
maybe-read X Is None bytes each = record { tokens = []; front = refl; is = refl }
maybe-read X Is (Some x) bytes each =
    let h = each x refl in record {
      tokens = next_word bytes ∷ [];
      front = (behind_next bytes, word_next bytes h.0, refl);
      is = (next_word bytes, refl, h.1);
    }

pub maybe_count-read : (bytes : List ℕ) → TakesTokens (Option ℕ) (IsOptional IsCount) bytes (maybe_count bytes)
unfolding maybe_count
maybe_count-read bytes = maybe-read ℕ IsCount (count_of (next_word bytes)) bytes (λ n f. (count_of-start (next_word bytes) n f, count_of-read (next_word bytes) n f))

pub maybe_moment-read : (bytes : List ℕ) → TakesTokens (Option ℕ) (IsOptional IsMomentToken) bytes (maybe_moment bytes)
unfolding maybe_moment
maybe_moment-read bytes = maybe-read ℕ IsMomentToken (moment_of (next_word bytes)) bytes (λ n f. (moment_of-start (next_word bytes) n f, moment_of-read (next_word bytes) n f))

-- a word that stands next
pub next_so : (word bytes : List ℕ) → next_word bytes ≡ word → IsStart word → Next word bytes (behind_next bytes)
next_so word bytes e start = subst (λ t. Next t bytes (behind_next bytes)) e (word_next bytes (subst IsStart (sym e) start))

pub after_word-read : (word bytes rest : List ℕ) → after_word word bytes ≡ Some rest → IsStart word → Next word bytes rest
unfolding after_word
after_word-read word bytes rest e start =
    let h = cond_some {A = List ℕ} (same (next_word bytes) word) (behind_next bytes) rest e in
    subst (λ r. Next word bytes r) h.1 (next_so word bytes (same-read (next_word bytes) word h.0) start)

hex_by : (high low : ℕ) (ds : List ℕ) (r : Option ℕ) (s : Option (List ℕ)) (bytes : List ℕ) → hex_pair high low ≡ r → ((bs : List ℕ) → s ≡ Some bs → IsHex ds bs)
    → byte_onto r s ≡ Some bytes → IsHex (high ∷ low ∷ ds) bytes
hex_by high low ds None s bytes eq more e = cc
hex_by high low ds (Some b) None bytes eq more e = cc
hex_by high low ds (Some b) (Some bs) bytes eq more e =
    let found : IsHex (high ∷ low ∷ ds) (b ∷ bs) = (eq, more bs refl) in
    subst (IsHex (high ∷ low ∷ ds)) (some_same (List ℕ) (b ∷ bs) bytes e) found

hex_of-read : (digits bytes : List ℕ) → hex_of digits ≡ Some bytes → IsHex digits bytes
unfolding hex_of
hex_of-read [] bytes e = subst (IsHex []) (some_same (List ℕ) [] bytes e) tt
hex_of-read (h ∷ []) bytes e = cc
hex_of-read (h ∷ l ∷ ds) bytes e = hex_by h l ds (hex_pair h l) (hex_of ds) bytes refl (hex_of-read ds) e

int_by : (word : List ℕ) (r : Option ℤ) (value : Value) → integer_of word ≡ r → option_map Int r ≡ Some value → IsLit word value
int_by word None value eq e = cc
int_by word (Some x) value eq e = subst (IsLit word) (some_same Value (Int x) value e) (integer_of-read word x eq)

blob_by : (word digits : List ℕ) (r : Option (List ℕ)) (value : Value) → word ≡ codes "0x" ++ digits → hex_of digits ≡ r → option_map Blob r ≡ Some value → IsLit word value
blob_by word digits None value spelled eq e = cc
blob_by word digits (Some bytes) value spelled eq e =
    let found : IsBlob word bytes = record { digits = digits; spelled = spelled; pairs = hex_of-read digits bytes eq } in
    subst (IsLit word) (some_same Value (Blob bytes) value e) found

value_by : (word : List ℕ) (r : Option (List ℕ)) (value : Value) → after (codes "0x") word ≡ r → word_value_by r word ≡ Some value → IsLit word value
value_by word None value eq e = int_by word (integer_of word) value refl e
value_by word (Some digits) value eq e = blob_by word digits (hex_of digits) value (after-read (codes "0x") word digits eq) refl e

word_value-read : (word : List ℕ) (value : Value) → word_value word ≡ Some value → IsLit word value
unfolding word_value
word_value-read word value e = value_by word (after (codes "0x") word) value refl e

pub word_value-start : (word : List ℕ) (value : Value) → word_value word ≡ Some value → IsStart word
unfolding word_value after integer_of integer_at unsigned_at count_at
word_value-start word value e = start_by Value word_value word value e refl (λ ws. refl)

-- a literal in front
record TakesLit (here : List ℕ) (p : Value × List ℕ) : Type 0 where
  token : List ℕ
  spelled : here ≡ token ++ p.1
  is : IsToken token
  lit : IsLit token p.0
  ended : is_ended p.1 ≡ true

word_lit : (here : List ℕ) (r : Option Value) (p : Value × List ℕ) → word_value (word_of here) ≡ r → beside (behind here) r ≡ Some p → TakesLit here p
unfolding word_of behind
word_lit here None p eq e = cc
word_lit here (Some value) p eq e =
    let start = word_value-start (word_of here) value eq in
    let found : TakesLit here (value, behind here) = record {
      token = word_of here;
      spelled = sym (take-append-drop (prefix_len is_solid here) here);
      is = inl (record { some = start.some; solid = all_front is_solid here; bare = start.bare });
      lit = word_value-read (word_of here) value eq;
      ended = drop_ended here;
    } in
    subst (TakesLit here) (some_same (Value × List ℕ) (value, behind here) p e) found

quote_spelled : (body rest : List ℕ) → 34 ∷ (body ++ 34 ∷ rest) ≡ ((codes "\"" ++ body) ++ codes "\"") ++ rest
quote_spelled body rest = ap (λ l. 34 ∷ l) (sym (append_assoc body (34 ∷ []) rest))

text_lit : (bs : List ℕ) (q : List ℕ × List ℕ) (r : Option (List ℕ)) (p : Value × List ℕ) → TakesBody bs q → utf8_of q.0 ≡ r → is_ended q.1 ≡ true → text_beside q.1 r ≡ Some p → TakesLit (34 ∷ bs) p
text_lit bs q None p t eq ended e = cc
text_lit bs q (Some text) p t eq ended e =
    let utf8 = utf8_of-read q.0 text eq in
    let token = (codes "\"" ++ t.body) ++ codes "\"" in
    let is : IsText token text = record { body = t.body; spelled = refl; pieces = subst (IsBody t.body) utf8.1 t.pieces; utf8 = subst IsUtf8 utf8.1 utf8.0 } in
    let found : TakesLit (34 ∷ bs) (Text text, q.1) = record {
      token = token;
      spelled = ap (λ l. 34 ∷ l) t.spelled ∙ quote_spelled t.body q.1;
      is = inr (text, is);
      lit = is;
      ended = ended;
    } in
    subst (TakesLit (34 ∷ bs)) (some_same (Value × List ℕ) (Text text, q.1) p e) found

ended_text : (t : Bool) (bs : List ℕ) (q : List ℕ × List ℕ) (p : Value × List ℕ) → TakesBody bs q → is_ended q.1 ≡ t → (if t then text_beside q.1 (utf8_of q.0) else None) ≡ Some p → TakesLit (34 ∷ bs) p
ended_text true bs q p t eq e = text_lit bs q (utf8_of q.0) p t refl eq e
ended_text false bs q p t eq e = cc

body_lit : (bs : List ℕ) (r : Option (List ℕ × List ℕ)) (p : Value × List ℕ) → quoted_at bs ≡ r → text_by r ≡ Some p → TakesLit (34 ∷ bs) p
unfolding quoted_at
body_lit bs None p eq e = cc
body_lit bs (Some q) p eq e = ended_text (is_ended q.1) bs q p (quoted-read (length bs) bs q eq) refl e

behind_lit : (bs : List ℕ) (p : Value × List ℕ) → text_behind bs ≡ Some p → TakesLit (34 ∷ bs) p
unfolding text_behind
behind_lit bs p e = body_lit bs (quoted_at bs) p refl e

here_by : (t : Bool) (b : ℕ) (bs : List ℕ) (p : Value × List ℕ) → nat_eq b 34 ≡ t → (if t then text_behind (drop 1 (b ∷ bs)) else beside (behind (b ∷ bs)) (word_value (word_of (b ∷ bs)))) ≡ Some p → TakesLit (b ∷ bs) p
here_by true b bs p eq e = subst (λ c. TakesLit (c ∷ bs) p) (sym (eqb-true b 34 eq)) (behind_lit bs p e)
here_by false b bs p eq e = word_lit (b ∷ bs) (word_value (word_of (b ∷ bs))) p refl e

here-read : (here : List ℕ) (p : Value × List ℕ) → literal_here here ≡ Some p → TakesLit here p
unfolding literal_here
here-read [] p e = word_lit [] (word_value (word_of [])) p refl e
here-read (b ∷ bs) p e = here_by (nat_eq b 34) b bs p refl e

pub literal_at-read : (bytes : List ℕ) (p : Value × List ℕ) → literal_at bytes ≡ Some p → TakesToken Value IsLit bytes p
unfolding literal_at skipped
literal_at-read bytes p e =
    let n = prefix_len is_space bytes in
    let t = here-read (skipped bytes) p e in
    let next : Next t.token bytes p.1 = record {
      gap = take n bytes;
      spelled = sym (take-append-drop n bytes) ∙ ap (λ l. take n bytes ++ l) t.spelled;
      spaces = all_front is_space bytes;
      is = t.is;
      ended = t.ended;
    } in
    record { token = t.token; next = next; is = t.lit }

literals_by-read : (more : List ℕ → List Value × List ℕ) (r : Option (Value × List ℕ)) (bytes : List ℕ) → literal_at bytes ≡ r → ((rest : List ℕ) → TakesTokens (List Value) AreLits rest (more rest))
    → TakesTokens (List Value) AreLits bytes (literals_by more r bytes)
literals_by-read more None bytes eq others = record { tokens = []; front = refl; is = tt }
literals_by-read more (Some q) bytes eq others =
    let t = literal_at-read bytes q eq in
    let later = others q.1 in
    record { tokens = t.token ∷ later.tokens; front = (q.1, t.next, later.front); is = (t.is, later.is) }

pub literals-read : (n : ℕ) (bytes : List ℕ) → TakesTokens (List Value) AreLits bytes (literals_within n bytes)
unfolding literals_within
literals-read zero bytes = record { tokens = []; front = refl; is = tt }
literals-read (suc n) bytes = literals_by-read (literals_within n) (literal_at bytes) bytes refl (literals-read n)

pub literals_at-read : (bytes : List ℕ) → TakesTokens (List Value) AreLits bytes (literals_at bytes)
unfolding literals_at
literals_at-read bytes = literals-read (length bytes) bytes
