-- What is read is spelled in no other way.
use Rattle.std.proofs.Common.{◌≡◌, ℕ, suc, ◌+◌, ◌-◌, ◌^◌, ◌<◌, ◌≤◌, ℤ, pos, negsuc, Bool, true, false, cond, eqb, ◌&&◌, List, [], ◌∷◌, ◌++◌, length, get_or, take, drop, refl, sym, ap, subst, ◌∙◌, arith, append_assoc, append-nil, inl, inr}
use Rattle.std.specs.Prelude.{IsTrue, nat_lt, Option, Some, None, option_map, option_and_then, Result, Ok, Err, All}
use Rattle.std.specs.List.{list_all}
use Rattle.std.specs.Result.{result_ok}
use Rattle.std.specs.Int.{Width, w32, w64, to_be_bytes, from_be_bytes, cast_signed, cast_unsigned}
use Rattle.std.specs.Str.{is_utf8}
use Rattle.std.proofs.lemmas.Nat.{be_bytes_4, be_bytes_8}
use Rattle.std.proofs.lemmas.List.{length-append, length-drop, length-take, take-append-drop, get_or_past}
use Rattle.std.proofs.lemmas.List.Elements.{All-get_or, All-take, All-drop, All-tail}
use Rattle.std.proofs.lemmas.Int.{of_z-to_z}
use Rattle.std.proofs.lemmas.Bool.{cases_lt, ltb-false, leb-true}
use Rattle.std.proofs.lemmas.Bool.Decides.{nat_tests}
use Rattle.lt_schema.specs.declared.kind.Kind.{Kind}
use Rattle.lt_schema.specs.declared.kind.Kind.TheVariants.{Int32, Int64, Time, Text as TextKind, Blob as BlobKind}
use Rattle.lt_schema.specs.declared.value.Value.{Value}
use Rattle.lt_schema.specs.declared.value.Value.TheVariants.{Int, Text}
use Rattle.lt_schema.specs.Shapes.{ColumnShape, SchemaShape}
use Rattle.lt_schema.specs.Lawful.{is_schema}
use Rattle.lt_schema.specs.Values.{is_of_kind}
use Rattle.lt_schema.specs.Check.{wrong_kind_from}
use Rattle.lt_schema.proofs.Growing.{both_true, lawful_from}
use Rattle.lt_codec.specs.Spelling.{turned, escaped, in_key, in_body, spelled_by, key_columns, body_columns}
use Rattle.lt_codec.specs.Ordering.{IsSpelling, is_word, fits_word, is_text}
use Rattle.lt_rec.specs.Reading.{◌>>=◌, or_fault, ended}
use Rattle.lt_codec.specs.Reading.{number_of, bytes_of, counted_at, behind, unescaped, turned_back, number_as, text_as, bytes_as, if_of_kind, any_in_key, in_key_at, any_in_body, in_body_at, values_at, all_at, behind_values, row_at}

abbrev pub AreBytes : List ℕ → Type 0
AreBytes = All (λ b. b < 2 ^ 8)

-- ---- what a step gave

some_is : {A : Type 0} (x y : A) → Some x ≡ Some y → x ≡ y
some_is x y e = cc

pub then_gave : {A B : Type 0} (f : A → Option B) (o : Option A) (y : B) → option_and_then f o ≡ Some y → (x : A) × (o ≡ Some x) × (f x ≡ Some y)
then_gave f None y e = absurd cc
then_gave f (Some x) y e = (x, refl, e)

pub map_gave : {A B : Type 0} (f : A → B) (o : Option A) (y : B) → option_map f o ≡ Some y → (x : A) × (o ≡ Some x) × (f x ≡ y)
map_gave f None y e = absurd cc
map_gave f (Some x) y e = (x, refl, some_is (f x) y e)

bind_gave : {A B : Type 0} (r : Result A ℕ) (f : A → Result B ℕ) (y : B) → (r >>= f) ≡ Ok y → (x : A) × (r ≡ Ok x) × (f x ≡ Ok y)
bind_gave (Ok x) f y e = (x, refl, e)
bind_gave (Err at) f y e = absurd cc

-- what a field of so many bytes gives
abbrev given : {A : Type 0} → Bool → A → Result A ℕ
given short x = cond short (Err 0) (Ok x)

unless_gave : {A : Type 0} (b : Bool) (x y : A) → result_ok (given b x) ≡ Some y → (b ≡ false) × (x ≡ y)
unless_gave true x y e = absurd cc
unless_gave false x y e = (refl, some_is x y e)

if_gave : {A : Type 0} (b : Bool) (x y : A) → cond b (Some x) None ≡ Some y → (b ≡ true) × (x ≡ y)
if_gave true x y e = (refl, some_is x y e)
if_gave false x y e = absurd cc

abbrev done : {A : Type 0} → A → Result A ℕ
done x = Ok x

pair_is : {A : Type 0} (x y : A) → done x ≡ done y → x ≡ y
pair_is x y e = cc

ok_gave : {A : Type 0} (o : Option A) (at : ℕ) (x : A) → or_fault o at ≡ Ok x → o ≡ Some x
ok_gave None at x e = absurd cc
ok_gave (Some y) at x e = cc

-- ---- numbers

is_byte : (bytes : List ℕ) (i : ℕ) → AreBytes bytes → get_or bytes i 0 < 256
is_byte bytes i are = elim (cases_lt i (length bytes)) [
  | inl lt ↦ All-get_or (λ b. b < 2 ^ 8) bytes i 0 lt are
  | inr le ↦ rw (get_or_past bytes i 0 le) (omega arith)
]

-- a number of eight bytes, and what stands behind it
record Took (w : Width) (limit : ℕ) (bytes : List ℕ) (x : ℕ × List ℕ) : Type 0 where
  parts : bytes ≡ to_be_bytes w x.0 ++ x.1
  rest : AreBytes x.1
  below : x.0 < limit

took_8 : (bytes : List ℕ) (x : ℕ × List ℕ) → AreBytes bytes → number_of w64 bytes ≡ Some x → Took w64 (2 ^ 64) bytes x
took_8 bytes x are e =
    let g = unless_gave (nat_lt (length bytes) 8) (from_be_bytes w64 (take 8 bytes), drop 8 bytes) x e in
    let long : 8 ≤ length bytes = ltb-false _ _ g.0 in
    let front = All-take (λ b. b < 2 ^ 8) 8 bytes are in
    let fits = λ (i : ℕ). is_byte (take 8 bytes) i front in
    let back : to_be_bytes w64 (from_be_bytes w64 (take 8 bytes)) ≡ take 8 bytes = be_bytes_8 (take 8 bytes) _ (omega (arith, length-take 8 bytes)) fits refl in
    subst (Took w64 (2 ^ 64) bytes) g.1 (record {
      parts = sym (ap (λ (t : List ℕ). t ++ drop 8 bytes) back ∙ take-append-drop 8 bytes);
      rest = All-drop (λ b. b < 2 ^ 8) 8 bytes are;
      below = omega (arith, fits 0, fits 1, fits 2, fits 3, fits 4, fits 5, fits 6, fits 7);
    })

took_4 : (bytes : List ℕ) (x : ℕ × List ℕ) → AreBytes bytes → number_of w32 bytes ≡ Some x → Took w32 (2 ^ 32) bytes x
took_4 bytes x are e =
    let g = unless_gave (nat_lt (length bytes) 4) (from_be_bytes w32 (take 4 bytes), drop 4 bytes) x e in
    let long : 4 ≤ length bytes = ltb-false _ _ g.0 in
    let front = All-take (λ b. b < 2 ^ 8) 4 bytes are in
    let fits = λ (i : ℕ). is_byte (take 4 bytes) i front in
    let back : to_be_bytes w32 (from_be_bytes w32 (take 4 bytes)) ≡ take 4 bytes = be_bytes_4 (take 4 bytes) _ (omega (arith, length-take 4 bytes)) fits refl in
    subst (Took w32 (2 ^ 32) bytes) g.1 (record {
      parts = sym (ap (λ (t : List ℕ). t ++ drop 4 bytes) back ∙ take-append-drop 4 bytes);
      rest = All-drop (λ b. b < 2 ^ 8) 4 bytes are;
      below = omega (arith, fits 0, fits 1, fits 2, fits 3);
    })

-- a number that had 2^63 added
record Turns (n : ℕ) (z : ℤ) : Type 0 where
  back : turned z ≡ n
  word : IsTrue (is_word z)

turns_by : (b : Bool) (n : ℕ) (x y : ℤ) → (b ≡ true → Turns n x) → (b ≡ false → Turns n y) → Turns n (cond b x y)
turns_by true n x y below above = below refl
turns_by false n x y below above = above refl

turns : (n : ℕ) → n < 2 ^ 64 → Turns n (turned_back n)
turns n below =
    turns_by (nat_lt n (2 ^ 63)) n (negsuc (2 ^ 63 - 1 - n)) (pos (n - 2 ^ 63))
    (λ less. let lt : n < 2 ^ 63 = grind (arith, nat_tests) in record { back = omega arith; word = grind (arith, nat_tests) })
    (λ more. let ge : 2 ^ 63 ≤ n = grind (arith, nat_tests) in record { back = omega arith; word = grind (arith, nat_tests) })

-- ---- escaped texts

-- a text that ends in 00 00, and what stands behind it; the flag says that a 00 went before
abbrev Told : Bool → List ℕ → List ℕ × List ℕ → Type 0
Told false bytes x = bytes ≡ escaped x.0 ++ x.1
Told true bytes x = 0 ∷ bytes ≡ escaped x.0 ++ x.1

record IsTold (zero_went : Bool) (bytes : List ℕ) (x : List ℕ × List ℕ) : Type 0 where
  parts : Told zero_went bytes x
  rest : AreBytes x.1

zero_by : (nil full : Bool) (b : ℕ) (bs : List ℕ) (x : List ℕ × List ℕ) → eqb b 0 ≡ nil → eqb b 255 ≡ full → AreBytes bs
    → cond nil (Some ([], bs)) (cond full (option_map (behind 0) (unescaped false bs)) None) ≡ Some x
    → ((y : List ℕ × List ℕ) → unescaped false bs ≡ Some y → IsTold false bs y) → IsTold true (b ∷ bs) x
unfolding escaped
zero_by true full b bs x nil_is full_is are e further =
    let none : b ≡ 0 = grind (arith, nat_tests) in
    subst (IsTold true (b ∷ bs)) (some_is ([], bs) x e) (record { parts = ap (λ (c : ℕ). 0 ∷ c ∷ bs) none; rest = are })
zero_by false true b bs x nil_is full_is are e further =
    let most : b ≡ 255 = grind (arith, nat_tests) in
    let m = map_gave (behind 0) (unescaped false bs) x e in
    let t = further m.0 m.1 in
    subst (IsTold true (b ∷ bs)) m.2 (record { parts = ap (λ (c : ℕ). 0 ∷ c ∷ bs) most ∙ ap (λ (l : List ℕ). 0 ∷ 255 ∷ l) t.parts; rest = t.rest })
zero_by false false b bs x nil_is full_is are e further = absurd cc

plain_by : (nil : Bool) (b : ℕ) (bs : List ℕ) (x : List ℕ × List ℕ) → eqb b 0 ≡ nil
    → cond nil (unescaped true bs) (option_map (behind b) (unescaped false bs)) ≡ Some x
    → ((y : List ℕ × List ℕ) → unescaped true bs ≡ Some y → IsTold true bs y) → ((y : List ℕ × List ℕ) → unescaped false bs ≡ Some y → IsTold false bs y) → IsTold false (b ∷ bs) x
unfolding escaped
plain_by true b bs x nil_is e past further =
    let none : b ≡ 0 = grind (arith, nat_tests) in
    let t = past x e in
    record { parts = ap (λ (c : ℕ). c ∷ bs) none ∙ t.parts; rest = t.rest }
plain_by false b bs x nil_is e past further =
    let m = map_gave (behind b) (unescaped false bs) x e in
    let t = further m.0 m.1 in
    subst (IsTold false (b ∷ bs)) m.2 (record { parts = rw nil_is (ap (λ (l : List ℕ). b ∷ l) t.parts); rest = t.rest })

told : (zero_went : Bool) (bytes : List ℕ) (x : List ℕ × List ℕ) → AreBytes bytes → unescaped zero_went bytes ≡ Some x → IsTold zero_went bytes x
unfolding unescaped
told false [] x are e = absurd cc
told true [] x are e = absurd cc
told false (b ∷ bs) x are e =
    let rest = All-tail (λ b. b < 2 ^ 8) b bs are in
    plain_by (eqb b 0) b bs x refl e (λ y gave. told true bs y rest gave) (λ y gave. told false bs y rest gave)
told true (b ∷ bs) x are e =
    let rest = All-tail (λ b. b < 2 ^ 8) b bs are in
    zero_by (eqb b 0) (eqb b 255) b bs x refl refl rest e (λ y gave. told false bs y rest gave)

-- bytes behind their length
record Counted (bytes : List ℕ) (x : List ℕ × List ℕ) : Type 0 where
  parts : bytes ≡ (to_be_bytes w32 (length x.0) ++ x.0) ++ x.1
  rest : AreBytes x.1

taken_by : (n : ℕ) (bytes : List ℕ) (x : List ℕ × List ℕ) → AreBytes bytes → bytes_of n bytes ≡ Some x → (bytes ≡ x.0 ++ x.1) × (length x.0 ≡ n) × AreBytes x.1
taken_by n bytes x are e =
    let g = unless_gave (nat_lt (length bytes) n) (take n bytes, drop n bytes) x e in
    let long : n ≤ length bytes = ltb-false _ _ g.0 in
    subst (λ (p : List ℕ × List ℕ). (bytes ≡ p.0 ++ p.1) × (length p.0 ≡ n) × AreBytes p.1) g.1
    (sym (take-append-drop n bytes), omega (arith, length-take n bytes), All-drop (λ b. b < 2 ^ 8) n bytes are)

counted : (bytes : List ℕ) (x : List ℕ × List ℕ) → AreBytes bytes → counted_at bytes ≡ Some x → Counted bytes x
unfolding counted_at
counted bytes x are e =
    let g = then_gave (λ n. bytes_of n.0 n.1) (number_of w32 bytes) x e in
    let n = g.0 in
    let took = took_4 bytes n are g.1 in
    let t = taken_by n.0 n.1 x took.rest g.2 in
    record {
      parts = took.parts ∙ ap (λ (l : List ℕ). to_be_bytes w32 n.0 ++ l) t.0 ∙ sym (append_assoc (to_be_bytes w32 n.0) x.0 x.1) ∙ ap (λ (m : ℕ). (to_be_bytes w32 m ++ x.0) ++ x.1) (sym t.1);
      rest = t.2;
    }

-- ---- one value

-- the bytes begin with the value, which is of the kind
record Gave (spelled : Kind → Value → List ℕ) (kind : Kind) (bytes : List ℕ) (x : Value × List ℕ) : Type 0 where
  parts : bytes ≡ spelled kind x.0 ++ x.1
  rest : AreBytes x.1
  kind_is : IsTrue (is_of_kind kind x.0)
  word : IsTrue (fits_word x.0)
  text : IsTrue (is_text x.0)

-- the same, before the kind was asked
record Read (spelled : Kind → Value → List ℕ) (kind : Kind) (bytes : List ℕ) (x : Value × List ℕ) : Type 0 where
  parts : IsTrue (is_of_kind kind x.0) → bytes ≡ spelled kind x.0 ++ x.1
  rest : AreBytes x.1
  word : IsTrue (is_of_kind kind x.0) → IsTrue (fits_word x.0)
  text : IsTrue (is_text x.0)

moment_back : (z : ℤ) (n : ℕ) → cast_unsigned w64 z ≡ n → IsTrue (is_of_kind Time (Int z)) → to_be_bytes w64 n ≡ in_key Time (Int z)
unfolding in_key
moment_back (pos m) n same is = ap (to_be_bytes w64) (sym same)
moment_back (negsuc m) n same is = absurd cc

moment_word : (z : ℤ) → IsTrue (is_of_kind Time (Int z)) → IsTrue (is_word z)
moment_word (pos m) is = grind (arith, nat_tests)
moment_word (negsuc m) is = absurd cc

narrow_word : (z : ℤ) → IsTrue (is_of_kind Int32 (Int z)) → IsTrue (is_word z)
narrow_word (pos m) is = grind (arith, nat_tests)
narrow_word (negsuc m) is = grind (arith, nat_tests)

text_gave : (x : List ℕ × List ℕ) (y : Value × List ℕ) → text_as x ≡ Some y → IsTrue (is_utf8 x.0) × ((Text x.0, x.1) ≡ y)
text_gave x y e = if_gave (is_utf8 x.0) (Text x.0, x.1) y e

key_number_read : (kind : Kind) (bytes : List ℕ) (y : Value × List ℕ) → ((z : ℤ) → in_key kind (Int z) ≡ to_be_bytes w64 (turned z)) → AreBytes bytes → option_map (number_as turned_back) (number_of w64 bytes) ≡ Some y → Read in_key kind bytes y
key_number_read kind bytes y form are e =
    let m = map_gave (number_as turned_back) (number_of w64 bytes) y e in
    let n = m.0 in
    let took = took_8 bytes n are m.1 in
    let t = turns n.0 took.below in
    subst (Read in_key kind bytes) m.2 (record {
      parts = λ is. took.parts ∙ ap (λ (l : List ℕ). l ++ n.1) (ap (to_be_bytes w64) (sym t.back) ∙ sym (form (turned_back n.0)));
      rest = took.rest;
      word = λ is. t.word;
      text = refl;
    })

any_key_read : (kind : Kind) (bytes : List ℕ) (y : Value × List ℕ) → AreBytes bytes → any_in_key kind bytes ≡ Some y → Read in_key kind bytes y
unfolding in_key
any_key_read Int32 bytes y are e = key_number_read Int32 bytes y (λ z. refl) are e
any_key_read Int64 bytes y are e = key_number_read Int64 bytes y (λ z. refl) are e
any_key_read Time bytes y are e =
    let m = map_gave (number_as (cast_signed w64)) (number_of w64 bytes) y e in
    let n = m.0 in
    let took = took_8 bytes n are m.1 in
    subst (Read in_key Time bytes) m.2 (record {
      parts = λ is. took.parts ∙ ap (λ (l : List ℕ). l ++ n.1) (moment_back (cast_signed w64 n.0) n.0 (of_z-to_z w64 n.0 took.below) is);
      rest = took.rest;
      word = λ is. moment_word (cast_signed w64 n.0) is;
      text = refl;
    })
any_key_read TextKind bytes y are e =
    let g = then_gave text_as (unescaped false bytes) y e in
    let t = told false bytes g.0 are g.1 in
    let u = text_gave g.0 y g.2 in
    subst (Read in_key TextKind bytes) u.1 (record { parts = λ is. t.parts; rest = t.rest; word = λ is. refl; text = u.0 })
any_key_read BlobKind bytes y are e =
    let m = map_gave bytes_as (unescaped false bytes) y e in
    let t = told false bytes m.0 are m.1 in
    subst (Read in_key BlobKind bytes) m.2 (record { parts = λ is. t.parts; rest = t.rest; word = λ is. refl; text = refl })

word_is : (n : ℕ) → n < 2 ^ 64 → IsTrue (is_word (cast_signed w64 n))
word_is n below = elim (cases_lt n (2 ^ 63)) [
  | inl lt ↦ let less : nat_lt n (2 ^ 63) ≡ true = grind (arith, nat_tests) in rw less less
  | inr le ↦ let more : nat_lt n (2 ^ 63) ≡ false = grind (arith, nat_tests) in rw more (grind (arith, nat_tests))
]

body_word_read : (kind : Kind) (bytes : List ℕ) (y : Value × List ℕ) → ((z : ℤ) → in_body kind (Int z) ≡ to_be_bytes w64 (cast_unsigned w64 z)) → AreBytes bytes → option_map (number_as (cast_signed w64)) (number_of w64 bytes) ≡ Some y → Read in_body kind bytes y
body_word_read kind bytes y form are e =
    let m = map_gave (number_as (cast_signed w64)) (number_of w64 bytes) y e in
    let n = m.0 in
    let took = took_8 bytes n are m.1 in
    subst (Read in_body kind bytes) m.2 (record {
      parts = λ is. took.parts ∙ ap (λ (l : List ℕ). l ++ n.1) (ap (to_be_bytes w64) (sym (of_z-to_z w64 n.0 took.below)) ∙ sym (form (cast_signed w64 n.0)));
      rest = took.rest;
      word = λ is. word_is n.0 took.below;
      text = refl;
    })

any_body_read : (kind : Kind) (bytes : List ℕ) (y : Value × List ℕ) → AreBytes bytes → any_in_body kind bytes ≡ Some y → Read in_body kind bytes y
unfolding in_body
any_body_read Int32 bytes y are e =
    let m = map_gave (number_as (cast_signed w32)) (number_of w32 bytes) y e in
    let n = m.0 in
    let took = took_4 bytes n are m.1 in
    subst (Read in_body Int32 bytes) m.2 (record {
      parts = λ is. took.parts ∙ ap (λ (l : List ℕ). l ++ n.1) (ap (to_be_bytes w32) (sym (of_z-to_z w32 n.0 took.below)));
      rest = took.rest;
      word = λ is. narrow_word (cast_signed w32 n.0) is;
      text = refl;
    })
any_body_read Int64 bytes y are e = body_word_read Int64 bytes y (λ z. refl) are e
any_body_read Time bytes y are e = body_word_read Time bytes y (λ z. refl) are e
any_body_read TextKind bytes y are e =
    let g = then_gave text_as (counted_at bytes) y e in
    let t = counted bytes g.0 are g.1 in
    let u = text_gave g.0 y g.2 in
    subst (Read in_body TextKind bytes) u.1 (record { parts = λ is. t.parts; rest = t.rest; word = λ is. refl; text = u.0 })
any_body_read BlobKind bytes y are e =
    let m = map_gave bytes_as (counted_at bytes) y e in
    let t = counted bytes m.0 are m.1 in
    subst (Read in_body BlobKind bytes) m.2 (record { parts = λ is. t.parts; rest = t.rest; word = λ is. refl; text = refl })

of_kind : (spelled : Kind → Value → List ℕ) (kind : Kind) (bytes : List ℕ) (y x : Value × List ℕ) → Read spelled kind bytes y → if_of_kind kind y ≡ Some x → Gave spelled kind bytes x
of_kind spelled kind bytes y x r e =
    let g = if_gave (is_of_kind kind y.0) y x e in
    subst (Gave spelled kind bytes) g.1 (record { parts = r.parts g.0; rest = r.rest; kind_is = g.0; word = r.word g.0; text = r.text })

-- ---- lists of values

abbrev GivesBack : (Kind → List ℕ → Option (Value × List ℕ)) → (Kind → Value → List ℕ) → Type 0
GivesBack reads spelled = (kind : Kind) (bytes : List ℕ) (x : Value × List ℕ) → AreBytes bytes → reads kind bytes ≡ Some x → Gave spelled kind bytes x

key_gives : GivesBack in_key_at in_key
unfolding in_key_at
key_gives kind bytes x are e =
    let g = then_gave (if_of_kind kind) (any_in_key kind bytes) x e in
    of_kind in_key kind bytes g.0 x (any_key_read kind bytes g.0 are g.1) g.2

body_gives : GivesBack in_body_at in_body
unfolding in_body_at
body_gives kind bytes x are e =
    let g = then_gave (if_of_kind kind) (any_in_body kind bytes) x e in
    of_kind in_body kind bytes g.0 x (any_body_read kind bytes g.0 are g.1) g.2

-- the bytes begin with these values
record Gave_all (spelled : Kind → Value → List ℕ) (columns : List ColumnShape) (bytes : List ℕ) (values : List Value) (left : List ℕ) : Type 0 where
  parts : bytes ≡ spelled_by spelled columns values ++ left
  arity : length values ≡ length columns
  kinds : (i : ℕ) → wrong_kind_from i columns values ≡ None
  words : IsTrue (list_all fits_word values)
  texts : IsTrue (list_all is_text values)

both : (a b : Bool) → IsTrue a → IsTrue b → IsTrue (a && b)
both true b a_is b_is = b_is
both false b a_is b_is = absurd cc

values_gave : (reads : Kind → List ℕ → Option (Value × List ℕ)) (spelled : Kind → Value → List ℕ) → GivesBack reads spelled → (end : ℕ) (columns : List ColumnShape) (bytes : List ℕ) (x : List Value × List ℕ) → AreBytes bytes
    → values_at reads end columns bytes ≡ Ok x → Gave_all spelled columns bytes x.0 x.1
unfolding values_at
values_gave reads spelled gives end [] bytes x are e =
    subst (λ (p : List Value × List ℕ). Gave_all spelled [] bytes p.0 p.1) (pair_is ([], bytes) x e) (record { parts = refl; arity = refl; kinds = λ i. refl; words = refl; texts = refl })
values_gave reads spelled gives end (column ∷ columns) bytes x are e =
    let a = bind_gave (or_fault (reads column.kind bytes) (end - length bytes)) (λ first. values_at reads end columns first.1 >>= λ others. Ok (first.0 ∷ others.0, others.1)) x e in
    let first = a.0 in
    let b = bind_gave (values_at reads end columns first.1) (λ others. Ok (first.0 ∷ others.0, others.1)) x a.2 in
    let others = b.0 in
    let one = gives column.kind bytes first are (ok_gave (reads column.kind bytes) (end - length bytes) first a.1) in
    let more = values_gave reads spelled gives end columns first.1 others one.rest b.1 in
    subst (λ (p : List Value × List ℕ). Gave_all spelled (column ∷ columns) bytes p.0 p.1) (pair_is (first.0 ∷ others.0, others.1) x b.2) (record {
      parts = one.parts ∙ ap (λ (l : List ℕ). spelled column.kind first.0 ++ l) more.parts ∙ sym (append_assoc (spelled column.kind first.0) (spelled_by spelled columns others.0) others.1);
      arity = ap suc more.arity;
      kinds = λ i. rw one.kind_is (more.kinds (i + 1));
      words = both (fits_word first.0) (list_all fits_word others.0) one.word more.words;
      texts = both (is_text first.0) (list_all is_text others.0) one.text more.texts;
    })

ended_gave : {A : Type 0} (b : Bool) (x row : A) (at : ℕ) → cond b (done x) (Err at) ≡ done row → (b ≡ true) × (x ≡ row)
ended_gave true x row at e = (refl, pair_is x row e)
ended_gave false x row at e = absurd cc

none_left : (left : List ℕ) → eqb (length left) 0 ≡ true → left ≡ []
none_left [] e = refl
none_left (b ∷ left) e = absurd (grind (arith, nat_tests))

all_gave : (reads : Kind → List ℕ → Option (Value × List ℕ)) (spelled : Kind → Value → List ℕ) → GivesBack reads spelled → (end : ℕ) (columns : List ColumnShape) (bytes : List ℕ) (row : List Value) → AreBytes bytes
    → all_at reads end columns bytes ≡ Ok row → Gave_all spelled columns bytes row []
all_gave reads spelled gives end columns bytes row are e =
    let a = bind_gave (values_at reads end columns bytes) (ended end) row e in
    let x = a.0 in
    let g = ended_gave (eqb (length x.1) 0) x.0 row (end - length x.1) a.2 in
    let h = values_gave reads spelled gives end columns bytes x are a.1 in
    subst (λ (r : List Value). Gave_all spelled columns bytes r []) g.1 (subst (Gave_all spelled columns bytes x.0) (none_left x.1 g.0) h)

-- ---- the values of the key and those behind it

front_of : (spelled : Kind → Value → List ℕ) (columns : List ColumnShape) (front back : List Value) → length front ≡ length columns → spelled_by spelled columns (front ++ back) ≡ spelled_by spelled columns front
front_of spelled [] [] back same = refl
front_of spelled [] (value ∷ front) back same = absurd (omega arith)
front_of spelled (column ∷ columns) [] back same = absurd (omega arith)
front_of spelled (column ∷ columns) (value ∷ front) back same = ap (λ (l : List ℕ). spelled column.kind value ++ l) (front_of spelled columns front back (omega arith))

back_of : (front back : List Value) → drop (length front) (front ++ back) ≡ back
back_of [] back = refl
back_of (value ∷ front) back = back_of front back

kind_joined : (b : Bool) (at : ℕ) (rest after : Option ℕ) → cond b rest (Some at) ≡ None → (rest ≡ None → after ≡ None) → cond b after (Some at) ≡ None
kind_joined true at rest after none more = more none
kind_joined false at rest after none more = absurd cc

kinds_joined : (i : ℕ) (columns others : List ColumnShape) (front back : List Value) → length front ≡ length columns → wrong_kind_from i columns front ≡ None → ((k : ℕ) → wrong_kind_from k others back ≡ None) → wrong_kind_from i (columns ++ others) (front ++ back) ≡ None
kinds_joined i [] others [] back same front_is back_is = back_is i
kinds_joined i [] others (value ∷ front) back same front_is back_is = absurd (omega arith)
kinds_joined i (column ∷ columns) others [] back same front_is back_is = absurd (omega arith)
kinds_joined i (column ∷ columns) others (value ∷ front) back same front_is back_is =
    kind_joined (is_of_kind column.kind value) i (wrong_kind_from (i + 1) columns front) (wrong_kind_from (i + 1) (columns ++ others) (front ++ back)) front_is
    (λ none. kinds_joined (i + 1) columns others front back (omega arith) none back_is)

all_joined : (test : Value → Bool) (front back : List Value) → IsTrue (list_all test front) → IsTrue (list_all test back) → IsTrue (list_all test (front ++ back))
all_joined test [] back front_is back_is = back_is
all_joined test (value ∷ front) back front_is back_is =
    let here = both_true (test value) (list_all test front) front_is in
    both (test value) (list_all test (front ++ back)) here.0 (all_joined test front back here.1 back_is)

joined : (schema : SchemaShape) (key body : List ℕ) (front back : List Value) → IsTrue (is_schema schema) → Gave_all in_key (key_columns schema) key front [] → Gave_all in_body (body_columns schema) body back [] → IsSpelling schema key body (front ++ back)
joined schema key body front back lawful g h =
    let k = schema.key_len in
    let is = lawful_from schema lawful in
    let short : k ≤ length schema.columns = leb-true _ _ is.within in
    let key_count : length front ≡ k = omega (arith, g.arity, length-take k schema.columns) in
    let back_is : drop k (front ++ back) ≡ back = rw (sym key_count) (back_of front back) in
    record {
      arity = omega (arith, g.arity, h.arity, length-append front back, length-take k schema.columns, length-drop k schema.columns);
      kinds = subst (λ (c : List ColumnShape). wrong_kind_from 0 c (front ++ back) ≡ None) (take-append-drop k schema.columns) (kinds_joined 0 (key_columns schema) (body_columns schema) front back g.arity (g.kinds 0) h.kinds);
      words = all_joined fits_word front back g.words h.words;
      texts = all_joined is_text front back g.texts h.texts;
      key_is = g.parts ∙ append-nil (spelled_by in_key (key_columns schema) front) ∙ sym (front_of in_key (key_columns schema) front back g.arity);
      body_is = h.parts ∙ append-nil (spelled_by in_body (body_columns schema) back) ∙ ap (spelled_by in_body (body_columns schema)) (sym back_is);
    }

pub one_spelling : (schema : SchemaShape) (key body : List ℕ) (row : List Value) → IsTrue (is_schema schema) → AreBytes key → AreBytes body → row_at schema key body ≡ Ok row → IsSpelling schema key body row
unfolding row_at
one_spelling schema key body row lawful key_are body_are e =
    let others_at = all_at in_body_at (length key + length body) (body_columns schema) body in
    let a = bind_gave (all_at in_key_at (length key) (key_columns schema) key) (λ first. behind_values first others_at) row e in
    let b = bind_gave others_at (λ others. Ok (a.0 ++ others)) row a.2 in
    let g = all_gave in_key_at in_key key_gives (length key) (key_columns schema) key a.0 key_are a.1 in
    let h = all_gave in_body_at in_body body_gives (length key + length body) (body_columns schema) body b.0 body_are b.1 in
    subst (IsSpelling schema key body) (pair_is (a.0 ++ b.0) row b.2) (joined schema key body a.0 b.0 lawful g h)
