-- Values, kinds and names: what is read is so spelled, and what is so spelled is read.
use Rattle.std.proofs.Common.{◌≡◌, ℕ, suc, ◌-◌, ◌^◌, ◌<◌, ℤ, pos, negsuc, Bool, true, false, cond, eqb, ltb, List, [], ◌∷◌, ◌++◌, length, Result, Ok, refl, sym, ap, subst, ◌∙◌, arith, SFits}
use Rattle.std.specs.Prelude.{T, Some, None, nat_lt}
use Rattle.std.specs.Int.{w32, w64, to_be_bytes, cast_signed, cast_unsigned}
use Rattle.std.specs.Str.{is_utf8}
use Rattle.std.proofs.lemmas.Int.{to_z-of_z, of_z-to_z}
use Rattle.std.proofs.Math.Facts.{sfits_lit}
use Rattle.std.proofs.lemmas.Bool.{eqb-true}
use Rattle.std.proofs.lemmas.Bool.Decides.{nat_tests}
use Rattle.lt_schema.specs.declared.kind.Kind.{Kind}
use Rattle.lt_schema.specs.declared.kind.Kind.TheVariants.{Int32, Int64, Time, Text as TextKind, Blob as BlobKind}
use Rattle.lt_schema.specs.declared.value.Value.{Value}
use Rattle.lt_schema.specs.declared.value.Value.TheVariants.{Int, Text, Blob}
use Rattle.lt_schema.specs.Values.{is_of_kind}
use Rattle.lt_schema.specs.Lawful.{is_short}
use Rattle.lt_desc.specs.Lawful.{is_word, fits_value}
use Rattle.lt_desc.specs.Spelling.{counted, kind_byte, value_spelled}
use Rattle.lt_rec.specs.Reading.{◌>>=◌, place, asked, or_fault}
use Rattle.lt_desc.specs.Reading.{byte_from, number_from, counted_at, kind_of, kind_at, int_as, text_as, blob_as, value_at}
use Rattle.lt_rec.proofs.Reading.{IsBytes, bind_ok, ok_is, asked_ok, asked_again, or_fault_ok, Takes, Takes-as, byte_takes}
use Rattle.lt_desc.proofs.Taken.{takes32, takes64, again32, again64, counted_takes, counted_again}

-- ---- kinds

kind_by : (z a b c d : Bool) (byte : ℕ) (kind : Kind) → (z ≡ true → byte ≡ 0) → (a ≡ true → byte ≡ 1) → (b ≡ true → byte ≡ 2) → (c ≡ true → byte ≡ 3) → (d ≡ true → byte ≡ 4)
    → cond z (Some Int32) (cond a (Some Int64) (cond b (Some Time) (cond c (Some TextKind) (cond d (Some BlobKind) None)))) ≡ Some kind → byte ≡ kind_byte kind
kind_by true a b c d byte kind p0 p1 p2 p3 p4 e = let same : Int32 ≡ kind = cc in p0 refl ∙ ap kind_byte same
kind_by false true b c d byte kind p0 p1 p2 p3 p4 e = let same : Int64 ≡ kind = cc in p1 refl ∙ ap kind_byte same
kind_by false false true c d byte kind p0 p1 p2 p3 p4 e = let same : Time ≡ kind = cc in p2 refl ∙ ap kind_byte same
kind_by false false false true d byte kind p0 p1 p2 p3 p4 e = let same : TextKind ≡ kind = cc in p3 refl ∙ ap kind_byte same
kind_by false false false false true byte kind p0 p1 p2 p3 p4 e = let same : BlobKind ≡ kind = cc in p4 refl ∙ ap kind_byte same
kind_by false false false false false byte kind p0 p1 p2 p3 p4 e = absurd cc

kind_is : (byte : ℕ) (kind : Kind) → kind_of byte ≡ Some kind → byte ≡ kind_byte kind
kind_is byte kind e =
    kind_by (eqb byte 0) (eqb byte 1) (eqb byte 2) (eqb byte 3) (eqb byte 4) byte kind (λ t. eqb-true byte 0 t) (λ t. eqb-true byte 1 t) (λ t. eqb-true byte 2 t) (λ t. eqb-true byte 3 t) (λ t. eqb-true byte 4 t) e

abbrev KindText : List ℕ → Kind × List ℕ → Type 0
KindText bytes x = Takes bytes (kind_byte x.0 ∷ []) x.1

pub kind_takes : (total : ℕ) (bytes : List ℕ) (x : Kind × List ℕ) → IsBytes bytes → kind_at total bytes ≡ Ok x → KindText bytes x
unfolding kind_at
kind_takes total bytes x fits e =
    let a = bind_ok (byte_from total bytes) (λ b. or_fault (kind_of b.0) (place total bytes) >>= λ kind. Ok (kind, b.1)) x e in
    let b = bind_ok (or_fault (kind_of a.0.0) (place total bytes)) (λ kind. Ok (kind, a.0.1)) x a.2 in
    let t = byte_takes (place total bytes) bytes a.0 fits a.1 in
    let same = kind_is a.0.0 b.0 (or_fault_ok (kind_of a.0.0) (place total bytes) b.0 b.1) in
    subst (KindText bytes) (ok_is (b.0, a.0.1) x b.2) (Takes-as bytes (a.0.0 ∷ []) (kind_byte b.0 ∷ []) a.0.1 (ap (λ (n : ℕ). n ∷ []) same) t)

pub kind_again : (total : ℕ) (kind : Kind) (rest : List ℕ) → kind_at total (kind_byte kind ∷ rest) ≡ Ok (kind, rest)
unfolding kind_at
kind_again total Int32 rest = refl
kind_again total Int64 rest = refl
kind_again total Time rest = refl
kind_again total TextKind rest = refl
kind_again total BlobKind rest = refl

-- ---- integers

narrow_word : (n : ℕ) → n < 2 ^ 32 → is_word (cast_signed w32 n) ≡ true
narrow_word n lt = at (ltb n (2 ^ 31)) refl
  where
    at : (b : Bool) → ltb n (2 ^ 31) ≡ b → is_word (cond b (pos n) (negsuc (2 ^ 32 - suc n))) ≡ true
    at true t = grind (arith, nat_tests)
    at false t = grind (arith, nat_tests)

whole_word : (n : ℕ) → n < 2 ^ 64 → is_word (cast_signed w64 n) ≡ true
whole_word n lt = at (ltb n (2 ^ 63)) refl
  where
    at : (b : Bool) → ltb n (2 ^ 63) ≡ b → is_word (cond b (pos n) (negsuc (2 ^ 64 - suc n))) ≡ true
    at true t = grind (arith, nat_tests)
    at false t = grind (arith, nat_tests)

test_holds : (b : Bool) → b ≡ true → T b
test_holds true is = tt
test_holds false is = absurd cc

narrow_fits : (z : ℤ) → is_of_kind Int32 (Int z) ≡ true → SFits w32 z
narrow_fits (pos n) is = sfits_lit {w = w32} {z = pos n} (test_holds (nat_lt n (2 ^ 31)) is)
narrow_fits (negsuc n) is = sfits_lit {w = w32} {z = negsuc n} (test_holds (nat_lt n (2 ^ 31)) is)

word_fits : (z : ℤ) → is_word z ≡ true → SFits w64 z
word_fits (pos n) is = sfits_lit {w = w64} {z = pos n} (test_holds (nat_lt n (2 ^ 63)) is)
word_fits (negsuc n) is = sfits_lit {w = w64} {z = negsuc n} (test_holds (nat_lt n (2 ^ 63)) is)

narrow_bits : (z : ℤ) → is_of_kind Int32 (Int z) ≡ true → cast_unsigned w32 z < 2 ^ 32
narrow_bits (pos n) is = grind (arith, nat_tests)
narrow_bits (negsuc n) is = omega arith

word_bits : (z : ℤ) → is_word z ≡ true → cast_unsigned w64 z < 2 ^ 64
word_bits (pos n) is = grind (arith, nat_tests)
word_bits (negsuc n) is = omega arith

-- ---- values

abbrev ValueText : Kind → List ℕ → Value × List ℕ → Type 0
ValueText kind bytes x = Takes bytes (value_spelled kind x.0) x.1 × (fits_value x.0 ≡ true)

narrow_value : (total : ℕ) (bytes : List ℕ) (x : Value × List ℕ) → IsBytes bytes → number_from w32 total bytes >>= int_as w32 ≡ Ok x → ValueText Int32 bytes x
unfolding value_spelled
narrow_value total bytes x fits e =
    let a = bind_ok (number_from w32 total bytes) (int_as w32) x e in
    let n = takes32 total bytes a.0 fits a.1 in
    let back : cast_unsigned w32 (cast_signed w32 a.0.0) ≡ a.0.0 = of_z-to_z w32 a.0.0 n.1 in
    subst (ValueText Int32 bytes) (ok_is (Int (cast_signed w32 a.0.0), a.0.1) x a.2)
    (Takes-as bytes (to_be_bytes w32 a.0.0) (to_be_bytes w32 (cast_unsigned w32 (cast_signed w32 a.0.0))) a.0.1 (ap (to_be_bytes w32) (sym back)) n.0, narrow_word a.0.0 n.1)

whole_value : (kind : Kind) (total : ℕ) (bytes : List ℕ) (x : Value × List ℕ) → ((n : ℕ) → value_spelled kind (Int (cast_signed w64 n)) ≡ to_be_bytes w64 (cast_unsigned w64 (cast_signed w64 n))) → IsBytes bytes → number_from w64 total bytes >>= int_as w64 ≡ Ok x → ValueText kind bytes x
whole_value kind total bytes x form fits e =
    let a = bind_ok (number_from w64 total bytes) (int_as w64) x e in
    let n = takes64 total bytes a.0 fits a.1 in
    let back : cast_unsigned w64 (cast_signed w64 a.0.0) ≡ a.0.0 = of_z-to_z w64 a.0.0 n.1 in
    subst (ValueText kind bytes) (ok_is (Int (cast_signed w64 a.0.0), a.0.1) x a.2)
    (Takes-as bytes (to_be_bytes w64 a.0.0) (value_spelled kind (Int (cast_signed w64 a.0.0))) a.0.1 (ap (to_be_bytes w64) (sym back) ∙ sym (form a.0.0)) n.0, whole_word a.0.0 n.1)

pub value_takes : (kind : Kind) (total : ℕ) (bytes : List ℕ) (x : Value × List ℕ) → IsBytes bytes → value_at kind total bytes ≡ Ok x → ValueText kind bytes x
unfolding value_at value_spelled
value_takes Int32 total bytes x fits e = narrow_value total bytes x fits e
value_takes Int64 total bytes x fits e = whole_value Int64 total bytes x (λ n. refl) fits e
value_takes Time total bytes x fits e = whole_value Time total bytes x (λ n. refl) fits e
value_takes TextKind total bytes x fits e =
    let a = bind_ok (asked is_utf8 (place total bytes) (counted_at total bytes)) text_as x e in
    let g = asked_ok is_utf8 (place total bytes) (counted_at total bytes) a.0 a.1 in
    subst (ValueText TextKind bytes) (ok_is (Text a.0.0, a.0.1) x a.2) ((counted_takes total bytes a.0 fits g.0).0, g.1)
value_takes BlobKind total bytes x fits e =
    let a = bind_ok (counted_at total bytes) blob_as x e in
    subst (ValueText BlobKind bytes) (ok_is (Blob a.0.0, a.0.1) x a.2) ((counted_takes total bytes a.0 fits a.1).0, refl)

short_text : (s : List ℕ) → is_short (Text s) ≡ true → length s < 2 ^ 32
short_text s short = grind (arith, nat_tests)

short_blob : (s : List ℕ) → is_short (Blob s) ≡ true → length s < 2 ^ 32
short_blob s short = grind (arith, nat_tests)

pub value_again : (kind : Kind) (value : Value) (total : ℕ) (rest : List ℕ) → is_of_kind kind value ≡ true → is_short value ≡ true → fits_value value ≡ true → value_at kind total (value_spelled kind value ++ rest) ≡ Ok (value, rest)
unfolding value_at value_spelled
value_again Int32 (Int z) total rest is short fits = ap (λ (q : Result (ℕ × List ℕ) ℕ). q >>= int_as w32) (again32 total (cast_unsigned w32 z) rest (narrow_bits z is)) ∙ ap (λ (x : ℤ). Ok (Int x, rest)) (to_z-of_z w32 z (narrow_fits z is))
value_again Int64 (Int z) total rest is short fits = ap (λ (q : Result (ℕ × List ℕ) ℕ). q >>= int_as w64) (again64 total (cast_unsigned w64 z) rest (word_bits z fits)) ∙ ap (λ (x : ℤ). Ok (Int x, rest)) (to_z-of_z w64 z (word_fits z fits))
value_again Time (Int z) total rest is short fits = ap (λ (q : Result (ℕ × List ℕ) ℕ). q >>= int_as w64) (again64 total (cast_unsigned w64 z) rest (word_bits z fits)) ∙ ap (λ (x : ℤ). Ok (Int x, rest)) (to_z-of_z w64 z (word_fits z fits))
value_again TextKind (Text s) total rest is short fits =
    ap (λ (q : Result (List ℕ × List ℕ) ℕ). q >>= text_as) (asked_again is_utf8 (place total (counted s ++ rest)) (counted_at total (counted s ++ rest)) (s, rest) (counted_again total s rest (short_text s short)) fits)
value_again BlobKind (Blob s) total rest is short fits = ap (λ (q : Result (List ℕ × List ℕ) ℕ). q >>= blob_as) (counted_again total s rest (short_blob s short))
value_again Int32 (Text s) total rest is short fits = absurd cc
value_again Int32 (Blob s) total rest is short fits = absurd cc
value_again Int64 (Text s) total rest is short fits = absurd cc
value_again Int64 (Blob s) total rest is short fits = absurd cc
value_again Time (Text s) total rest is short fits = absurd cc
value_again Time (Blob s) total rest is short fits = absurd cc
value_again TextKind (Int z) total rest is short fits = absurd cc
value_again TextKind (Blob s) total rest is short fits = absurd cc
value_again BlobKind (Int z) total rest is short fits = absurd cc
value_again BlobKind (Text s) total rest is short fits = absurd cc
