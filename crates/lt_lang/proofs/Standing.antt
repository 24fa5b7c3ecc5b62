-- A number that is read from where it stands is the whole word there, where a space or nothing follows it.
use Rattle.std.proofs.Common.{◌≡◌, ℕ, ℤ, ◌≤◌, Bool, true, false, ◌&&◌, List, [], ◌∷◌, ◌++◌, length, refl, sym, ◌∙◌, ap, arith, inl, inr, ⊎_elim, Option, Some, None}
use Rattle.std.specs.Prelude.{nat_eq, nat_le, not, codes}
use Rattle.std.specs.List.{list_all}
use Rattle.std.specs.Cmp.{first_so, second_so}
use Rattle.std.proofs.lemmas.Bool.{leb-true}
use Rattle.std.proofs.lemmas.Bool.Decides.{nat_tests}
use Rattle.lt_schema.specs.declared.value.Value.TheVariants.{Int}
use Rattle.lt_lang.specs.Numbers.{is_digit, IsCount, IsMoment, IsInteger}
use Rattle.lt_lang.specs.Reading.{after, count_at, moment_at, integer_at, unsigned_at}
use Rattle.lt_lang.specs.Tokens.{is_solid, is_ended, is_quoted, IsRun, word_of, behind}
use Rattle.lt_lang.specs.Sentences.{IsMomentToken}
use Rattle.lt_lang.specs.Parsing.{integer_of, moment_of, literal_here}
use Rattle.lt_lang.proofs.Taken.{Takes, after-read}
use Rattle.lt_lang.proofs.Spelled.{integer_at-read, moment_at-read}
use Rattle.lt_lang.proofs.WordForms.{IsStart, start_by, integer_of-only, moment_of-only, moment_of-start}
use Rattle.lt_lang.proofs.Gaps.{run_word, run_behind}
use Rattle.lt_lang.proofs.Spoken.{int_word, unquoted}

digit_solid : (b : ℕ) → is_digit b ≡ true → is_solid b ≡ true
digit_solid b e =
    let least = leb-true 48 b (first_so (nat_le 48 b) (nat_le b 57) e) in
    grind (arith, nat_tests, least)

digits_solid : (digits : List ℕ) → list_all is_digit digits ≡ true → list_all is_solid digits ≡ true
digits_solid [] e = refl
digits_solid (b ∷ bs) e =
    rw (digit_solid b (first_so (is_digit b) (list_all is_digit bs) e)) (digits_solid bs (second_so (is_digit b) (list_all is_digit bs) e))

behind_sign : (token digits : List ℕ) (sign : ℕ) → is_solid sign ≡ true → token ≡ sign ∷ digits → list_all is_digit digits ≡ true → list_all is_solid token ≡ true
behind_sign token digits sign solid spelled e = ap (list_all is_solid) spelled ∙ rw solid (digits_solid digits e)

integer_solid : (token : List ℕ) (x : ℤ) → IsInteger token x → list_all is_solid token ≡ true
integer_solid token x (inl is) = digits_solid token is.count.digits
integer_solid token x (inr is) = behind_sign token is.digits 45 refl is.spelled is.count.digits

moment_solid : (token : List ℕ) (n : ℕ) → IsMomentToken token n → list_all is_solid token ≡ true
moment_solid token n is = behind_sign token is.digits 64 refl is.spelled is.count.count.digits

integer_of-start : (word : List ℕ) (x : ℤ) → integer_of word ≡ Some x → IsStart word
unfolding integer_of integer_at unsigned_at count_at
integer_of-start word x e = start_by ℤ integer_of word x e refl (λ ws. refl)

run_from : (token : List ℕ) → IsStart token → list_all is_solid token ≡ true → IsRun token
run_from token start solid = record { some = start.some; solid = solid; bare = start.bare }

pub integer_literal : (bytes rest : List ℕ) (x : ℤ) → integer_at bytes ≡ Some (x, rest) → is_ended rest ≡ true → literal_here bytes ≡ Some (Int x, rest)
unfolding literal_here
integer_literal bytes rest x e ended =
    let t = integer_at-read bytes (x, rest) e in
    let start = integer_of-start t.part x (integer_of-only t.part x t.is) in
    let run = run_from t.part start (integer_solid t.part x t.is) in
    ap literal_here t.spelled ∙ rw (unquoted t.part rest start, run_word t.part rest run ended, run_behind t.part rest run ended, int_word t.part x t.is) refl

pub moment_word : (bytes digits rest : List ℕ) (n : ℕ) → after (codes "@") bytes ≡ Some digits → moment_at digits ≡ Some (n, rest) → is_ended rest ≡ true
    → (moment_of (word_of bytes) ≡ Some n) × (behind bytes ≡ rest)
moment_word bytes digits rest n at e ended =
    let t = moment_at-read digits (n, rest) e in
    let token = codes "@" ++ t.part in
    let is : IsMomentToken token n = record { digits = t.part; spelled = refl; count = t.is } in
    let found = moment_of-only token n is in
    let run = run_from token (moment_of-start token n found) (moment_solid token n is) in
    let spelled : bytes ≡ token ++ rest = after-read (codes "@") bytes digits at ∙ ap (λ (l : List ℕ). codes "@" ++ l) t.spelled in
    (ap moment_of (ap word_of spelled ∙ run_word token rest run ended) ∙ found, ap behind spelled ∙ run_behind token rest run ended)
