-- Words of each form: what is read is so spelled, what is so spelled is read, and none of them is empty or begins with a quote.
use Rattle.std.proofs.Common.{◌≡◌, ℕ, ℤ, ◌+◌, ◌≤◌, Bool, true, false, ◌&&◌, List, [], ◌∷◌, ◌++◌, length, take, drop, refl, sym, ◌∙◌, ap, subst, arith, one-add, Option, Some, None}
use Rattle.std.proofs.Math.Seq.{take-append_seam, drop-append_seam}
use Rattle.std.proofs.lemmas.List.{append-nil, take-append-drop}
use Rattle.std.proofs.lemmas.Bool.{eqb-true, leb-true, le-leb}
use Rattle.std.proofs.lemmas.Option.{cond_some}
use Rattle.std.specs.Prelude.{nat_eq, nat_le, if◌then◌else◌, codes}
use Rattle.std.specs.List.{list_all, prefix_len}
use Rattle.std.specs.Cmp.{first_so, second_so}
use Rattle.std.specs.Cmp.Lexicographic.{pointwise, bytes_decides}
use Rattle.lt_schema.specs.Names.{is_name, is_name_byte}
use Rattle.lt_schema.specs.declared.kind.Kind.{Kind}
use Rattle.lt_schema.specs.declared.kind.Kind.TheVariants.{Int32, Int64, Time, Text as TextKind, Blob as BlobKind}
use Rattle.lt_lang.specs.Numbers.{IsCount, IsMoment, IsInteger}
use Rattle.lt_lang.specs.Reading.{after, count_at, moment_at, integer_at}
use Rattle.lt_lang.specs.Tokens.{is_quoted}
use Rattle.lt_lang.specs.Sentences.{IsClient, IsMomentToken, kind_word}
use Rattle.lt_lang.specs.Parsing.{whole, count_of, integer_of, moment_behind, moment_of, name_by, client_of, same, column_name}
use Rattle.lt_schema.specs.Names.{kind_named}
use Rattle.lt_lang.proofs.Taken.{Takes, after-read, after-only}
use Rattle.lt_lang.proofs.Spelled.{count_at-read, count_at-only, moment_at-read, moment_at-only, integer_at-read, integer_at-only}
use Rattle.lt_lang.proofs.Pieces.{all_front}

-- not empty, and no quote first
pub record IsStart (word : List ℕ) : Type 0 where
  pub some : 1 ≤ length word
  pub bare : is_quoted word ≡ false

bare_by : (t : Bool) (b : ℕ) (bs : List ℕ) → nat_eq b 34 ≡ t → ((ws : List ℕ) → b ∷ bs ≡ 34 ∷ ws → ⊥) → t ≡ false
bare_by true b bs e bare = absurd (bare bs (ap (λ c. c ∷ bs) (eqb-true b 34 e)))
bare_by false b bs e bare = refl

start_of : (word : List ℕ) → (word ≡ [] → ⊥) → ((ws : List ℕ) → word ≡ 34 ∷ ws → ⊥) → IsStart word
start_of [] some bare = absurd (some refl)
start_of (b ∷ bs) some bare = record { some = omega arith; bare = bare_by (nat_eq b 34) b bs refl bare }

clash : (A : Type 0) (r : Option A) (x : A) → r ≡ Some x → r ≡ None → ⊥
clash A r x e f = cc

pub start_by : (A : Type 0) (form : List ℕ → Option A) (word : List ℕ) (x : A) → form word ≡ Some x → form [] ≡ None → ((ws : List ℕ) → form (34 ∷ ws) ≡ None) → IsStart word
start_by A form word x e none quote = start_of word (λ nil. clash A (form word) x e (ap form nil ∙ none)) (λ ws q. clash A (form word) x e (ap form q ∙ quote ws))

nil_of : (l : List ℕ) → length l ≡ 0 → l ≡ []
nil_of [] e = refl
nil_of (b ∷ bs) e = absurd (omega arith)

whole-read : (A : Type 0) (r : Option (A × List ℕ)) (x : A) → whole r ≡ Some x → r ≡ Some (x, [])
whole-read A None x e = cc
whole-read A (Some p) x e =
    let h = cond_some {A = A} (nat_eq (length p.1) 0) p.0 x e in
    let none : p.1 ≡ [] = nil_of p.1 (eqb-true (length p.1) 0 h.0) in
    ap (λ (v : A). Some (v, p.1)) h.1 ∙ ap (λ (l : List ℕ). Some (x, l)) none

taken-whole : (P : List ℕ → Type 0) (word : List ℕ) → Takes P word [] → P word
taken-whole P word t = subst P (sym (t.spelled ∙ append-nil t.part)) t.is

pub count_of-read : (word : List ℕ) (n : ℕ) → count_of word ≡ Some n → IsCount word n
unfolding count_of
count_of-read word n e = taken-whole (λ part. IsCount part n) word (count_at-read word (n, []) (whole-read ℕ (count_at word) n e))

pub count_of-only : (word : List ℕ) (n : ℕ) → IsCount word n → count_of word ≡ Some n
unfolding count_of
count_of-only word n is = ap whole (ap count_at (sym (append-nil word)) ∙ count_at-only word n [] is refl)

pub count_of-start : (word : List ℕ) (n : ℕ) → count_of word ≡ Some n → IsStart word
unfolding count_of count_at
count_of-start word n e = start_by ℕ count_of word n e refl (λ ws. refl)

pub integer_of-read : (word : List ℕ) (x : ℤ) → integer_of word ≡ Some x → IsInteger word x
unfolding integer_of
integer_of-read word x e = taken-whole (λ part. IsInteger part x) word (integer_at-read word (x, []) (whole-read ℤ (integer_at word) x e))

pub integer_of-only : (word : List ℕ) (x : ℤ) → IsInteger word x → integer_of word ≡ Some x
unfolding integer_of
integer_of-only word x is = ap whole (ap integer_at (sym (append-nil word)) ∙ integer_at-only word x [] is refl)

moment_by : (word : List ℕ) (r : Option (List ℕ)) (n : ℕ) → after (codes "@") word ≡ r → moment_behind r ≡ Some n → IsMomentToken word n
moment_by word None n eq e = cc
moment_by word (Some digits) n eq e = record {
  digits = digits;
  spelled = after-read (codes "@") word digits eq;
  count = taken-whole (λ part. IsMoment part n) digits (moment_at-read digits (n, []) (whole-read ℕ (moment_at digits) n e));
}

pub moment_of-read : (word : List ℕ) (n : ℕ) → moment_of word ≡ Some n → IsMomentToken word n
unfolding moment_of
moment_of-read word n e = moment_by word (after (codes "@") word) n refl e

pub moment_of-only : (word : List ℕ) (n : ℕ) → IsMomentToken word n → moment_of word ≡ Some n
unfolding moment_of
moment_of-only word n is =
    ap (λ l. moment_behind (after (codes "@") l)) is.spelled ∙ ap moment_behind (after-only (codes "@") is.digits)
    ∙ ap whole (ap moment_at (sym (append-nil is.digits)) ∙ moment_at-only is.digits n [] is.count refl)

pub moment_of-start : (word : List ℕ) (n : ℕ) → moment_of word ≡ Some n → IsStart word
unfolding moment_of after
moment_of-start word n e = start_by ℕ moment_of word n e refl (λ ws. refl)

-- a test on words that is passed by the equal ones alone
pub same-read : (word other : List ℕ) → same word other ≡ true → word ≡ other
same-read word other e = (bytes_decides word other).0 e

pub same-only : (word other : List ℕ) → word ≡ other → same word other ≡ true
same-only word other e = (bytes_decides word other).1 e

length-prefix : (word : List ℕ) → length (take (prefix_len is_name_byte word) word) ≡ prefix_len is_name_byte word
length-prefix [] = refl
length-prefix (b ∷ bs) = length_by (is_name_byte b) b bs (length-prefix bs)
  where
    length_by : (t : Bool) (b : ℕ) (bs : List ℕ) → length (take (prefix_len is_name_byte bs) bs) ≡ prefix_len is_name_byte bs → length (take (if t then 1 + prefix_len is_name_byte bs else 0) (b ∷ bs)) ≡ (if t then 1 + prefix_len is_name_byte bs else 0)
    length_by true b bs e = rw one-add (omega arith)
    length_by false b bs e = refl

-- a client's token is its name and a colon
pub record IsClientToken (word name : List ℕ) : Type 0 where
  pub spelled : word ≡ name ++ codes ":"
  pub is : IsClient name

pub client_of-read : (word name : List ℕ) → client_of word ≡ Some name → IsClientToken word name
unfolding client_of
client_of-read word name e =
    let n = prefix_len is_name_byte word in
    let h = cond_some {A = List ℕ} (nat_le 1 n && nat_le n 32 && pointwise nat_eq (drop n word) (codes ":")) (take n word) name e in
    let colon = same-read (drop n word) (codes ":") (second_so (nat_le 1 n && nat_le n 32) (pointwise nat_eq (drop n word) (codes ":")) h.0) in
    let size = first_so (nat_le 1 n && nat_le n 32) (pointwise nat_eq (drop n word) (codes ":")) h.0 in
    let most = leb-true n 32 (second_so (nat_le 1 n) (nat_le n 32) size) in
    let least = leb-true 1 n (first_so (nat_le 1 n) (nat_le n 32) size) in
    let len = length-prefix word in
    let found : IsClientToken word (take n word) = record {
      spelled = sym (take-append-drop n word) ∙ ap (λ l. take n word ++ l) colon;
      is = record { some = omega arith; few = omega arith; bytes = all_front is_name_byte word };
    } in
    subst (IsClientToken word) h.1 found

run_len : (test : ℕ → Bool) (run l : List ℕ) → list_all test run ≡ true → prefix_len test l ≡ 0 → prefix_len test (run ++ l) ≡ length run
run_len test [] l all zero_len = zero_len
run_len test (b ∷ bs) l all zero_len =
    rw (first_so (test b) (list_all test bs) all, run_len test bs l (second_so (test b) (list_all test bs) all) zero_len) (one-add (length bs))

pub prefix_run : (test : ℕ → Bool) (run l : List ℕ) → list_all test run ≡ true → prefix_len test l ≡ 0 → prefix_len test (run ++ l) ≡ length run
prefix_run = run_len

pub client_of-only : (word name : List ℕ) → IsClientToken word name → client_of word ≡ Some name
unfolding client_of
client_of-only word name t =
    let n : prefix_len is_name_byte (name ++ codes ":") ≡ length name = run_len is_name_byte name (codes ":") t.is.bytes refl in
    ap (λ l. name_by (prefix_len is_name_byte l) l) t.spelled ∙ ap (λ k. name_by k (name ++ codes ":")) n
    ∙ rw (le-leb 1 (length name) t.is.some, le-leb (length name) 32 t.is.few, drop-append_seam, take-append_seam) refl

pub client_of-start : (word name : List ℕ) → client_of word ≡ Some name → IsStart word
unfolding client_of
client_of-start word name e = start_by (List ℕ) client_of word name e refl (λ ws. refl)

pub column_name-read : (word name : List ℕ) → column_name word ≡ Some name → (is_name word ≡ true) × (word ≡ name)
column_name-read word name e = cond_some {A = List ℕ} (is_name word) word name e

pub column_name-only : (word : List ℕ) → is_name word ≡ true → column_name word ≡ Some word
column_name-only word e = rw e refl

pub column_name-start : (word name : List ℕ) → column_name word ≡ Some name → IsStart word
column_name-start word name e = start_by (List ℕ) column_name word name e refl (λ ws. refl)

kind_by : (t : Bool) (word other : List ℕ) (kind x : Kind) (more : Option Kind) (P : Type 0) → same word other ≡ t → (if t then Some kind else more) ≡ Some x → (word ≡ other → kind ≡ x → P) → (more ≡ Some x → P) → P
kind_by true word other kind x more P eq e here there = here (same-read word other eq) (cond_some {A = Kind} true kind x e).1
kind_by false word other kind x more P eq e here there = there e

kind_step : (word other : List ℕ) (kind x : Kind) (more : Option Kind) (P : Type 0) → (if same word other then Some kind else more) ≡ Some x → (word ≡ other → kind ≡ x → P) → (more ≡ Some x → P) → P
kind_step word other kind x more P e here there = kind_by (same word other) word other kind x more P refl e here there

pub kind_named-read : (word : List ℕ) (kind : Kind) → kind_named word ≡ Some kind → word ≡ kind_word kind
unfolding kind_named
kind_named-read word kind e =
    kind_step word (codes "int32") Int32 kind _ (word ≡ kind_word kind) e (λ w k. w ∙ ap kind_word k) (λ e2.
    kind_step word (codes "int64") Int64 kind _ (word ≡ kind_word kind) e2 (λ w k. w ∙ ap kind_word k) (λ e3.
    kind_step word (codes "time") Time kind _ (word ≡ kind_word kind) e3 (λ w k. w ∙ ap kind_word k) (λ e4.
    kind_step word (codes "text") TextKind kind _ (word ≡ kind_word kind) e4 (λ w k. w ∙ ap kind_word k) (λ e5.
    kind_step word (codes "blob") BlobKind kind None (word ≡ kind_word kind) e5 (λ w k. w ∙ ap kind_word k) (λ e6. cc)))))

pub kind_named-only : (kind : Kind) → kind_named (kind_word kind) ≡ Some kind
unfolding kind_named
kind_named-only Int32 = refl
kind_named-only Int64 = refl
kind_named-only Time = refl
kind_named-only TextKind = refl
kind_named-only BlobKind = refl

pub kind_named-start : (word : List ℕ) (kind : Kind) → kind_named word ≡ Some kind → IsStart word
unfolding kind_named
kind_named-start word kind e = start_by Kind kind_named word kind e refl (λ ws. refl)
