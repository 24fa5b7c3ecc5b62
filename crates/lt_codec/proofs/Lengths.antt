-- How long spelled rows are, and that a key ends in its timestamp.
use Rattle.std.proofs.Common.{◌≡◌, ℕ, zero, suc, ◌+◌, ◌-◌, ◌^◌, ◌<◌, ◌≤◌, pos, negsuc, Bool, true, false, cond, eqb, List, [], ◌∷◌, ◌++◌, length, get_or, take, drop, refl, sym, ap, ◌∙◌, arith, append_assoc, append-nil}
use Rattle.std.specs.Prelude.{IsTrue, nat_lt, nat_eq, count_by, sum_by, Option, Some, None, slice_get}
use Rattle.std.specs.Option.{option_map_or}
use Rattle.std.specs.Int.{w32, w64, to_be_bytes, from_be_bytes}
use Rattle.std.proofs.Math.Seq.{drop-cons}
use Rattle.std.proofs.Math.ListN.{drop_of_length-le}
use Rattle.std.proofs.lemmas.List.{length-append, length-take}
use Rattle.std.proofs.lemmas.List.Sums.{sum_by-append}
use Rattle.std.proofs.lemmas.Nat.{from_be_bytes-to_be_bytes_8}
use Rattle.std.proofs.lemmas.Bool.{leb-true}
use Rattle.std.proofs.lemmas.Bool.Decides.{nat_tests}
use Rattle.lt_rec.specs.Record as record_spec
use Rattle.lt_schema.specs.declared.kind.Kind.{Kind}
use Rattle.lt_schema.specs.declared.kind.Kind.TheVariants.{Int32, Int64, Time, Text as TextKind, Blob as BlobKind}
use Rattle.lt_schema.specs.declared.value.Value.{Value}
use Rattle.lt_schema.specs.declared.value.Value.TheVariants.{Int, Text, Blob}
use Rattle.lt_schema.specs.declared.row.RowFault.{RowFault}
use Rattle.lt_schema.specs.declared.row.RowFault.TheVariants.{Arity, KeyLong, BodyLong}
use Rattle.lt_schema.specs.Shapes.{ColumnShape, SchemaShape}
use Rattle.lt_schema.specs.Lawful.{is_schema, is_time_column}
use Rattle.lt_schema.specs.Values.{is_of_kind, moment_of, key_len_of, key_len_of_bytes, body_len_of}
use Rattle.lt_schema.specs.Check.{Passes, wrong_kind_from, time_of, len_under, key_len_in_bytes, body_len_in_bytes, length_fault, kind_fault, counted}
use Rattle.lt_schema.proofs.Growing.{lawful_from}
use Rattle.lt_codec.specs.Spelling.{escaped, in_key, in_body, spelled_by, body_columns, key_bytes, body_bytes}
use Rattle.lt_codec.proofs.Keys.{passes_parts}

-- ---- steps of the loops

put_one : (nil : Bool) (b : ℕ) (rest out : List ℕ) → (out ++ cond nil (0 ∷ 255 ∷ []) (b ∷ [])) ++ rest ≡ out ++ cond nil (0 ∷ 255 ∷ rest) (b ∷ rest)
put_one true b rest out = append_assoc out (0 ∷ 255 ∷ []) rest
put_one false b rest out = append_assoc out (b ∷ []) rest

pub escaped_more : (out bytes : List ℕ) (i : ℕ) → i < length bytes → (out ++ cond (eqb (get_or bytes i 0) 0) (0 ∷ 255 ∷ []) (get_or bytes i 0 ∷ [])) ++ escaped (drop (i + 1) bytes) ≡ out ++ escaped (drop i bytes)
unfolding escaped
escaped_more out bytes i lt =
    let one : i + 1 ≡ suc i = omega arith in
    rw (one, drop-cons bytes i 0 lt) (put_one (eqb (get_or bytes i 0) 0) (get_or bytes i 0) (escaped (drop (suc i) bytes)) out)

pub escaped_end : (bytes : List ℕ) (i : ℕ) → length bytes ≤ i → escaped (drop i bytes) ≡ 0 ∷ 0 ∷ []
unfolding escaped
escaped_end bytes i past = rw (drop_of_length-le bytes past) refl

spelled_none : (spelled : Kind → Value → List ℕ) (columns : List ColumnShape) → spelled_by spelled columns [] ≡ []
spelled_none spelled [] = refl
spelled_none spelled (column ∷ columns) = refl

pub spelled_end : (spelled : Kind → Value → List ℕ) (columns : List ColumnShape) (values : List Value) (i : ℕ) → length values ≤ i → spelled_by spelled (drop i columns) (drop i values) ≡ []
spelled_end spelled columns values i past = ap (spelled_by spelled (drop i columns)) (drop_of_length-le values past) ∙ spelled_none spelled (drop i columns)

pub spelled_front : (spelled : Kind → Value → List ℕ) (n : ℕ) (columns : List ColumnShape) (values : List Value) → spelled_by spelled (take n columns) (take n values) ≡ spelled_by spelled (take n columns) values
spelled_front spelled zero columns values = refl
spelled_front spelled (suc n) [] values = refl
spelled_front spelled (suc n) (column ∷ columns) [] = refl
spelled_front spelled (suc n) (column ∷ columns) (value ∷ values) = ap (λ (r : List ℕ). spelled column.kind value ++ r) (spelled_front spelled n columns values)

kind_by : (b : Bool) (at : ℕ) (rest : Option ℕ) → cond b rest (Some at) ≡ None → IsTrue b × (rest ≡ None)
kind_by true at rest none = (refl, none)
kind_by false at rest none = absurd (cc)

kinds_any : (i j : ℕ) (columns : List ColumnShape) (values : List Value) → wrong_kind_from i columns values ≡ None → wrong_kind_from j columns values ≡ None
kinds_any i j [] values none = refl
kinds_any i j (column ∷ columns) [] none = refl
kinds_any i j (column ∷ columns) (value ∷ values) none =
    let here = kind_by (is_of_kind column.kind value) i (wrong_kind_from (i + 1) columns values) none in
    rw here.0 (kinds_any (i + 1) (j + 1) columns values here.1)

kinds_empty : (j : ℕ) (columns : List ColumnShape) → wrong_kind_from j columns [] ≡ None
kinds_empty j [] = refl
kinds_empty j (column ∷ columns) = refl

pub kinds_drop : (n i j : ℕ) (columns : List ColumnShape) (values : List Value) → wrong_kind_from i columns values ≡ None → wrong_kind_from j (drop n columns) (drop n values) ≡ None
kinds_drop zero i j columns values none = kinds_any i j columns values none
kinds_drop (suc n) i j [] values none = refl
kinds_drop (suc n) i j (column ∷ columns) [] none = kinds_empty j (drop n columns)
kinds_drop (suc n) i j (column ∷ columns) (value ∷ values) none = kinds_drop n (i + 1) j columns values (kind_by (is_of_kind column.kind value) i (wrong_kind_from (i + 1) columns values) none).1

-- ---- lengths

abbrev ones : ℕ → ℕ
ones b = cond (nat_eq b 0) 1 0

-- one byte more
zeros-more : (b : ℕ) (bs : List ℕ) → count_by (λ x. nat_eq x 0) (b ∷ bs) ≡ cond (nat_eq b 0) 1 0 + count_by (λ x. nat_eq x 0) bs
zeros-more b bs = sum_by-append (λ x. cond (nat_eq x 0) 1 0) (b ∷ []) bs ∙ ap (λ (n : ℕ). n + count_by (λ x. nat_eq x 0) bs) zero-plus
  where
    zero-plus : 0 + cond (nat_eq b 0) 1 0 ≡ cond (nat_eq b 0) 1 0
    zero-plus = omega arith

sum-more : (value : Value) (values : List Value) → sum_by key_len_of (value ∷ values) ≡ key_len_of value + sum_by key_len_of values
sum-more value values = sum_by-append key_len_of (value ∷ []) values ∙ ap (λ (n : ℕ). n + sum_by key_len_of values) zero-plus
  where
    zero-plus : 0 + key_len_of value ≡ key_len_of value
    zero-plus = omega arith

escaped_by : (nil : Bool) (b : ℕ) (bs rest : List ℕ) → nat_eq b 0 ≡ nil → length rest ≡ key_len_of_bytes bs → length (cond nil (0 ∷ 255 ∷ rest) (b ∷ rest)) ≡ key_len_of_bytes (b ∷ bs)
escaped_by true b bs rest is len =
    let one : ones b ≡ 1 = rw is refl in
    omega (arith, len, zeros-more b bs, one)
escaped_by false b bs rest is len =
    let none : ones b ≡ 0 = rw is refl in
    omega (arith, len, zeros-more b bs, none)

length-escaped : (bytes : List ℕ) → length (escaped bytes) ≡ key_len_of_bytes bytes
unfolding escaped
length-escaped [] = refl
length-escaped (b ∷ bs) = escaped_by (eqb b 0) b bs (escaped bs) refl (length-escaped bs)

length-in_key : (kind : Kind) (value : Value) → length (in_key kind value) ≡ key_len_of value
unfolding in_key
length-in_key kind (Int z) = refl
length-in_key kind (Text s) = length-escaped s
length-in_key kind (Blob s) = length-escaped s

pub length-key : (columns : List ColumnShape) (values : List Value) → length values ≤ length columns → length (spelled_by in_key columns values) ≡ sum_by key_len_of values
length-key [] [] fits = refl
length-key [] (value ∷ values) fits = absurd (omega arith)
length-key (column ∷ columns) [] fits = refl
length-key (column ∷ columns) (value ∷ values) fits =
    length-append (in_key column.kind value) (spelled_by in_key columns values) ∙ ap (λ (n : ℕ). n + length (spelled_by in_key columns values)) (length-in_key column.kind value)
    ∙ ap (λ (n : ℕ). key_len_of value + n) (length-key columns values (omega arith)) ∙ sym (sum-more value values)

length-in_body : (kind : Kind) (value : Value) → IsTrue (is_of_kind kind value) → length (in_body kind value) ≡ body_len_of kind value
unfolding in_body
length-in_body Int32 (Int z) is = refl
length-in_body Int64 (Int z) is = refl
length-in_body Time (Int z) is = refl
length-in_body TextKind (Int z) is = cc
length-in_body BlobKind (Int z) is = cc
length-in_body kind (Text s) is = length-append (to_be_bytes w32 (length s)) s
length-in_body kind (Blob s) is = length-append (to_be_bytes w32 (length s)) s

pub length-body : (i : ℕ) (columns : List ColumnShape) (values : List Value) → wrong_kind_from i columns values ≡ None → length (spelled_by in_body columns values) ≡ len_under columns values
length-body i [] values none = refl
length-body i (column ∷ columns) [] none = refl
length-body i (column ∷ columns) (value ∷ values) none =
    let here = kind_by (is_of_kind column.kind value) i (wrong_kind_from (i + 1) columns values) none in
    length-append (in_body column.kind value) (spelled_by in_body columns values) ∙ ap (λ (n : ℕ). n + length (spelled_by in_body columns values)) (length-in_body column.kind value here.0)
    ∙ ap (λ (n : ℕ). body_len_of column.kind value + n) (length-body (i + 1) columns values here.1)

-- ---- the timestamp at a key's end

last_value : (kind : Kind) (value : Value) (i : ℕ) → IsTrue (is_time_column (Some (record { name = []; kind = kind; default = value }))) → is_of_kind kind value ≡ true → in_key kind value ≡ to_be_bytes w64 (moment_of value)
unfolding in_key
last_value Time (Int z) i timed is = refl
last_value Time (Text s) i timed is = cc
last_value Time (Blob s) i timed is = cc
last_value Int32 value i timed is = cc
last_value Int64 value i timed is = cc
last_value TextKind value i timed is = cc
last_value BlobKind value i timed is = cc

-- what stands before the timestamp
pub record EndsIn (bytes : List ℕ) (moment : ℕ) : Type 0 where
  pub front : List ℕ
  pub is : bytes ≡ front ++ to_be_bytes w64 moment

pub ends_in : (n i : ℕ) (columns : List ColumnShape) (values : List Value) → wrong_kind_from i columns values ≡ None → IsTrue (is_time_column (slice_get columns n)) → n < length values
    → EndsIn (spelled_by in_key (take (suc n) columns) values) (option_map_or moment_of (slice_get values n) 0)
ends_in n i [] values none timed within = cc
ends_in n i (column ∷ columns) [] none timed within = absurd (omega arith)
ends_in zero i (column ∷ columns) (value ∷ values) none timed within =
    let here = kind_by (is_of_kind column.kind value) i (wrong_kind_from (i + 1) columns values) none in
    record { front = []; is = append-nil (in_key column.kind value) ∙ last_value column.kind value i timed here.0 }
ends_in (suc n) i (column ∷ columns) (value ∷ values) none timed within =
    let here = kind_by (is_of_kind column.kind value) i (wrong_kind_from (i + 1) columns values) none in
    let more = ends_in n (i + 1) columns values here.1 timed (omega arith) in
    record { front = in_key column.kind value ++ more.front; is = ap (λ (r : List ℕ). in_key column.kind value ++ r) more.is ∙ sym (append_assoc (in_key column.kind value) more.front (to_be_bytes w64 (option_map_or moment_of (slice_get values n) 0))) }

drop_front : (front back : List ℕ) → drop (length front) (front ++ back) ≡ back
drop_front [] back = refl
drop_front (x ∷ front) back = drop_front front back

-- what each row that passes has as a record
pub record IsSmall (schema : SchemaShape) (row : List Value) : Type 0 where
  pub key_len : length (key_bytes schema row) ≤ 4096
  pub body_len : length (body_bytes schema row) ≤ 60000
  pub under : len_under (body_columns schema) (drop schema.key_len row) ≤ 60000
  pub long : 8 ≤ length (key_bytes schema row)
  pub timed : record_spec.time_of (key_bytes schema row) ≡ time_of schema row
  pub kinds : wrong_kind_from 0 (body_columns schema) (drop schema.key_len row) ≡ None

lengths_by : (a b : Bool) (k n : ℕ) → cond a (Some (KeyLong k)) (cond b (Some (BodyLong n)) None) ≡ None → (a ≡ false) × (b ≡ false)
lengths_by false false k n none = (refl, refl)
lengths_by false true k n none = absurd (cc)
lengths_by true b k n none = absurd (cc)

fault_by : (b : Bool) (o : Option ℕ) (other : Option RowFault) (want got : ℕ) → cond b (kind_fault o other) (Some (Arity want got)) ≡ None → other ≡ None
fault_by true None other want got none = none
fault_by true (Some column) other want got none = absurd (cc)
fault_by false o other want got none = absurd (cc)

lengths_of : (schema : SchemaShape) (row : List Value) → Passes schema row → (nat_lt 4096 (key_len_in_bytes schema row) ≡ false) × (nat_lt 60000 (body_len_in_bytes schema row) ≡ false)
lengths_of schema row passes =
    let none = fault_by (nat_eq (length row) (length schema.columns)) (wrong_kind_from 0 schema.columns row) (length_fault schema row) (length schema.columns) (length row) passes in
    lengths_by (nat_lt 4096 (key_len_in_bytes schema row)) (nat_lt 60000 (body_len_in_bytes schema row)) (counted (key_len_in_bytes schema row)) (counted (body_len_in_bytes schema row)) none

moment_fits : (value : Value) → IsTrue (is_of_kind Time value) → moment_of value < 2 ^ 64
moment_fits (Int (pos n)) is = grind (arith, nat_tests)
moment_fits (Int (negsuc n)) is = omega arith
moment_fits (Text s) is = omega arith
moment_fits (Blob s) is = omega arith

moment_by : (kind : Kind) (value : Value) → IsTrue (is_time_column (Some (record { name = []; kind = kind; default = value }))) → IsTrue (is_of_kind kind value) → moment_of value < 2 ^ 64
moment_by Time value timed is = moment_fits value is
moment_by Int32 value timed is = absurd (cc)
moment_by Int64 value timed is = absurd (cc)
moment_by TextKind value timed is = absurd (cc)
moment_by BlobKind value timed is = absurd (cc)

moment_at : (n i : ℕ) (columns : List ColumnShape) (values : List Value) → wrong_kind_from i columns values ≡ None → IsTrue (is_time_column (slice_get columns n)) → option_map_or moment_of (slice_get values n) 0 < 2 ^ 64
moment_at n i [] values none timed = absurd (cc)
moment_at n i (column ∷ columns) [] none timed = omega arith
moment_at zero i (column ∷ columns) (value ∷ values) none timed = moment_by column.kind value timed (kind_by (is_of_kind column.kind value) i (wrong_kind_from (i + 1) columns values) none).0
moment_at (suc n) i (column ∷ columns) (value ∷ values) none timed = moment_at n (i + 1) columns values (kind_by (is_of_kind column.kind value) i (wrong_kind_from (i + 1) columns values) none).1 timed

pub small : (schema : SchemaShape) (row : List Value) → IsTrue (is_schema schema) → Passes schema row → IsSmall schema row
small schema row lawful passes =
    let is = lawful_from schema lawful in
    let parts = passes_parts schema row passes in
    let lens = lengths_of schema row passes in
    let k = schema.key_len in
    let some : 1 ≤ k = leb-true 1 k is.some in
    let within : k ≤ length schema.columns = leb-true k (length schema.columns) is.within in
    let arity : length row ≡ length schema.columns = grind (arith, nat_tests, parts.0) in
    let last : suc (k - 1) ≡ k = omega arith in
    let ends = ends_in (k - 1) 0 schema.columns row parts.1 is.timed (omega (arith, arity, within, some)) in
    let key_is : key_bytes schema row ≡ ends.front ++ to_be_bytes w64 (time_of schema row) = ap (λ (n : ℕ). spelled_by in_key (take n schema.columns) row) (sym last) ∙ ends.is in
    let key_len : length (key_bytes schema row) ≡ key_len_in_bytes schema row =
    ap length (sym (spelled_front in_key k schema.columns row)) ∙ length-key (take k schema.columns) (take k row) (omega (arith, length-take k schema.columns, length-take k row, arity)) in
    let key_small : key_len_in_bytes schema row ≤ 4096 = grind (arith, nat_tests, lens.0) in
    let under : len_under (body_columns schema) (drop k row) ≤ 60000 = grind (arith, nat_tests, lens.1) in
    let kinds = kinds_drop k 0 0 schema.columns row parts.1 in
    let joined : length (key_bytes schema row) ≡ length ends.front + 8 = ap length key_is ∙ length-append ends.front (to_be_bytes w64 (time_of schema row)) in
    let front : length (key_bytes schema row) - 8 ≡ length ends.front = omega (arith, joined) in
    record {
      key_len = omega (arith, key_len, key_small);
      body_len = omega (arith, length-body 0 (body_columns schema) (drop k row) kinds, under);
      under = under;
      long = omega (arith, joined);
      timed = ap (λ (n : ℕ). from_be_bytes w64 (drop n (key_bytes schema row))) front ∙ ap (λ (r : List ℕ). from_be_bytes w64 (drop (length ends.front) r)) key_is
          ∙ ap (from_be_bytes w64) (drop_front ends.front (to_be_bytes w64 (time_of schema row))) ∙ from_be_bytes-to_be_bytes_8 (time_of schema row) (moment_at (k - 1) 0 schema.columns row parts.1 is.timed);
      kinds = kinds;
    }
