-- The bytes of keys compare as keys do, whatever the versions of their rows, and cuts stand with their values.
use Rattle.std.proofs.Common.{◌≡◌, ℕ, zero, suc, ◌+◌, ◌^◌, ◌<◌, ◌≤◌, pos, negsuc, Bool, true, false, cond, List, [], ◌∷◌, ◌++◌, length, take, map, refl, sym, ap, subst, ◌∙◌, arith, Ordering, Less, Equal, Greater}
use Rattle.std.specs.Prelude.{IsTrue, not, ◌&&◌, ◌||◌, nat_eq, Option, Some, None, is_none}
use Rattle.std.specs.List.{list_all}
use Rattle.std.specs.Ordering.{nat_cmp, is_lt, ordering_then, ordering_reverse, MatchOrdering}
use Rattle.std.specs.Cmp.{ranks}
use Rattle.std.specs.Cmp.Lexicographic.{slice_cmp}
use Rattle.std.proofs.lemmas.List.{take-append-le, take-map, length-map, length-take}
use Rattle.std.proofs.lemmas.Bool.{eq-eqb, ne_eqb, leb-true}
use Rattle.std.proofs.lemmas.Bool.Decides.{nat_tests}
use Rattle.lt_rec.specs.Bytes.{is_less, begins_with}
use Rattle.lt_rec.specs.Boxes.{is_below}
use Rattle.lt_schema.specs.declared.kind.Kind.{Kind}
use Rattle.lt_schema.specs.declared.kind.Kind.TheVariants.{Int32, Int64, Time, Text as TextKind, Blob as BlobKind}
use Rattle.lt_schema.specs.declared.value.Value.{Value}
use Rattle.lt_schema.specs.declared.value.Value.TheVariants.{Int, Text, Blob}
use Rattle.lt_schema.specs.declared.change.Change.{Change}
use Rattle.lt_schema.specs.declared.change.Change.TheVariants.{Append, Widen}
use Rattle.lt_schema.specs.declared.row.RowFault.{RowFault}
use Rattle.lt_schema.specs.declared.row.RowFault.TheVariants.{Arity}
use Rattle.lt_schema.specs.Shapes.{ColumnShape, SchemaShape}
use Rattle.lt_schema.specs.Lawful.{is_schema, has_name}
use Rattle.lt_schema.specs.Values.{value_cmp, key_cmp, leading_cmp, is_of_kind}
use Rattle.lt_schema.specs.Check.{key_of, wrong_kind_from, kind_fault, length_fault, Passes}
use Rattle.lt_schema.specs.Versions.{SchemaVersions, is_int32_kind, widened, changed, after_changes, schema_at, alter_refusal, is_admitted, are_admitted, is_versions}
use Rattle.lt_schema.specs.Orders.{key_cmp_total}
use Rattle.lt_schema.proofs.Growing.{both_true, lawful_from, narrow_where_named, narrow_at_most, none_is, is_schema-changed, is_schema-at, are_admitted-take}
use Rattle.lt_codec.specs.Spelling.{in_key, turned, spelled_by, key_columns, key_bytes}
use Rattle.lt_codec.specs.Ordering.{fits_word, IsRowOf, lies_below}
use Rattle.lt_rec.proofs.NumberOrder.{IsByBytes, numbers}
use Rattle.lt_codec.proofs.Bytes.{turned_fits, turned_cmp, moments_cmp, texts}

-- ---- kinds without their widths

abbrev pub wide : Kind → Kind
wide Int32 = Int64
wide Int64 = Int64
wide Time = Time
wide TextKind = TextKind
wide BlobKind = BlobKind

abbrev pub forms : List ColumnShape → List Kind
forms columns = map (λ column. wide column.kind) columns

abbrev pub spelled_as : List Kind → List Value → List ℕ
spelled_as [] values = []
spelled_as (kind ∷ kinds) [] = []
spelled_as (kind ∷ kinds) (value ∷ values) = in_key kind value ++ spelled_as kinds values

in_key-wide : (kind : Kind) (value : Value) → in_key kind value ≡ in_key (wide kind) value
unfolding in_key
in_key-wide Int32 (Int z) = refl
in_key-wide Int32 (Text s) = refl
in_key-wide Int32 (Blob s) = refl
in_key-wide Int64 value = refl
in_key-wide Time value = refl
in_key-wide TextKind value = refl
in_key-wide BlobKind value = refl

pub spelled-forms : (columns : List ColumnShape) (values : List Value) → spelled_by in_key columns values ≡ spelled_as (forms columns) values
spelled-forms [] values = refl
spelled-forms (column ∷ columns) [] = refl
spelled-forms (column ∷ columns) (value ∷ values) = rw (← in_key-wide column.kind value, spelled-forms columns values) refl

widened_kind : (b : Bool) (column : ColumnShape) → IsTrue (not b || is_int32_kind column.kind) → wide (cond b (record column { kind = Int64 }) column).kind ≡ wide column.kind
widened_kind false column narrow = refl
widened_kind true column narrow = by column.kind narrow
  where
    by : (kind : Kind) → IsTrue (is_int32_kind kind) → Int64 ≡ wide kind
    by Int32 narrow = refl
    by Int64 narrow = refl
    by Time narrow = cc
    by TextKind narrow = cc
    by BlobKind narrow = cc

forms-widened : (name : List ℕ) (columns : List ColumnShape) → IsTrue (list_all (narrow_where_named name) columns) → forms (map (widened name) columns) ≡ forms columns
forms-widened name [] narrow = refl
forms-widened name (column ∷ columns) narrow =
    let both = both_true (narrow_where_named name column) (list_all (narrow_where_named name) columns) narrow in
    rw (widened_kind (has_name name column) column both.0, forms-widened name columns both.1) refl

-- the forms of a schema's key columns
abbrev pub key_forms : SchemaShape → List Kind
key_forms schema = forms (key_columns schema)

take-forms : (n : ℕ) (columns : List ColumnShape) → forms (take n columns) ≡ take n (forms columns)
take-forms n columns = sym (take-map (λ (column : ColumnShape). wide column.kind) n columns)

forms-changed : (schema : SchemaShape) (change : Change) → IsTrue (is_schema schema) → IsTrue (is_admitted schema change) → key_forms (changed schema change) ≡ key_forms schema
forms-changed schema (Append column) lawful may =
    let is = lawful_from schema lawful in
    let within : schema.key_len ≤ length schema.columns = leb-true schema.key_len (length schema.columns) is.within in
    ap forms (take-append-le schema.key_len schema.columns (column ∷ []) within)
forms-changed schema (Widen name) lawful may =
    let is = lawful_from schema lawful in
    let refused = none_is (alter_refusal schema (Widen name)) (both_true (is_none (alter_refusal schema (Widen name))) true may).0 in
    let narrow = narrow_at_most name schema.columns is.differ refused in
    take-forms schema.key_len (map (widened name) schema.columns) ∙ ap (take schema.key_len) (forms-widened name schema.columns narrow) ∙ sym (take-forms schema.key_len schema.columns)

key_len-changed : (schema : SchemaShape) (change : Change) → (changed schema change).key_len ≡ schema.key_len
key_len-changed schema (Append column) = refl
key_len-changed schema (Widen name) = refl

pub forms-after : (schema : SchemaShape) (changes : List Change) → IsTrue (is_schema schema) → IsTrue (are_admitted schema changes) → (key_forms (after_changes schema changes) ≡ key_forms schema) × ((after_changes schema changes).key_len ≡ schema.key_len)
forms-after schema [] lawful may = (refl, refl)
forms-after schema (change ∷ changes) lawful may =
    let both = both_true (is_admitted schema change) (are_admitted (changed schema change) changes) may in
    let more = forms-after (changed schema change) changes (is_schema-changed schema change lawful both.0) both.1 in
    (more.0 ∙ forms-changed schema change lawful both.0, more.1 ∙ key_len-changed schema change)

pub forms-at : (versions : SchemaVersions) (ver : ℕ) → IsTrue (is_versions versions) → (key_forms (schema_at versions ver) ≡ key_forms versions.first) × ((schema_at versions ver).key_len ≡ versions.first.key_len)
forms-at versions ver lawful =
    let both = both_true (is_schema versions.first) (are_admitted versions.first versions.changes) lawful in
    forms-after versions.first (take ver versions.changes) both.0 (are_admitted-take versions.first versions.changes ver both.1)

-- ---- one value

pub value_order : (compare : List ℕ → List ℕ → Ordering) → IsByBytes compare → (kind : Kind) (x y : Value) (r s : List ℕ)
    → IsTrue (is_of_kind (wide kind) x) → IsTrue (is_of_kind (wide kind) y) → IsTrue (fits_word x) → IsTrue (fits_word y)
    → compare (in_key (wide kind) x ++ r) (in_key (wide kind) y ++ s) ≡ ordering_then (value_cmp x y) (compare r s)
unfolding in_key
value_order compare by Int32 (Int x) (Int y) r s kx ky wx wy =
    numbers compare by (turned x) (turned y) r s (turned_fits x wx) (turned_fits y wy) ∙ ap (λ (o : Ordering). ordering_then o (compare r s)) (turned_cmp x y wx wy)
value_order compare by Int32 (Int x) (Text y) r s kx ky wx wy = cc
value_order compare by Int32 (Int x) (Blob y) r s kx ky wx wy = cc
value_order compare by Int32 (Text x) y r s kx ky wx wy = cc
value_order compare by Int32 (Blob x) y r s kx ky wx wy = cc
value_order compare by Int64 (Int x) (Int y) r s kx ky wx wy =
    numbers compare by (turned x) (turned y) r s (turned_fits x wx) (turned_fits y wy) ∙ ap (λ (o : Ordering). ordering_then o (compare r s)) (turned_cmp x y wx wy)
value_order compare by Int64 (Int x) (Text y) r s kx ky wx wy = cc
value_order compare by Int64 (Int x) (Blob y) r s kx ky wx wy = cc
value_order compare by Int64 (Text x) y r s kx ky wx wy = cc
value_order compare by Int64 (Blob x) y r s kx ky wx wy = cc
value_order compare by Time (Int (pos m)) (Int (pos n)) r s kx ky wx wy =
    let m_fits : m < 2 ^ 64 = grind (arith, nat_tests) in
    let n_fits : n < 2 ^ 64 = grind (arith, nat_tests) in
    numbers compare by m n r s m_fits n_fits ∙ ap (λ (o : Ordering). ordering_then o (compare r s)) (moments_cmp m n)
value_order compare by Time (Int (pos m)) (Int (negsuc n)) r s kx ky wx wy = cc
value_order compare by Time (Int (negsuc m)) y r s kx ky wx wy = cc
value_order compare by Time (Int (pos m)) (Text y) r s kx ky wx wy = cc
value_order compare by Time (Int (pos m)) (Blob y) r s kx ky wx wy = cc
value_order compare by Time (Text x) y r s kx ky wx wy = cc
value_order compare by Time (Blob x) y r s kx ky wx wy = cc
value_order compare by TextKind (Text x) (Text y) r s kx ky wx wy = texts compare by x y r s
value_order compare by TextKind (Text x) (Int y) r s kx ky wx wy = cc
value_order compare by TextKind (Text x) (Blob y) r s kx ky wx wy = cc
value_order compare by TextKind (Int x) y r s kx ky wx wy = cc
value_order compare by TextKind (Blob x) y r s kx ky wx wy = cc
value_order compare by BlobKind (Blob x) (Blob y) r s kx ky wx wy = texts compare by x y r s
value_order compare by BlobKind (Blob x) (Int y) r s kx ky wx wy = cc
value_order compare by BlobKind (Blob x) (Text y) r s kx ky wx wy = cc
value_order compare by BlobKind (Int x) y r s kx ky wx wy = cc
value_order compare by BlobKind (Text x) y r s kx ky wx wy = cc

-- ---- lists of values

-- each value is of the kind at its place, as far as there are kinds
abbrev pub AreOf : List Kind → List Value → Type 0
AreOf kinds [] = Unit {0}
AreOf [] (value ∷ values) = Unit {0}
AreOf (kind ∷ kinds) (value ∷ values) = IsTrue (is_of_kind kind value) × IsTrue (fits_word value) × AreOf kinds values

is_wide : (kind : Kind) (value : Value) → IsTrue (is_of_kind kind value) → IsTrue (is_of_kind (wide kind) value)
is_wide Int32 (Int z) is = refl
is_wide Int32 (Text s) is = is
is_wide Int32 (Blob s) is = is
is_wide Int64 value is = is
is_wide Time value is = is
is_wide TextKind value is = is
is_wide BlobKind value is = is

kind_by : (b : Bool) (at : ℕ) (rest : Option ℕ) → cond b rest (Some at) ≡ None → IsTrue b × (rest ≡ None)
kind_by true at rest none = (refl, none)
kind_by false at rest none = absurd (cc)

pub of_forms : (n at : ℕ) (columns : List ColumnShape) (values : List Value) → wrong_kind_from at columns values ≡ None → IsTrue (list_all fits_word values) → AreOf (forms (take n columns)) values
of_forms n at columns [] none words = tt
of_forms zero at columns (value ∷ values) none words = tt
of_forms (suc n) at [] (value ∷ values) none words = tt
of_forms (suc n) at (column ∷ columns) (value ∷ values) none words =
    let here = kind_by (is_of_kind column.kind value) at (wrong_kind_from (at + 1) columns values) none in
    let word = both_true (fits_word value) (list_all fits_word values) words in
    (is_wide column.kind value here.0, word.0, of_forms n (at + 1) columns values here.1 word.1)

wide-wide : (kind : Kind) → wide (wide kind) ≡ wide kind
wide-wide Int32 = refl
wide-wide Int64 = refl
wide-wide Time = refl
wide-wide TextKind = refl
wide-wide BlobKind = refl

-- kinds that have no width
abbrev AllWide : List Kind → Type 0
AllWide [] = Unit {0}
AllWide (kind ∷ kinds) = (wide kind ≡ kind) × AllWide kinds

all_wide : (columns : List ColumnShape) → AllWide (forms columns)
all_wide [] = tt
all_wide (column ∷ columns) = (wide-wide column.kind, all_wide columns)

one_value : (compare : List ℕ → List ℕ → Ordering) → IsByBytes compare → (kind : Kind) (x y : Value) (r s : List ℕ) → wide kind ≡ kind
    → IsTrue (is_of_kind kind x) → IsTrue (is_of_kind kind y) → IsTrue (fits_word x) → IsTrue (fits_word y)
    → compare (in_key kind x ++ r) (in_key kind y ++ s) ≡ ordering_then (value_cmp x y) (compare r s)
one_value compare by kind x y r s is kx ky wx wy =
    subst (λ (k : Kind). compare (in_key k x ++ r) (in_key k y ++ s) ≡ ordering_then (value_cmp x y) (compare r s)) is
    (value_order compare by kind x y r s (rw is kx) (rw is ky) wx wy)

keys_by : (kinds : List Kind) (a b : List Value) → AllWide kinds → AreOf kinds a → AreOf kinds b → length kinds ≤ length a → length kinds ≤ length b
    → slice_cmp nat_cmp (spelled_as kinds a) (spelled_as kinds b) ≡ key_cmp (take (length kinds) a) (take (length kinds) b)
keys_by [] a b all of_a of_b long_a long_b = refl
keys_by (kind ∷ kinds) [] b all of_a of_b long_a long_b = absurd (omega arith)
keys_by (kind ∷ kinds) (x ∷ a) [] all of_a of_b long_a long_b = absurd (omega arith)
keys_by (kind ∷ kinds) (x ∷ a) (y ∷ b) all of_a of_b long_a long_b =
    one_value (slice_cmp nat_cmp) (λ i j r s. refl) kind x y (spelled_as kinds a) (spelled_as kinds b) all.0 of_a.0 of_b.0 of_a.1 of_b.1
    ∙ ap (λ (o : Ordering). ordering_then (value_cmp x y) o) (keys_by kinds a b all.1 of_a.2 of_b.2 (omega arith) (omega arith))

-- ---- a key and a cut

-- the key's front, as long as the bytes, with the bytes
abbrev front_cmp : List ℕ → List ℕ → Ordering
front_cmp key [] = Equal
front_cmp [] (b ∷ bytes) = Less
front_cmp (k ∷ key) (b ∷ bytes) = ordering_then (nat_cmp k b) (front_cmp key bytes)

leading_by : (kinds : List Kind) (row leading : List Value) → AllWide kinds → AreOf kinds row → AreOf kinds leading → length kinds ≤ length row → length leading ≤ length kinds
    → front_cmp (spelled_as kinds row) (spelled_as kinds leading) ≡ key_cmp (take (length leading) row) leading
leading_by [] row [] all of_row of_leading long short = refl
leading_by [] row (y ∷ leading) all of_row of_leading long short = absurd (omega arith)
leading_by (kind ∷ kinds) row [] all of_row of_leading long short = refl
leading_by (kind ∷ kinds) [] (y ∷ leading) all of_row of_leading long short = absurd (omega arith)
leading_by (kind ∷ kinds) (x ∷ row) (y ∷ leading) all of_row of_leading long short =
    one_value front_cmp (λ i j r s. refl) kind x y (spelled_as kinds row) (spelled_as kinds leading) all.0 of_row.0 of_leading.0 of_row.1 of_leading.1
    ∙ ap (λ (o : Ordering). ordering_then (value_cmp x y) o) (leading_by kinds row leading all.1 of_row.2 of_leading.2 (omega arith) (omega arith))

below_by : (after : Bool) (k b : ℕ) (o rest front : Ordering) (begins : Bool) → MatchOrdering o (k < b) (k ≡ b) (b < k)
    → (is_lt rest || (after && begins)) ≡ lies_below after (ordering_reverse front)
    → (is_lt (ordering_then o rest) || (after && (nat_eq b k && begins))) ≡ lies_below after (ordering_reverse (ordering_then o front))
below_by after k b Less rest front begins h is = refl
below_by after k b Equal rest front begins h is = rw (eq-eqb b k (sym h)) is
below_by true k b Greater rest front begins h is = rw (ne_eqb b k (λ e. omega arith)) refl
below_by false k b Greater rest front begins h is = refl

below_front : (after : Bool) (key bytes : List ℕ) → (is_less key bytes || (after && begins_with key bytes)) ≡ lies_below after (ordering_reverse (front_cmp key bytes))
below_front true [] [] = refl
below_front false [] [] = refl
below_front true (k ∷ key) [] = refl
below_front false (k ∷ key) [] = refl
below_front after [] (b ∷ bytes) = refl
below_front after (k ∷ key) (b ∷ bytes) =
    below_by after k b (nat_cmp k b) (slice_cmp nat_cmp key bytes) (front_cmp key bytes) (begins_with key bytes) (ranks k b) (below_front after key bytes)

-- ---- rows of versions

none_of_kind : (o : Option ℕ) (other : Option RowFault) → kind_fault o other ≡ None → o ≡ None
none_of_kind None other none = refl
none_of_kind (Some column) other none = absurd (cc)

arity_by : (b : Bool) (o : Option ℕ) (other : Option RowFault) (want got : ℕ) → cond b (kind_fault o other) (Some (Arity want got)) ≡ None → (b ≡ true) × (o ≡ None)
arity_by true o other want got none = (refl, none_of_kind o other none)
arity_by false o other want got none = absurd (cc)

pub passes_parts : (schema : SchemaShape) (row : List Value) → Passes schema row → (nat_eq (length row) (length schema.columns) ≡ true) × (wrong_kind_from 0 schema.columns row ≡ None)
passes_parts schema row passes = arity_by (nat_eq (length row) (length schema.columns)) (wrong_kind_from 0 schema.columns row) (length_fault schema row) (length schema.columns) (length row) passes

-- what the laws need of a row of a version
pub record IsFormed (versions : SchemaVersions) (schema : SchemaShape) (row : List Value) : Type 0 where
  pub spelled : key_bytes schema row ≡ spelled_as (key_forms versions.first) row
  pub formed : AreOf (key_forms versions.first) row
  pub long : length (key_forms versions.first) ≤ length row
  pub len : length (key_forms versions.first) ≡ versions.first.key_len

forms_len : (schema : SchemaShape) → IsTrue (is_schema schema) → length (key_forms schema) ≡ schema.key_len
forms_len schema lawful =
    let is = lawful_from schema lawful in
    let within : schema.key_len ≤ length schema.columns = leb-true schema.key_len (length schema.columns) is.within in
    length-map (take schema.key_len schema.columns) (λ (column : ColumnShape). wide column.kind) ∙ omega (arith, length-take schema.key_len schema.columns)

pub formed : (versions : SchemaVersions) (ver : ℕ) (row : List Value) → IsRowOf versions ver row → IsFormed versions (schema_at versions ver) row
formed versions ver row is =
    let schema = schema_at versions ver in
    let same = forms-at versions ver is.versions_lawful in
    let parts = passes_parts schema row is.passes in
    let first = (both_true (is_schema versions.first) (are_admitted versions.first versions.changes) is.versions_lawful).0 in
    let lawful = lawful_from schema (is_schema-at versions ver is.versions_lawful) in
    let within : schema.key_len ≤ length schema.columns = leb-true schema.key_len (length schema.columns) lawful.within in
    let arity : length row ≡ length schema.columns = grind (arith, nat_tests, parts.0) in
    let of_own : AreOf (key_forms schema) row = of_forms schema.key_len 0 schema.columns row parts.1 is.words in
    let len : length (key_forms versions.first) ≡ versions.first.key_len = forms_len versions.first first in
    record {
      spelled = spelled-forms (key_columns schema) row ∙ ap (λ (kinds : List Kind). spelled_as kinds row) same.0;
      formed = subst (λ (kinds : List Kind). AreOf kinds row) same.0 of_own;
      long = omega (arith, same.1, len, arity, within);
      len = len;
    }

pub keys_order : (versions : SchemaVersions) (ver_a ver_b : ℕ) (a b : List Value) → IsRowOf versions ver_a a → IsRowOf versions ver_b b
    → slice_cmp nat_cmp (key_bytes (schema_at versions ver_a) a) (key_bytes (schema_at versions ver_b) b) ≡ key_cmp (key_of versions.first a) (key_of versions.first b)
keys_order versions ver_a ver_b a b is_a is_b =
    let fa = formed versions ver_a a is_a in
    let fb = formed versions ver_b b is_b in
    rw (fa.spelled, fb.spelled) (keys_by (key_forms versions.first) a b (all_wide (key_columns versions.first)) fa.formed fb.formed fa.long fb.long ∙ ap (λ (n : ℕ). key_cmp (take n a) (take n b)) fa.len)

take_short : (n m : ℕ) (row : List Value) → n ≤ m → take n (take m row) ≡ take n row
take_short zero m row within = refl
take_short (suc n) zero row within = absurd (omega arith)
take_short (suc n) (suc m) [] within = refl
take_short (suc n) (suc m) (x ∷ row) within = ap (λ (r : List Value). x ∷ r) (take_short n m row (omega arith))

pub cuts_stand : (versions : SchemaVersions) (ver_cut ver_row : ℕ) (leading row : List Value) (after : Bool) → IsRowOf versions ver_row row
    → length leading ≤ versions.first.key_len → wrong_kind_from 0 (schema_at versions ver_cut).columns leading ≡ None → IsTrue (list_all fits_word leading)
    → is_below (record { bytes = key_bytes (schema_at versions ver_cut) leading; after = after }) (key_bytes (schema_at versions ver_row) row) ≡ lies_below after (leading_cmp leading (key_of versions.first row))
cuts_stand versions ver_cut ver_row leading row after is_row short kinds words =
    let fr = formed versions ver_row row is_row in
    let same = forms-at versions ver_cut is_row.versions_lawful in
    let schema = schema_at versions ver_cut in
    let spelled : key_bytes schema leading ≡ spelled_as (key_forms versions.first) leading = spelled-forms (key_columns schema) leading ∙ ap (λ (kinds : List Kind). spelled_as kinds leading) same.0 in
    let of_own : AreOf (key_forms schema) leading = of_forms schema.key_len 0 schema.columns leading kinds words in
    let of_leading : AreOf (key_forms versions.first) leading = subst (λ (kinds : List Kind). AreOf kinds leading) same.0 of_own in
    let compared = leading_by (key_forms versions.first) row leading (all_wide (key_columns versions.first)) fr.formed of_leading fr.long (omega (arith, fr.len)) in
    let turned_round : leading_cmp leading (key_of versions.first row) ≡ ordering_reverse (key_cmp (take (length leading) row) leading) =
    ap (key_cmp leading) (take_short (length leading) versions.first.key_len row short) ∙ key_cmp_total.antisymm leading (take (length leading) row) in
    rw (spelled, fr.spelled) (below_front after (spelled_as (key_forms versions.first) row) (spelled_as (key_forms versions.first) leading) ∙ ap (λ (o : Ordering). lies_below after (ordering_reverse o)) compared ∙ ap (lies_below after) (sym turned_round))
