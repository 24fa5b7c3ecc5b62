-- A lawful schema stays lawful under each change that it admits, and admits few of them in turn.
use Rattle.std.proofs.Common.{◌≡◌, ℕ, zero, suc, ◌+◌, ◌-◌, ◌*◌, ◌≤◌, Bool, true, false, cond, List, [], ◌∷◌, ◌++◌, length, get_or, take, map, Option, refl, ap, subst, ◌∙◌, arith}
use Rattle.std.specs.Prelude.{Some, None, IsTrue, nat_le, not, ◌&&◌, ◌||◌, find, slice_get}
use Rattle.std.specs.List.{list_all, list_any}
use Rattle.std.specs.Option.{is_none}
use Rattle.std.proofs.lemmas.Cmp.{nat_list_eq_equiv}
use Rattle.std.proofs.lemmas.Bool.{leb-true}
use Rattle.std.proofs.lemmas.List.{length-append, length-map}
use Rattle.std.proofs.lemmas.List.Folds.{list_all-append, list_any-append}
use Rattle.lt_schema.specs.declared.kind.Kind.{Kind}
use Rattle.lt_schema.specs.declared.kind.Kind.TheVariants.{Int32, Int64, Time, Text as TextKind, Blob as BlobKind}
use Rattle.lt_schema.specs.declared.value.Value.{Value}
use Rattle.lt_schema.specs.declared.value.Value.TheVariants.{Int, Text, Blob}
use Rattle.lt_schema.specs.declared.change.Change.{Change}
use Rattle.lt_schema.specs.declared.change.Change.TheVariants.{Append, Widen}
use Rattle.lt_schema.specs.declared.change.AlterError.{AlterError}
use Rattle.lt_schema.specs.declared.change.AlterError.TheVariants.{Exists, TooMany, BadDefault, NotInt32}
use Rattle.lt_schema.specs.Shapes.{ColumnShape, SchemaShape}
use Rattle.lt_schema.specs.Names.{is_name}
use Rattle.lt_schema.specs.Values.{is_of_kind}
use Rattle.lt_schema.specs.Lawful.{is_schema, is_time_column, has_name, names_differ, is_short, has_lawful_default}
use Rattle.lt_schema.specs.Versions.{SchemaVersions, widened, changed, after_changes, schema_at, newest, is_int32_kind, widening_refusal, alter_refusal, has_lawful_name, is_admitted, are_admitted, is_versions, after_each, all_versions}

pub both_true : (a b : Bool) → IsTrue (a && b) → IsTrue a × IsTrue b
both_true true true holds = (refl, refl)
both_true true false holds = (refl, holds)
both_true false true holds = (holds, refl)
both_true false false holds = (holds, holds)

pub and_true : (a b : Bool) → IsTrue a → IsTrue b → IsTrue (a && b)
and_true true b left right = right
and_true false b left right = left

-- the rules of a schema, one by one
pub record IsLawful (s : SchemaShape) : Type 0 where
  pub small : IsTrue (nat_le (length s.columns) 64)
  pub some : IsTrue (nat_le 1 s.key_len)
  pub within : IsTrue (nat_le s.key_len (length s.columns))
  pub timed : IsTrue (is_time_column (slice_get s.columns (s.key_len - 1)))
  pub named : IsTrue (list_all (λ column. is_name column.name) s.columns)
  pub differ : IsTrue (names_differ s.columns)
  pub defaults : IsTrue (list_all has_lawful_default s.columns)

seven : (a b c d e f g : Bool) → IsTrue (a && b && c && d && e && f && g) → IsTrue a × IsTrue b × IsTrue c × IsTrue d × IsTrue e × IsTrue f × IsTrue g
seven a b c d e f g holds =
    let p6 = both_true (a && b && c && d && e && f) g holds in
    let p5 = both_true (a && b && c && d && e) f p6.0 in
    let p4 = both_true (a && b && c && d) e p5.0 in
    let p3 = both_true (a && b && c) d p4.0 in
    let p2 = both_true (a && b) c p3.0 in
    let p1 = both_true a b p2.0 in
    (p1.0, p1.1, p2.1, p3.1, p4.1, p5.1, p6.1)

pub lawful_from : (s : SchemaShape) → IsTrue (is_schema s) → IsLawful s
lawful_from s holds =
    let p = seven (nat_le (length s.columns) 64) (nat_le 1 s.key_len) (nat_le s.key_len (length s.columns)) (is_time_column (slice_get s.columns (s.key_len - 1)))
    (list_all (λ column. is_name column.name) s.columns) (names_differ s.columns) (list_all has_lawful_default s.columns) holds in
    record { small = p.0; some = p.1; within = p.2; timed = p.3; named = p.4; differ = p.5; defaults = p.6 }

pub lawful_to : (s : SchemaShape) → IsLawful s → IsTrue (is_schema s)
lawful_to s is =
    let p1 = and_true (nat_le (length s.columns) 64) (nat_le 1 s.key_len) is.small is.some in
    let p2 = and_true _ (nat_le s.key_len (length s.columns)) p1 is.within in
    let p3 = and_true _ (is_time_column (slice_get s.columns (s.key_len - 1))) p2 is.timed in
    let p4 = and_true _ (list_all (λ column. is_name column.name) s.columns) p3 is.named in
    let p5 = and_true _ (names_differ s.columns) p4 is.differ in
    and_true _ (list_all has_lawful_default s.columns) p5 is.defaults

-- a column of another kind keeps its name
widened-name : (name : List ℕ) (column : ColumnShape) → (widened name column).name ≡ column.name
widened-name name column = go (has_name name column)
  where
    go : (b : Bool) → (cond b (record column { kind = Int64 }) column).name ≡ column.name
    go true = refl
    go false = refl

any-widened : (m name : List ℕ) (columns : List ColumnShape) → list_any (has_name m) (map (widened name) columns) ≡ list_any (has_name m) columns
any-widened m name [] = refl
any-widened m name (column ∷ columns) = rw (widened-name name column, any-widened m name columns) refl

names-widened : (name : List ℕ) (columns : List ColumnShape) → list_all (λ column. is_name column.name) (map (widened name) columns) ≡ list_all (λ column. is_name column.name) columns
names-widened name [] = refl
names-widened name (column ∷ columns) = rw (widened-name name column, names-widened name columns) refl

differ-widened : (name : List ℕ) (columns : List ColumnShape) → names_differ (map (widened name) columns) ≡ names_differ columns
differ-widened name [] = refl
differ-widened name (column ∷ columns) = rw (widened-name name column, any-widened column.name name columns, differ-widened name columns) refl

-- each column of the name has 32 bits
abbrev pub narrow_where_named : List ℕ → ColumnShape → Bool
narrow_where_named name column = not (has_name name column) || is_int32_kind column.kind

named_or_narrow : (name : List ℕ) (column : ColumnShape) (columns : List ColumnShape) (b : Bool) → has_name name column ≡ b → IsTrue (not (b || list_any (has_name name) columns))
    → (IsTrue (not (list_any (has_name name) columns)) → IsTrue (list_all (narrow_where_named name) columns)) → IsTrue (list_all (narrow_where_named name) (column ∷ columns))
named_or_narrow name column columns true is none others = cc
named_or_narrow name column columns false is none others = rw is (others none)

none_named : (name : List ℕ) (columns : List ColumnShape) → IsTrue (not (list_any (has_name name) columns)) → IsTrue (list_all (narrow_where_named name) columns)
none_named name [] none = refl
none_named name (column ∷ columns) none = named_or_narrow name column columns (has_name name column) refl none (none_named name columns)

same_names : (name : List ℕ) (column : ColumnShape) (columns : List ColumnShape) → has_name name column ≡ true → list_any (has_name column.name) columns ≡ list_any (has_name name) columns
same_names name column [] same = refl
same_names name column (other ∷ columns) same =
    let turned : has_name column.name other ≡ has_name name other = nat_list_eq_equiv.symm other.name column.name ∙ nat_list_eq_equiv.congr column.name name other.name same ∙ nat_list_eq_equiv.symm name other.name in
    rw (turned, same_names name column columns same) refl

kind_is_narrow : (b : Bool) → cond b None (Some NotInt32) ≡ None → b ≡ true
kind_is_narrow true is = refl
kind_is_narrow false is = cc

first_named : (name : List ℕ) (column : ColumnShape) (columns : List ColumnShape) (b : Bool) → has_name name column ≡ b → widening_refusal (cond b (Some column) (find (has_name name) columns)) ≡ None
    → IsTrue (names_differ (column ∷ columns)) → (widening_refusal (find (has_name name) columns) ≡ None → IsTrue (list_all (narrow_where_named name) columns)) → IsTrue (list_all (narrow_where_named name) (column ∷ columns))
first_named name column columns true is may differ others =
    let d = both_true (not (list_any (has_name column.name) columns)) (names_differ columns) differ in
    let rest : IsTrue (list_all (narrow_where_named name) columns) = none_named name columns (subst (λ (b : Bool). IsTrue (not b)) (same_names name column columns is) d.0) in
    rw (is, kind_is_narrow (is_int32_kind column.kind) may) rest
first_named name column columns false is may differ others = rw is (others may)

pub narrow_at_most : (name : List ℕ) (columns : List ColumnShape) → IsTrue (names_differ columns) → widening_refusal (find (has_name name) columns) ≡ None → IsTrue (list_all (narrow_where_named name) columns)
narrow_at_most name [] differ may = refl
narrow_at_most name (column ∷ columns) differ may =
    first_named name column columns (has_name name column) refl may differ
    (narrow_at_most name columns (both_true (not (list_any (has_name column.name) columns)) (names_differ columns) differ).1)

-- integers of 32 bits are integers of 64 bits
default-widened : (name : List ℕ) (column : ColumnShape) → IsTrue (narrow_where_named name column) → IsTrue (has_lawful_default column) → IsTrue (has_lawful_default (widened name column))
default-widened name column narrow lawful = go (has_name name column) column.kind column.default narrow lawful
  where
    go : (b : Bool) (kind : Kind) (default : Value) → IsTrue (not b || is_int32_kind kind) → IsTrue (is_of_kind kind default && is_short default)
        → IsTrue (has_lawful_default (cond b (record { name = column.name; kind = Int64; default = default }) (record { name = column.name; kind = kind; default = default })))
    go false kind default narrow lawful = lawful
    go true Int32 (Int x) narrow lawful = refl
    go true Int32 (Text x) narrow lawful = lawful
    go true Int32 (Blob x) narrow lawful = lawful
    go true Int64 default narrow lawful = cc
    go true Time default narrow lawful = cc
    go true TextKind default narrow lawful = cc
    go true BlobKind default narrow lawful = cc

defaults-widened : (name : List ℕ) (columns : List ColumnShape) → IsTrue (list_all (narrow_where_named name) columns) → IsTrue (list_all has_lawful_default columns) → IsTrue (list_all has_lawful_default (map (widened name) columns))
defaults-widened name [] narrow lawful = refl
defaults-widened name (column ∷ columns) narrow lawful =
    let n = both_true (narrow_where_named name column) (list_all (narrow_where_named name) columns) narrow in
    let l = both_true (has_lawful_default column) (list_all has_lawful_default columns) lawful in
    and_true (has_lawful_default (widened name column)) (list_all has_lawful_default (map (widened name) columns)) (default-widened name column n.0 l.0) (defaults-widened name columns n.1 l.1)

-- a time keeps its kind
time-widened : (name : List ℕ) (columns : List ColumnShape) (i : ℕ) → IsTrue (list_all (narrow_where_named name) columns) → IsTrue (is_time_column (slice_get columns i)) → IsTrue (is_time_column (slice_get (map (widened name) columns) i))
time-widened name [] i narrow timed = timed
time-widened name (column ∷ columns) zero narrow timed = go (has_name name column) column.kind (both_true (narrow_where_named name column) (list_all (narrow_where_named name) columns) narrow).0 timed
  where
    go : (b : Bool) (kind : Kind) → IsTrue (not b || is_int32_kind kind) → IsTrue (is_time_column (Some (record column { kind = kind })))
        → IsTrue (is_time_column (Some (cond b (record column { kind = Int64 }) (record column { kind = kind }))))
    go false kind narrow timed = timed
    go true Int32 narrow timed = timed
    go true Int64 narrow timed = timed
    go true Time narrow timed = cc
    go true TextKind narrow timed = timed
    go true BlobKind narrow timed = timed
time-widened name (column ∷ columns) (suc i) narrow timed = time-widened name columns i (both_true (narrow_where_named name column) (list_all (narrow_where_named name) columns) narrow).1 timed

pub is_schema-widened : (s : SchemaShape) (name : List ℕ) → IsTrue (is_schema s) → alter_refusal s (Widen name) ≡ None → IsTrue (is_schema (changed s (Widen name)))
is_schema-widened s name lawful may =
    let is = lawful_from s lawful in
    let narrow = narrow_at_most name s.columns is.differ may in
    lawful_to (changed s (Widen name)) (record {
      small = rw (length-map s.columns (widened name)) is.small;
      some = is.some;
      within = rw (length-map s.columns (widened name)) is.within;
      timed = time-widened name s.columns (s.key_len - 1) narrow is.timed;
      named = rw (names-widened name s.columns) is.named;
      differ = rw (differ-widened name s.columns) is.differ;
      defaults = defaults-widened name s.columns narrow is.defaults;
    })

not_any : (a b : Bool) → IsTrue (not a) → IsTrue (not b) → IsTrue (not (a || b || false))
not_any true b na nb = na
not_any false true na nb = nb
not_any false false na nb = refl

differ-appended : (columns : List ColumnShape) (column : ColumnShape) → IsTrue (names_differ columns) → list_any (has_name column.name) columns ≡ false → IsTrue (names_differ (columns ++ column ∷ []))
differ-appended [] column differ free = refl
differ-appended (first ∷ columns) column differ free =
    let d = both_true (not (list_any (has_name first.name) columns)) (names_differ columns) differ in
    let f = free_parts (has_name column.name first) (list_any (has_name column.name) columns) free in
    let turned : has_name first.name column ≡ false = nat_list_eq_equiv.symm column.name first.name ∙ f.0 in
    and_true (not (list_any (has_name first.name) (columns ++ column ∷ []))) (names_differ (columns ++ column ∷ []))
    (rw (list_any-append (has_name first.name) columns (column ∷ []), turned) (not_or_false (list_any (has_name first.name) columns) d.0))
    (differ-appended columns column d.1 f.1)
  where
    free_parts : (a b : Bool) → (a || b) ≡ false → (a ≡ false) × (b ≡ false)
    free_parts true b is = cc
    free_parts false b is = (refl, is)

    not_or_false : (a : Bool) → IsTrue (not a) → IsTrue (not (a || (false || false)))
    not_or_false true n = n
    not_or_false false n = refl

time-appended : (columns : List ColumnShape) (column : ColumnShape) (i : ℕ) → IsTrue (is_time_column (slice_get columns i)) → IsTrue (is_time_column (slice_get (columns ++ column ∷ []) i))
time-appended [] column i timed = cc
time-appended (first ∷ columns) column zero timed = timed
time-appended (first ∷ columns) column (suc i) timed = time-appended columns column i timed

-- what an admitted column keeps
appends : (a b c : Bool) → cond a (Some Exists) (cond b (Some TooMany) (cond c None (Some BadDefault))) ≡ None → (a ≡ false) × (b ≡ false) × (c ≡ true)
appends true b c none = cc
appends false true c none = cc
appends false false true none = (refl, refl, refl)
appends false false false none = cc

small-appended : (n : ℕ) → nat_le 64 n ≡ false → IsTrue (nat_le (n + 1) 64)
small-appended n below = grind arith

pub is_schema-appended : (s : SchemaShape) (column : ColumnShape) → IsTrue (is_schema s) → IsTrue (is_name column.name) → alter_refusal s (Append column) ≡ None → IsTrue (is_schema (changed s (Append column)))
is_schema-appended s column lawful name may =
    let is = lawful_from s lawful in
    let a = appends (list_any (has_name column.name) s.columns) (nat_le 64 (length s.columns)) (has_lawful_default column) may in
    let more : length (s.columns ++ column ∷ []) ≡ length s.columns + 1 = length-append s.columns (column ∷ []) in
    lawful_to (changed s (Append column)) (record {
      small = rw more (small-appended (length s.columns) a.1);
      some = is.some;
      within = rw more (within_more s.key_len (length s.columns) is.within);
      timed = time-appended s.columns column (s.key_len - 1) is.timed;
      named = rw (list_all-append (λ column. is_name column.name) s.columns (column ∷ [])) (and_true (list_all (λ column. is_name column.name) s.columns) (is_name column.name && true) is.named (and_true (is_name column.name) true name refl));
      differ = differ-appended s.columns column is.differ a.0;
      defaults = rw (list_all-append has_lawful_default s.columns (column ∷ [])) (and_true (list_all has_lawful_default s.columns) (has_lawful_default column && true) is.defaults (and_true (has_lawful_default column) true a.2 refl));
    })
  where
    within_more : (k n : ℕ) → IsTrue (nat_le k n) → IsTrue (nat_le k (n + 1))
    within_more k n within = grind arith

pub none_is : (o : Option AlterError) → IsTrue (is_none o) → o ≡ None
none_is None is = refl
none_is (Some why) is = cc

pub is_schema-changed : (s : SchemaShape) (change : Change) → IsTrue (is_schema s) → IsTrue (is_admitted s change) → IsTrue (is_schema (changed s change))
is_schema-changed s (Append column) lawful may =
    let m = both_true (is_none (alter_refusal s (Append column))) (is_name column.name) may in
    is_schema-appended s column lawful m.1 (none_is (alter_refusal s (Append column)) m.0)
is_schema-changed s (Widen name) lawful may =
    is_schema-widened s name lawful (none_is (alter_refusal s (Widen name)) (both_true (is_none (alter_refusal s (Widen name))) true may).0)

-- each version is lawful
pub is_schema-after : (s : SchemaShape) (changes : List Change) → IsTrue (is_schema s) → IsTrue (are_admitted s changes) → IsTrue (is_schema (after_changes s changes))
is_schema-after s [] lawful may = lawful
is_schema-after s (change ∷ changes) lawful may =
    let m = both_true (is_admitted s change) (are_admitted (changed s change) changes) may in
    is_schema-after (changed s change) changes (is_schema-changed s change lawful m.0) m.1

pub are_admitted-take : (s : SchemaShape) (changes : List Change) (n : ℕ) → IsTrue (are_admitted s changes) → IsTrue (are_admitted s (take n changes))
are_admitted-take s changes zero may = refl
are_admitted-take s [] (suc n) may = refl
are_admitted-take s (change ∷ changes) (suc n) may =
    let m = both_true (is_admitted s change) (are_admitted (changed s change) changes) may in
    and_true (is_admitted s change) (are_admitted (changed s change) (take n changes)) m.0 (are_admitted-take (changed s change) changes n m.1)

pub is_schema-at : (v : SchemaVersions) (ver : ℕ) → IsTrue (is_versions v) → IsTrue (is_schema (schema_at v ver))
is_schema-at v ver lawful =
    let m = both_true (is_schema v.first) (are_admitted v.first v.changes) lawful in
    is_schema-after v.first (take ver v.changes) m.0 (are_admitted-take v.first v.changes ver m.1)

pub is_schema-newest : (v : SchemaVersions) → IsTrue (is_versions v) → IsTrue (is_schema (newest v))
is_schema-newest v lawful =
    let m = both_true (is_schema v.first) (are_admitted v.first v.changes) lawful in
    is_schema-after v.first v.changes m.0 m.1

-- one change more
are_admitted-more : (s : SchemaShape) (changes : List Change) (change : Change) → IsTrue (are_admitted s changes) → IsTrue (is_admitted (after_changes s changes) change) → IsTrue (are_admitted s (changes ++ change ∷ []))
are_admitted-more s [] change may more = and_true (is_admitted s change) true more refl
are_admitted-more s (first ∷ changes) change may more =
    let m = both_true (is_admitted s first) (are_admitted (changed s first) changes) may in
    and_true (is_admitted s first) (are_admitted (changed s first) (changes ++ change ∷ [])) m.0 (are_admitted-more (changed s first) changes change m.1 more)

pub is_versions-more : (v : SchemaVersions) (change : Change) → IsTrue (is_versions v) → alter_refusal (newest v) change ≡ None → IsTrue (has_lawful_name change) → IsTrue (is_versions (record { first = v.first; changes = v.changes ++ change ∷ [] }))
is_versions-more v change lawful may name =
    let m = both_true (is_schema v.first) (are_admitted v.first v.changes) lawful in
    let refused : IsTrue (is_none (alter_refusal (newest v) change)) = rw may refl in
    and_true (is_schema v.first) (are_admitted v.first (v.changes ++ change ∷ [])) m.0
    (are_admitted-more v.first v.changes change m.1 (and_true (is_none (alter_refusal (newest v) change)) (has_lawful_name change) refused name))

after_each-more : (s : SchemaShape) (changes : List Change) (change : Change) → after_each s changes ++ changed (after_changes s changes) change ∷ [] ≡ after_each s (changes ++ change ∷ [])
after_each-more s [] change = refl
after_each-more s (first ∷ changes) change = rw (after_each-more (changed s first) changes change) refl

pub all_versions-more : (v : SchemaVersions) (change : Change) → all_versions v ++ changed (newest v) change ∷ [] ≡ all_versions (record { first = v.first; changes = v.changes ++ change ∷ [] })
all_versions-more v change = ap (λ (others : List SchemaShape). v.first ∷ others) (after_each-more v.first v.changes change)

pub length-after_each : (s : SchemaShape) (changes : List Change) → length (after_each s changes) ≡ length changes
length-after_each s [] = refl
length-after_each s (change ∷ changes) = ap suc (length-after_each (changed s change) changes)

version_at : (s : SchemaShape) (changes : List Change) (ver : ℕ) (d : SchemaShape) → ver ≤ length changes → get_or (s ∷ after_each s changes) ver d ≡ after_changes s (take ver changes)
version_at s changes zero d within = refl
version_at s [] (suc ver) d within = absurd (omega arith)
version_at s (change ∷ changes) (suc ver) d within = version_at (changed s change) changes ver d (omega arith)

pub all_versions-at : (v : SchemaVersions) (ver : ℕ) (d : SchemaShape) → ver ≤ length v.changes → get_or (all_versions v) ver d ≡ schema_at v ver
all_versions-at v ver d within = version_at v.first v.changes ver d within

newest_is : (s : SchemaShape) (changes : List Change) (d : SchemaShape) → get_or (s ∷ after_each s changes) (length changes) d ≡ after_changes s changes
newest_is s [] d = refl
newest_is s (change ∷ changes) d = newest_is (changed s change) changes d

pub all_versions-newest : (v : SchemaVersions) (d : SchemaShape) → get_or (all_versions v) (length v.changes) d ≡ newest v
all_versions-newest v d = newest_is v.first v.changes d

-- how many columns have 32 bits
abbrev narrow : List ColumnShape → ℕ
narrow [] = 0
narrow (column ∷ columns) = cond (is_int32_kind column.kind) 1 0 + narrow columns

narrow-append : (xs ys : List ColumnShape) → narrow (xs ++ ys) ≡ narrow xs + narrow ys
narrow-append [] ys = omega arith
narrow-append (x ∷ xs) ys = omega (arith, narrow-append xs ys)

one_at_most : (b : Bool) → cond b 1 0 ≤ 1
one_at_most true = omega arith
one_at_most false = omega arith

narrow-few : (xs : List ColumnShape) → narrow xs ≤ length xs
narrow-few [] = omega arith
narrow-few (x ∷ xs) = omega (arith, narrow-few xs, one_at_most (is_int32_kind x.kind))

narrow-widened : (name : List ℕ) (xs : List ColumnShape) → narrow (map (widened name) xs) ≤ narrow xs
narrow-widened name [] = omega arith
narrow-widened name (x ∷ xs) = omega (arith, narrow-widened name xs, go (has_name name x))
  where
    go : (b : Bool) → cond (is_int32_kind (cond b (record x { kind = Int64 }) x).kind) 1 0 ≤ cond (is_int32_kind x.kind) 1 0
    go true = omega arith
    go false = omega arith

falls_first : (name : List ℕ) (x : ColumnShape) (xs : List ColumnShape) (b : Bool) → has_name name x ≡ b → widening_refusal (cond b (Some x) (find (has_name name) xs)) ≡ None
    → (widening_refusal (find (has_name name) xs) ≡ None → narrow (map (widened name) xs) + 1 ≤ narrow xs) → narrow (map (widened name) (x ∷ xs)) + 1 ≤ narrow (x ∷ xs)
falls_first name x xs true is may others = rw (is, kind_is_narrow (is_int32_kind x.kind) may) (omega (arith, narrow-widened name xs))
falls_first name x xs false is may others = rw is (omega (arith, others may))

narrow-falls : (name : List ℕ) (xs : List ColumnShape) → widening_refusal (find (has_name name) xs) ≡ None → narrow (map (widened name) xs) + 1 ≤ narrow xs
narrow-falls name [] may = cc
narrow-falls name (x ∷ xs) may = falls_first name x xs (has_name name x) refl may (narrow-falls name xs)

-- each change takes from this
abbrev room : SchemaShape → ℕ
room s = 2 * (64 - length s.columns) + narrow s.columns

room-falls : (s : SchemaShape) (change : Change) → IsTrue (is_admitted s change) → room (changed s change) + 1 ≤ room s
room-falls s (Append column) may =
    let m = none_is (alter_refusal s (Append column)) (both_true (is_none (alter_refusal s (Append column))) (is_name column.name) may).0 in
    let a = appends (list_any (has_name column.name) s.columns) (nat_le 64 (length s.columns)) (has_lawful_default column) m in
    let few : length s.columns + 1 ≤ 64 = leb-true (length s.columns + 1) 64 (small-appended (length s.columns) a.1) in
    omega (arith, length-append s.columns (column ∷ []), narrow-append s.columns (column ∷ []), one_at_most (is_int32_kind column.kind))
room-falls s (Widen name) may =
    let m = none_is (alter_refusal s (Widen name)) (both_true (is_none (alter_refusal s (Widen name))) true may).0 in
    omega (arith, length-map s.columns (widened name), narrow-falls name s.columns m)

few_changes : (s : SchemaShape) (changes : List Change) → IsTrue (are_admitted s changes) → length changes ≤ room s
few_changes s [] may = omega arith
few_changes s (change ∷ changes) may =
    let m = both_true (is_admitted s change) (are_admitted (changed s change) changes) may in
    omega (arith, few_changes (changed s change) changes m.1, room-falls s change m.0)

-- A column is appended or widened, and widened once: so there are at most 127 changes.
pub changes_few : (v : SchemaVersions) → IsTrue (is_versions v) → length v.changes ≤ 127
changes_few v lawful =
    let m = both_true (is_schema v.first) (are_admitted v.first v.changes) lawful in
    let is = lawful_from v.first m.0 in
    let some : 1 ≤ v.first.key_len = leb-true 1 v.first.key_len is.some in
    let within : v.first.key_len ≤ length v.first.columns = leb-true v.first.key_len (length v.first.columns) is.within in
    let small : length v.first.columns ≤ 64 = leb-true (length v.first.columns) 64 is.small in
    omega (arith, few_changes v.first v.changes m.1, narrow-few v.first.columns)
