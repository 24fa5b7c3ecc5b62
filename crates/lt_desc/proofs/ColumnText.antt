-- Columns and the first schema: what is read is so spelled, and what is so spelled is read.
use Rattle.std.proofs.Common.{◌≡◌, ℕ, zero, suc, ◌+◌, ◌-◌, ◌<◌, ◌≤◌, Bool, true, false, eqb, leb, List, [], ◌∷◌, ◌++◌, length, Result, Ok, refl, sym, ap, subst, ◌∙◌, append_assoc, arith, inl, inr}
use Rattle.std.specs.Prelude.{IsTrue, Option, Some, None, not, ◌&&◌, ◌||◌, slice_get}
use Rattle.std.specs.List.{list_all, list_any, flat_map}
use Rattle.std.specs.Int.{w32, to_be_bytes}
use Rattle.std.proofs.lemmas.Bool.{eqb-true, eq-eqb, and_parts, and_from, leb-true, le-leb, cases_lt}
use Rattle.std.proofs.lemmas.List.{length-append, append-nil}
use Rattle.std.proofs.lemmas.List.Folds.{list_all-append, list_any-append}
use Rattle.std.proofs.lemmas.Grind.{flat_map-append}
use Rattle.std.proofs.lemmas.Cmp.{nat_list_eq_equiv}
use Rattle.lt_schema.specs.declared.kind.Kind.{Kind}
use Rattle.lt_schema.specs.declared.value.Value.{Value}
use Rattle.lt_schema.specs.Shapes.{ColumnShape, SchemaShape}
use Rattle.lt_schema.specs.Names.{is_letter, is_name, is_name_byte}
use Rattle.lt_schema.specs.Values.{is_of_kind}
use Rattle.lt_schema.specs.Lawful.{has_name, names_differ, is_short, has_lawful_default, is_time_kind, is_time_column, is_schema}
use Rattle.lt_schema.proofs.Growing.{lawful_from, lawful_to}
use Rattle.lt_desc.specs.Lawful.{fits_column}
use Rattle.lt_desc.specs.Spelling.{counted, kind_byte, value_spelled, column_spelled, first_spelled}
use Rattle.lt_rec.specs.Reading.{◌>>=◌, place, asked, is_within}
use Rattle.lt_desc.specs.Reading.{number_where, counted_at, kind_at, value_at, is_new_name, may_be, is_default, blamed, column_at, behind, repeated, next_column, first_at}
use Rattle.lt_rec.proofs.Reading.{IsBytes, bind_ok, ok_is, asked_ok, asked_again, Takes, Takes-then}
use Rattle.lt_desc.proofs.Taken.{counted_takes, counted_again, where32, again_where32}
use Rattle.lt_desc.proofs.First.{within_parts, within_from}
use Rattle.lt_desc.proofs.Values.{kind_takes, kind_again, value_takes, value_again}
use Rattle.lt_desc.proofs.Turns.{turns_keep}

pub not_true : (a : Bool) → not a ≡ true → a ≡ false
not_true true e = absurd cc
not_true false e = refl

pub not_false : (a : Bool) → a ≡ false → not a ≡ true
not_false true e = absurd cc
not_false false e = refl

pub not_or : (a b : Bool) → (a || b) ≡ false → (a ≡ false) × (b ≡ false)
not_or true b e = absurd cc
not_or false b e = (refl, e)

pub or_not : (a b : Bool) → a ≡ false → b ≡ false → (a || b) ≡ false
or_not true b p q = absurd cc
or_not false b p q = q

-- ---- a column

-- what was read behind other columns
pub record ColumnFound (key_len : ℕ) (before : List ColumnShape) (bytes : List ℕ) (x : ColumnShape × List ℕ) : Type 0 where
  pub takes : Takes bytes (column_spelled x.0) x.1
  pub named : is_name x.0.name ≡ true
  pub new : list_any (has_name x.0.name) before ≡ false
  pub due : may_be key_len before x.0.kind ≡ true
  pub default : has_lawful_default x.0 ≡ true
  pub fits : fits_column x.0 ≡ true

abbrev made : List ℕ → Kind → Value → ColumnShape
made name kind default = record { name = name; kind = kind; default = default }

abbrev from_kind : (tag : Option ℕ) (total : ℕ) (name : List ℕ) → Kind × List ℕ → Result (ColumnShape × List ℕ) ℕ
from_kind tag total name kind = asked (is_default kind.0) (blamed tag (place total kind.1)) (value_at kind.0 total kind.1) >>= λ default. Ok (made name kind.0 default.0, default.1)

abbrev from_name : (tag : Option ℕ) (key_len : ℕ) (before : List ColumnShape) (total : ℕ) → List ℕ × List ℕ → Result (ColumnShape × List ℕ) ℕ
from_name tag key_len before total name = asked (may_be key_len before) (place total name.1) (kind_at total name.1) >>= from_kind tag total name.0

pub column_takes : (tag : Option ℕ) (key_len : ℕ) (before : List ColumnShape) (total : ℕ) (bytes : List ℕ) (x : ColumnShape × List ℕ) → IsBytes bytes → column_at tag key_len before total bytes ≡ Ok x → ColumnFound key_len before bytes x
unfolding column_at column_spelled
column_takes tag key_len before total bytes x fits e =
    let a = bind_ok (asked (is_new_name before) (blamed tag (place total bytes)) (counted_at total bytes)) (from_name tag key_len before total) x e in
    let b = bind_ok (asked (may_be key_len before) (place total a.0.1) (kind_at total a.0.1)) (from_kind tag total a.0.0) x a.2 in
    let c = bind_ok (asked (is_default b.0.0) (blamed tag (place total b.0.1)) (value_at b.0.0 total b.0.1)) (λ default. Ok (made a.0.0 b.0.0 default.0, default.1)) x b.2 in
    let ga = asked_ok (is_new_name before) (blamed tag (place total bytes)) (counted_at total bytes) a.0 a.1 in
    let gb = asked_ok (may_be key_len before) (place total a.0.1) (kind_at total a.0.1) b.0 b.1 in
    let gc = asked_ok (is_default b.0.0) (blamed tag (place total b.0.1)) (value_at b.0.0 total b.0.1) c.0 c.1 in
    let ta = counted_takes total bytes a.0 fits ga.0 in
    let tb = kind_takes total a.0.1 b.0 ta.0.rest_fits gb.0 in
    let tc = value_takes b.0.0 total b.0.1 c.0 tb.rest_fits gc.0 in
    let n = and_parts (is_name a.0.0) (not (list_any (has_name a.0.0) before)) ga.1 in
    let p2 = Takes-then a.0.1 (kind_byte b.0.0 ∷ []) b.0.1 (value_spelled b.0.0 c.0.0) c.0.1 tb tc.0 in
    let p1 = Takes-then bytes (counted a.0.0) a.0.1 (kind_byte b.0.0 ∷ value_spelled b.0.0 c.0.0) c.0.1 ta.0 p2 in
    subst (ColumnFound key_len before bytes) (ok_is (made a.0.0 b.0.0 c.0.0, c.0.1) x c.2)
    (record { takes = p1; named = n.0; new = not_true (list_any (has_name a.0.0) before) n.1; due = gb.1; default = gc.1; fits = tc.1 })

pub name_short : (name : List ℕ) → is_name name ≡ true → length name ≤ 64
name_short [] e = absurd cc
name_short (b ∷ bs) e =
    let p = and_parts (is_letter b && list_all is_name_byte bs) (leb (length bs) 63) e in
    omega (arith, leb-true (length bs) 63 p.1)

pub column_again : (tag : Option ℕ) (key_len : ℕ) (before : List ColumnShape) (total : ℕ) (column : ColumnShape) (rest : List ℕ)
    → is_name column.name ≡ true → list_any (has_name column.name) before ≡ false → may_be key_len before column.kind ≡ true → has_lawful_default column ≡ true → fits_column column ≡ true
    → column_at tag key_len before total (column_spelled column ++ rest) ≡ Ok (column, rest)
unfolding column_at column_spelled
column_again tag key_len before total column rest named new due default fits =
    let name = column.name in
    let kind = column.kind in
    let value = column.default in
    let r2 : List ℕ = value_spelled column.kind column.default ++ rest in
    let r1 : List ℕ = kind_byte column.kind ∷ r2 in
    let regrouped : column_spelled column ++ rest ≡ counted column.name ++ (kind_byte column.kind ∷ (value_spelled column.kind column.default ++ rest)) =
    append_assoc (counted column.name) (kind_byte column.kind ∷ value_spelled column.kind column.default) rest in
    let d = and_parts (is_of_kind column.kind column.default) (is_short column.default) default in
    let first : asked (is_new_name before) (blamed tag (place total (counted column.name ++ r1))) (counted_at total (counted column.name ++ r1)) ≡ Ok (column.name, r1) =
    asked_again (is_new_name before) (blamed tag (place total (counted column.name ++ r1))) (counted_at total (counted column.name ++ r1)) (column.name, r1)
    (counted_again total column.name r1 (omega (arith, name_short column.name named)))
    (and_from (is_name column.name) (not (list_any (has_name column.name) before)) named (not_false (list_any (has_name column.name) before) new)) in
    let second : asked (may_be key_len before) (place total r1) (kind_at total r1) ≡ Ok (column.kind, r2) =
    asked_again (may_be key_len before) (place total r1) (kind_at total r1) (column.kind, r2) (kind_again total column.kind r2) due in
    let third : asked (is_default column.kind) (blamed tag (place total r2)) (value_at column.kind total r2) ≡ Ok (column.default, rest) =
    asked_again (is_default column.kind) (blamed tag (place total r2)) (value_at column.kind total r2) (column.default, rest) (value_again column.kind column.default total rest d.0 d.1 fits) default in
    ap (column_at tag key_len before total) regrouped
    ∙ (ap (λ (q : Result (List ℕ × List ℕ) ℕ). q >>= from_name tag key_len before total) first
    ∙ (ap (λ (q : Result (Kind × List ℕ) ℕ). q >>= from_kind tag total column.name) second
    ∙ ap (λ (q : Result (Value × List ℕ) ℕ). q >>= λ default. Ok (made column.name column.kind default.0, default.1)) third))

-- ---- lists of columns

pub get_here : {A : Type 0} (before : List A) (x : A) (more : List A) → slice_get (before ++ x ∷ more) (length before) ≡ Some x
get_here [] x more = refl
get_here (y ∷ before) x more = get_here before x more

pub get_front : {A : Type 0} (before more : List A) (i : ℕ) → i < length before → slice_get (before ++ more) i ≡ slice_get before i
get_front [] more i lt = absurd (omega (arith, lt))
get_front (y ∷ before) more zero lt = refl
get_front (y ∷ before) more (suc i) lt = get_front before more i (omega (arith, lt))

turned : (a b : ColumnShape) → has_name a.name b ≡ false → has_name b.name a ≡ false
turned a b e = nat_list_eq_equiv.symm a.name b.name ∙ e

pub differ_more : (before : List ColumnShape) (column : ColumnShape) → names_differ before ≡ true → list_any (has_name column.name) before ≡ false → names_differ (before ++ column ∷ []) ≡ true
differ_more [] column differ new = refl
differ_more (first ∷ before) column differ new =
    let d = and_parts (not (list_any (has_name first.name) before)) (names_differ before) differ in
    let f = not_or (has_name column.name first) (list_any (has_name column.name) before) new in
    let none : list_any (has_name first.name) (before ++ column ∷ []) ≡ false =
    list_any-append (has_name first.name) before (column ∷ []) ∙ or_not (list_any (has_name first.name) before) (has_name first.name column || false) (not_true _ d.0) (or_not (has_name first.name column) false (turned column first f.0) refl) in
    and_from (not (list_any (has_name first.name) (before ++ column ∷ []))) (names_differ (before ++ column ∷ [])) (not_false _ none) (differ_more before column d.1 f.1)

pub differ_new : (before : List ColumnShape) (column : ColumnShape) (more : List ColumnShape) → names_differ (before ++ column ∷ more) ≡ true → list_any (has_name column.name) before ≡ false
differ_new [] column more differ = refl
differ_new (first ∷ before) column more differ =
    let d = and_parts (not (list_any (has_name first.name) (before ++ column ∷ more))) (names_differ (before ++ column ∷ more)) differ in
    let none = not_or (list_any (has_name first.name) before) (has_name first.name column || list_any (has_name first.name) more) (sym (list_any-append (has_name first.name) before (column ∷ more)) ∙ not_true _ d.0) in
    let apart = not_or (has_name first.name column) (list_any (has_name first.name) more) none.1 in
    or_not (has_name column.name first) (list_any (has_name column.name) before) (turned first column apart.0) (differ_new before column more d.1)

pub all_more : {A : Type 0} (test : A → Bool) (before : List A) (x : A) → list_all test before ≡ true → test x ≡ true → list_all test (before ++ x ∷ []) ≡ true
all_more test before x all one = list_all-append test before (x ∷ []) ∙ and_from (list_all test before) (test x && true) all (and_from (test x) true one refl)

pub all_here : {A : Type 0} (test : A → Bool) (before : List A) (x : A) (more : List A) → list_all test (before ++ x ∷ more) ≡ true → test x ≡ true
all_here test before x more all =
    let p = and_parts (list_all test before) (test x && list_all test more) (sym (list_all-append test before (x ∷ more)) ∙ all) in
    (and_parts (test x) (list_all test more) p.1).0

-- ---- the columns of the first schema

abbrev is_named : ColumnShape → Bool
is_named column = is_name column.name

-- with so many columns left
record ColumnsSoFar (key_len count : ℕ) (text : List ℕ) (n : ℕ) (columns : List ColumnShape) (bytes : List ℕ) : Type 0 where
  rest_fits : IsBytes bytes
  parts : text ≡ flat_map column_spelled columns ++ bytes
  many : length columns + n ≡ count
  named : list_all is_named columns ≡ true
  differ : names_differ columns ≡ true
  defaults : list_all has_lawful_default columns ≡ true
  timed : key_len ≤ length columns → is_time_column (slice_get columns (key_len - 1)) ≡ true
  fits : list_all fits_column columns ≡ true

due_time : (t k : Bool) → (not t || k) ≡ true → t ≡ true → k ≡ true
due_time true k e h = e
due_time false k e h = absurd cc

timed_more : (key_len : ℕ) (columns : List ColumnShape) (column : ColumnShape) → 1 ≤ key_len → (key_len ≤ length columns → is_time_column (slice_get columns (key_len - 1)) ≡ true) → may_be key_len columns column.kind ≡ true
    → key_len ≤ length (columns ++ column ∷ []) → is_time_column (slice_get (columns ++ column ∷ []) (key_len - 1)) ≡ true
timed_more key_len columns column some timed due within =
    elim (cases_lt (length columns) key_len) [
      | inl lt ↦
          let len : key_len ≡ length columns + 1 = omega (arith, length-append columns (column ∷ []), within, lt) in
          let at : key_len - 1 ≡ length columns = omega (arith, len) in
          let here : slice_get (columns ++ column ∷ []) (key_len - 1) ≡ Some column = ap (slice_get (columns ++ column ∷ [])) at ∙ get_here columns column [] in
          ap is_time_column here ∙ due_time (eqb (length columns + 1) key_len) (is_time_kind column.kind) due (eq-eqb (length columns + 1) key_len (sym len))
      | inr le ↦
          ap is_time_column (get_front columns (column ∷ []) (key_len - 1) (omega (arith, le, some))) ∙ timed le
    ]

columns_over : (key_len count total : ℕ) (text : List ℕ) → 1 ≤ key_len → (n : ℕ) (columns : List ColumnShape) (bytes : List ℕ) (x : List ColumnShape × List ℕ)
    → ColumnsSoFar key_len count text (suc n) columns bytes → next_column key_len total columns bytes ≡ Ok x → ColumnsSoFar key_len count text n x.0 x.1
columns_over key_len count total text some n columns bytes x so_far e =
    let a = bind_ok (column_at None key_len columns total bytes) (behind columns) x e in
    let found = column_takes None key_len columns total bytes a.0 so_far.rest_fits a.1 in
    let column = a.0.0 in
    subst (λ (p : List ColumnShape × List ℕ). ColumnsSoFar key_len count text n p.0 p.1) (ok_is (columns ++ a.0.0 ∷ [], a.0.1) x a.2) (record {
      rest_fits = found.takes.rest_fits;
      parts = so_far.parts ∙ (ap (λ (t : List ℕ). flat_map column_spelled columns ++ t) found.takes.parts ∙ (sym (append_assoc (flat_map column_spelled columns) (column_spelled a.0.0) a.0.1)
          ∙ ap (λ (t : List ℕ). t ++ a.0.1) (ap (λ (t : List ℕ). flat_map column_spelled columns ++ t) (sym (append-nil (column_spelled a.0.0))) ∙ sym (flat_map-append column_spelled columns (a.0.0 ∷ [])))));
      many = omega (arith, so_far.many, length-append columns (a.0.0 ∷ []));
      named = all_more is_named columns a.0.0 so_far.named found.named;
      differ = differ_more columns a.0.0 so_far.differ found.new;
      defaults = all_more has_lawful_default columns a.0.0 so_far.defaults found.default;
      timed = timed_more key_len columns a.0.0 some so_far.timed found.due;
      fits = all_more fits_column columns a.0.0 so_far.fits found.fits;
    })

-- ---- the first schema

pub record FirstFound (bytes : List ℕ) (x : SchemaShape × List ℕ) : Type 0 where
  pub takes : Takes bytes (first_spelled x.0) x.1
  pub lawful : IsTrue (is_schema x.0)
  pub fits : list_all fits_column x.0.columns ≡ true

abbrev pub schema_of : ℕ → List ColumnShape → SchemaShape
schema_of key_len columns = record { columns = columns; key_len = key_len }

abbrev from_count : (total key_len : ℕ) → ℕ × List ℕ → Result (SchemaShape × List ℕ) ℕ
from_count total key_len count = repeated (next_column key_len total) count.0 [] count.1 >>= λ columns. Ok (schema_of key_len columns.0, columns.1)

abbrev from_key : (total : ℕ) → ℕ × List ℕ → Result (SchemaShape × List ℕ) ℕ
from_key total key_len = number_where w32 (is_within key_len.0 64) total key_len.1 >>= from_count total key_len.0

-- the columns that were read
pub columns_read : (key_len count total : ℕ) (bytes : List ℕ) (x : List ColumnShape × List ℕ) → 1 ≤ key_len → key_len ≤ count → count ≤ 64 → IsBytes bytes → repeated (next_column key_len total) count [] bytes ≡ Ok x
    → Takes bytes (flat_map column_spelled x.0) x.1 × (length x.0 ≡ count) × IsTrue (is_schema (schema_of key_len x.0)) × (list_all fits_column x.0 ≡ true)
columns_read key_len count total bytes x some within small fits e =
    let start : ColumnsSoFar key_len count bytes count [] bytes = record { rest_fits = fits; parts = refl; many = omega arith; named = refl; differ = refl; defaults = refl; timed = λ le. absurd (omega (arith, le, some)); fits = refl } in
    let f = turns_keep (next_column key_len total) (ColumnsSoFar key_len count bytes) (columns_over key_len count total bytes some) count [] bytes x start e in
    let many : length x.0 ≡ count = omega (arith, f.many) in (
      record { parts = f.parts; rest_fits = f.rest_fits },
      many,
      lawful_to (schema_of key_len x.0) (record {
        small = le-leb (length x.0) 64 (omega (arith, many, small));
        some = le-leb 1 key_len some;
        within = le-leb key_len (length x.0) (omega (arith, many, within));
        timed = f.timed (omega (arith, many, within));
        named = f.named;
        differ = f.differ;
        defaults = f.defaults;
      }),
      f.fits,
    )

pub first_takes : (total : ℕ) (bytes : List ℕ) (x : SchemaShape × List ℕ) → IsBytes bytes → first_at total bytes ≡ Ok x → FirstFound bytes x
unfolding first_at first_spelled
first_takes total bytes x fits e =
    let a = bind_ok (number_where w32 (is_within 1 64) total bytes) (from_key total) x e in
    let b = bind_ok (number_where w32 (is_within a.0.0 64) total a.0.1) (from_count total a.0.0) x a.2 in
    let c = bind_ok (repeated (next_column a.0.0 total) b.0.0 [] b.0.1) (λ columns. Ok (schema_of a.0.0 columns.0, columns.1)) x b.2 in
    let ta = where32 (is_within 1 64) total bytes a.0 fits a.1 in
    let tb = where32 (is_within a.0.0 64) total a.0.1 b.0 ta.takes.rest_fits b.1 in
    let wa = within_parts 1 64 a.0.0 ta.passes in
    let wb = within_parts a.0.0 64 b.0.0 tb.passes in
    let r = columns_read a.0.0 b.0.0 total b.0.1 c.0 wa.0 wb.0 wb.1 tb.takes.rest_fits c.1 in
    let p2 = Takes-then a.0.1 (to_be_bytes w32 b.0.0) b.0.1 (flat_map column_spelled c.0.0) c.0.1 tb.takes r.0 in
    let p1 = Takes-then bytes (to_be_bytes w32 a.0.0) a.0.1 (to_be_bytes w32 b.0.0 ++ flat_map column_spelled c.0.0) c.0.1 ta.takes p2 in
    let q = subst (λ (n : ℕ). Takes bytes (to_be_bytes w32 a.0.0 ++ (to_be_bytes w32 n ++ flat_map column_spelled c.0.0)) c.0.1) (sym r.1) p1 in
    subst (FirstFound bytes) (ok_is (schema_of a.0.0 c.0.0, c.0.1) x c.2) (record { takes = q; lawful = r.2; fits = r.3 })

-- ---- what is spelled is read

due_of : (t k : Bool) → (t ≡ true → k ≡ true) → (not t || k) ≡ true
due_of true k h = h refl
due_of false k h = refl

due_here : (key_len : ℕ) (before : List ColumnShape) (column : ColumnShape) (more : List ColumnShape) → is_time_column (slice_get (before ++ column ∷ more) (key_len - 1)) ≡ true → may_be key_len before column.kind ≡ true
due_here key_len before column more timed =
    due_of (eqb (length before + 1) key_len) (is_time_kind column.kind) (λ t.
    let len : length before + 1 ≡ key_len = eqb-true (length before + 1) key_len t in
    let at : key_len - 1 ≡ length before = omega (arith, len) in
    sym (ap is_time_column (ap (slice_get (before ++ column ∷ more)) at ∙ get_here before column more)) ∙ timed)

pub record AllLawful (key_len : ℕ) (columns : List ColumnShape) : Type 0 where
  pub named : list_all is_named columns ≡ true
  pub differ : names_differ columns ≡ true
  pub defaults : list_all has_lawful_default columns ≡ true
  pub timed : is_time_column (slice_get columns (key_len - 1)) ≡ true
  pub fits : list_all fits_column columns ≡ true

pub columns_back : (key_len total : ℕ) (more before whole : List ColumnShape) (rest : List ℕ) → whole ≡ before ++ more → AllLawful key_len whole → repeated (next_column key_len total) (length more) before (flat_map column_spelled more ++ rest) ≡ Ok (whole, rest)
unfolding repeated
columns_back key_len total [] before whole rest split is = ap (λ (cs : List ColumnShape). Ok (cs, rest)) (sym (split ∙ append-nil before))
columns_back key_len total (column ∷ more) before whole rest split is =
    let tail : List ℕ = flat_map column_spelled more ++ rest in
    let regrouped : flat_map column_spelled (column ∷ more) ++ rest ≡ column_spelled column ++ (flat_map column_spelled more ++ rest) = append_assoc (column_spelled column) (flat_map column_spelled more) rest in
    let all = subst (AllLawful key_len) split is in
    let one : column_at None key_len before total (column_spelled column ++ tail) ≡ Ok (column, tail) =
    column_again None key_len before total column tail (all_here is_named before column more all.named) (differ_new before column more all.differ) (due_here key_len before column more all.timed)
    (all_here has_lawful_default before column more all.defaults) (all_here fits_column before column more all.fits) in
    let next : next_column key_len total before (column_spelled column ++ tail) ≡ Ok (before ++ column ∷ [], tail) = ap (λ (q : Result (ColumnShape × List ℕ) ℕ). q >>= behind before) one in
    ap (repeated (next_column key_len total) (suc (length more)) before) regrouped
    ∙ (ap (λ (q : Result (List ColumnShape × List ℕ) ℕ). q >>= λ x. repeated (next_column key_len total) (length more) x.0 x.1) next
    ∙ columns_back key_len total more (before ++ column ∷ []) whole rest (split ∙ sym (append_assoc before (column ∷ []) more)) is)

pub first_again : (total : ℕ) (s : SchemaShape) (rest : List ℕ) → IsTrue (is_schema s) → list_all fits_column s.columns ≡ true → first_at total (first_spelled s ++ rest) ≡ Ok (s, rest)
unfolding first_at first_spelled
first_again total s rest lawful fits =
    let is = lawful_from s lawful in
    let small : length s.columns ≤ 64 = leb-true (length s.columns) 64 is.small in
    let some : 1 ≤ s.key_len = leb-true 1 s.key_len is.some in
    let within : s.key_len ≤ length s.columns = leb-true s.key_len (length s.columns) is.within in
    let r2 : List ℕ = flat_map column_spelled s.columns ++ rest in
    let r1 : List ℕ = to_be_bytes w32 (length s.columns) ++ r2 in
    ap (λ (q : Result (ℕ × List ℕ) ℕ). q >>= from_key total) (again_where32 (is_within 1 64) total s.key_len r1 (omega (arith, within, small)) (within_from 1 64 s.key_len some (omega (arith, within, small))))
    ∙ (ap (λ (q : Result (ℕ × List ℕ) ℕ). q >>= from_count total s.key_len) (again_where32 (is_within s.key_len 64) total (length s.columns) r2 (omega (arith, small)) (within_from s.key_len 64 (length s.columns) within small))
    ∙ ap (λ (q : Result (List ColumnShape × List ℕ) ℕ). q >>= λ columns. Ok (schema_of s.key_len columns.0, columns.1))
    (columns_back s.key_len total s.columns [] s.columns rest refl (record { named = is.named; differ = is.differ; defaults = is.defaults; timed = is.timed; fits = fits })))
