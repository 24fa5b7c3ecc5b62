-- A JSON value that nothing speaks against says a lawful schema, and no value is refused as no JSON.
use Rattle.std.proofs.Common.{◌≡◌, ◌≢◌, ℕ, ◌+◌, ◌-◌, Bool, true, false, cond, List, [], ◌∷◌, ◌++◌, length, map, refl, ap, ◌∙◌, sym, arith}
use Rattle.std.specs.Prelude.{Option, Some, None, Result, Ok, Err, IfErr, IsTrue, is_some, is_none, unwrap_or, not, ◌&&◌, ◌||◌, ◌==◌, nat_lt, option_map, option_and_then, slice_get, pos, codes}
use Rattle.std.specs.Option.{option_or}
use Rattle.std.specs.List.{list_any, list_all}
use Rattle.std.proofs.lemmas.List.{length-map}
use Rattle.std.proofs.lemmas.List.Folds.{list_any-append}
use Rattle.std.proofs.lemmas.Bool.Decides.{nat_tests}
use Rattle.serde_json.specs.Data.{Data}
use Rattle.serde_json.specs.Find.{get, as_number, as_u64}
use Rattle.lt_schema.specs.declared.kind.Kind.{Kind}
use Rattle.lt_schema.specs.declared.kind.Kind.TheVariants.{Int32, Int64, Time, Text as TextKind, Blob as BlobKind}
use Rattle.lt_schema.specs.declared.value.Value.{Value}
use Rattle.lt_schema.specs.declared.value.Value.TheVariants.{Int}
use Rattle.lt_json.specs.declared.json.SchemaError.{SchemaError}
use Rattle.lt_json.specs.declared.json.SchemaError.TheVariants.{NotJson, Shape, NoTime, TooMany, Twice, BadDefault, NoMemory}
use Rattle.lt_schema.specs.Names.{is_name}
use Rattle.lt_schema.specs.Values.{is_of_kind, blank_of}
use Rattle.lt_schema.specs.Lawful.{is_schema, is_time_column, has_name, names_differ, is_short, has_lawful_default}
use Rattle.lt_json.specs.FromJson.{columns_in, is_key, key_in, name_in, names_in, kind_of, column_in, is_whole, is_same, misshapen_from, twice_from, lawful_value, value_of, default_in, default_of, lawful_default, bad_default_from, schema_in, shape_refusal, time_refusal, count_refusal, name_refusal, default_refusal, refusal_in, IsText, IsCause, IsBadDefault}
use Rattle.lt_schema.proofs.Growing.{and_true, lawful_to}
use Rattle.lt_json.proofs.Items.{column_named, shaped_more, bad_none}

-- ---- what the absence of each refusal says

shaped_by : (a b c : Bool) (o : Option ℕ) → cond (not a) (Some (Shape 0)) (cond b (Some (Shape 1)) (cond c (Some (Shape 2)) (option_map (λ column. Shape (3 + column)) o))) ≡ None → (c ≡ false) × (o ≡ None)
shaped_by true false false None none = (refl, refl)
shaped_by true false false (Some n) none = absurd (cc)
shaped_by true false true o none = absurd (cc)
shaped_by true true c o none = absurd (cc)
shaped_by false b c o none = absurd (cc)

shaped : (d : Data) → shape_refusal d ≡ None → (is_none (key_in d) ≡ false) × (misshapen_from 0 (columns_in d) ≡ None)
unfolding shape_refusal
shaped d none = shaped_by (is_whole d) (length (columns_in d) == 0) (is_none (key_in d)) (misshapen_from 0 (columns_in d)) none

key_by : (b : Bool) (n : ℕ) → is_none (cond b (Some n) None) ≡ false → (b ≡ true) × (unwrap_or (cond b (Some n) None) 1 ≡ n)
key_by true n some = (refl, refl)
key_by false n some = absurd (cc)

key_from : (columns : ℕ) (o : Option ℕ) → is_none (option_and_then (λ n. cond (is_key columns n) (Some n) None) o) ≡ false
    → is_key columns (unwrap_or (option_and_then (λ n. cond (is_key columns n) (Some n) None) o) 1) ≡ true
key_from columns None some = absurd (cc)
key_from columns (Some n) some = let is = key_by (is_key columns n) n some in ap (is_key columns) is.1 ∙ is.0

key_is : (d : Data) → is_none (key_in d) ≡ false → is_key (length (columns_in d)) (unwrap_or (key_in d) 1) ≡ true
unfolding key_in
key_is d some = key_from (length (columns_in d)) (option_and_then as_u64 (option_and_then as_number (get (codes "key") d))) some

timed_by : (b : Bool) → cond b None (Some NoTime) ≡ None → b ≡ true
timed_by true none = refl
timed_by false none = absurd (cc)

timed : (d : Data) → time_refusal d ≡ None → is_time_column (slice_get (schema_in d).columns ((schema_in d).key_len - 1)) ≡ true
unfolding time_refusal
timed d none = timed_by (is_time_column (slice_get (schema_in d).columns ((schema_in d).key_len - 1))) none

few_by : (b : Bool) (n : ℕ) → cond b (Some (TooMany n)) None ≡ None → b ≡ false
few_by true n none = absurd (cc)
few_by false n none = refl

few : (d : Data) → count_refusal d ≡ None → nat_lt 64 (length (columns_in d)) ≡ false
unfolding count_refusal
few d none = few_by (nat_lt 64 (length (columns_in d))) (length (columns_in d)) none

none_by : (f : ℕ → SchemaError) (o : Option ℕ) → option_map f o ≡ None → o ≡ None
none_by f None none = refl
none_by f (Some n) none = absurd (cc)

apart : (d : Data) → name_refusal d ≡ None → twice_from 0 [] (names_in (columns_in d)) ≡ None
unfolding name_refusal
apart d none = none_by Twice (twice_from 0 [] (names_in (columns_in d))) none

defaulted : (d : Data) → default_refusal d ≡ None → bad_default_from 0 (columns_in d) ≡ None
unfolding default_refusal
defaulted d none = none_by BadDefault (bad_default_from 0 (columns_in d)) none

-- ---- the rules of a schema

all_named : (at : ℕ) (ds : List Data) → misshapen_from at ds ≡ None → IsTrue (list_all (λ column. is_name column.name) (map column_in ds))
unfolding column_in
all_named at [] none = refl
all_named at (d ∷ ds) none =
    let more = shaped_more at d ds none in
    and_true (is_name (name_in d)) (list_all (λ column. is_name column.name) (map column_in ds)) (column_named d more.0) (all_named (at + 1) ds more.1)

lawful_by : (kind : Kind) (value : Value) (b : Bool) → is_of_kind kind value && is_short value ≡ b → is_some (cond b (Some value) None) ≡ true
    → IsTrue (is_of_kind kind (unwrap_or (cond b (Some value) None) (Int (pos 0))) && is_short (unwrap_or (cond b (Some value) None) (Int (pos 0))))
lawful_by kind value true is some = is
lawful_by kind value false is some = absurd (cc)

lawful_of : (kind : Kind) (o : Option Value) → is_some (option_and_then (lawful_value kind) o) ≡ true
    → IsTrue (is_of_kind kind (unwrap_or (option_and_then (lawful_value kind) o) (Int (pos 0))) && is_short (unwrap_or (option_and_then (lawful_value kind) o) (Int (pos 0))))
lawful_of kind None some = absurd (cc)
lawful_of kind (Some value) some = lawful_by kind value (is_of_kind kind value && is_short value) refl some

lawful_empty : (kind : Kind) → IsTrue (is_of_kind kind (blank_of kind) && is_short (blank_of kind))
lawful_empty Int32 = refl
lawful_empty Int64 = refl
lawful_empty Time = refl
lawful_empty TextKind = refl
lawful_empty BlobKind = refl

lawful_from : (kind : Kind) (o : Option Data) → is_some (default_of kind o) ≡ true
    → IsTrue (is_of_kind kind (unwrap_or (default_of kind o) (Int (pos 0))) && is_short (unwrap_or (default_of kind o) (Int (pos 0))))
lawful_from kind None some = lawful_empty kind
lawful_from kind (Some d) some = lawful_of kind (value_of kind d) some

default_is : (d : Data) → is_some (lawful_default d) ≡ true → IsTrue (has_lawful_default (column_in d))
unfolding lawful_default column_in
default_is d some = lawful_from (kind_of d) (default_in d) some

all_defaults : (at : ℕ) (ds : List Data) → bad_default_from at ds ≡ None → IsTrue (list_all has_lawful_default (map column_in ds))
all_defaults at [] none = refl
all_defaults at (d ∷ ds) none =
    let more = bad_none at d ds none in
    and_true (has_lawful_default (column_in d)) (list_all has_lawful_default (map column_in ds)) (default_is d more.0) (all_defaults (at + 1) ds more.1)

-- a name of which each later name is known to differ
abbrev Known : List ℕ → List (List ℕ) → Type 0
Known name earlier = (other : List ℕ) → list_any (is_same other) earlier ≡ false → is_same other name ≡ false

or_false : (a b : Bool) → a || b ≡ false → (a ≡ false) × (b ≡ false)
or_false true b is = absurd (cc)
or_false false b is = (refl, is)

known_more : (name new : List ℕ) (earlier : List (List ℕ)) → Known name earlier → Known name (earlier ++ new ∷ [])
known_more name new earlier known other is = known other (or_false (list_any (is_same other) earlier) (list_any (is_same other) (new ∷ [])) (sym (list_any-append (is_same other) earlier (new ∷ [])) ∙ is)).0

known_new : (new : List ℕ) (earlier : List (List ℕ)) → Known new (earlier ++ new ∷ [])
known_new new earlier other is =
    let last = (or_false (list_any (is_same other) earlier) (list_any (is_same other) (new ∷ [])) (sym (list_any-append (is_same other) earlier (new ∷ [])) ∙ is)).1 in
    (or_false (is_same other new) false last).0

twice_by : (b : Bool) (at : ℕ) (rest : Option ℕ) → cond b (Some at) rest ≡ None → (b ≡ false) × (rest ≡ None)
twice_by true at rest none = absurd (cc)
twice_by false at rest none = (refl, none)

twice_none : (at : ℕ) (earlier : List (List ℕ)) (name : List ℕ) (names : List (List ℕ)) → twice_from at earlier (name ∷ names) ≡ None
    → (list_any (is_same name) earlier ≡ false) × (twice_from (at + 1) (earlier ++ name ∷ []) names ≡ None)
unfolding twice_from
twice_none at earlier name names none = twice_by (list_any (is_same name) earlier) at (twice_from (at + 1) (earlier ++ name ∷ []) names) none

later_differ : (at : ℕ) (earlier : List (List ℕ)) (name : List ℕ) (ds : List Data) → Known name earlier → twice_from at earlier (names_in ds) ≡ None → list_any (has_name name) (map column_in ds) ≡ false
unfolding column_in
later_differ at earlier name [] known none = refl
later_differ at earlier name (d ∷ ds) known none =
    let more = twice_none at earlier (name_in d) (names_in ds) none in
    let here : is_same (name_in d) name ≡ false = known (name_in d) more.0 in
    let there = later_differ (at + 1) (earlier ++ name_in d ∷ []) name ds (known_more name (name_in d) earlier known) more.1 in
    rw (here, there) refl

all_differ : (at : ℕ) (earlier : List (List ℕ)) (ds : List Data) → twice_from at earlier (names_in ds) ≡ None → IsTrue (names_differ (map column_in ds))
unfolding column_in
all_differ at earlier [] none = refl
all_differ at earlier (d ∷ ds) none =
    let more = twice_none at earlier (name_in d) (names_in ds) none in
    let later = later_differ (at + 1) (earlier ++ name_in d ∷ []) (name_in d) ds (known_new (name_in d) earlier) more.1 in
    and_true (not (list_any (has_name (name_in d)) (map column_in ds))) (names_differ (map column_in ds)) (rw later refl) (all_differ (at + 1) (earlier ++ name_in d ∷ []) ds more.1)

-- a value that nothing speaks against
is_schema_in : (d : Data) → shape_refusal d ≡ None → time_refusal d ≡ None → count_refusal d ≡ None → name_refusal d ≡ None → default_refusal d ≡ None → IsTrue (is_schema (schema_in d))
is_schema_in d shape time count name default =
    let whole = shaped d shape in
    let key = key_is d whole.0 in
    let small = few d count in
    let len = length-map (columns_in d) column_in in
    lawful_to (schema_in d) (record {
      small = grind (arith, nat_tests, len, small);
      some = grind (arith, nat_tests, key);
      within = rw len (grind (arith, nat_tests, key));
      timed = timed d time;
      named = all_named 0 (columns_in d) whole.1;
      differ = all_differ 0 [] (columns_in d) (apart d name);
      defaults = all_defaults 0 (columns_in d) (defaulted d default);
    })

-- ---- no value is refused as no JSON

not_shape : (a b c : Bool) (o : Option ℕ) → cond a (Some (Shape 0)) (cond b (Some (Shape 1)) (cond c (Some (Shape 2)) (option_map (λ column. Shape (3 + column)) o))) ≡ Some NotJson → ⊥
not_shape true b c o is = cc
not_shape false true c o is = cc
not_shape false false true o is = cc
not_shape false false false None is = cc
not_shape false false false (Some n) is = cc

shape_other : (d : Data) → shape_refusal d ≡ Some NotJson → ⊥
unfolding shape_refusal
shape_other d is = not_shape (not (is_whole d)) (length (columns_in d) == 0) (is_none (key_in d)) (misshapen_from 0 (columns_in d)) is

not_time : (b : Bool) → cond b None (Some NoTime) ≡ Some NotJson → ⊥
not_time true is = cc
not_time false is = cc

time_other : (d : Data) → time_refusal d ≡ Some NotJson → ⊥
unfolding time_refusal
time_other d is = not_time (is_time_column (slice_get (schema_in d).columns ((schema_in d).key_len - 1))) is

not_count : (b : Bool) (n : ℕ) → cond b (Some (TooMany n)) None ≡ Some NotJson → ⊥
not_count true n is = cc
not_count false n is = cc

count_other : (d : Data) → count_refusal d ≡ Some NotJson → ⊥
unfolding count_refusal
count_other d is = not_count (nat_lt 64 (length (columns_in d))) (length (columns_in d)) is

not_twice : (o : Option ℕ) → option_map Twice o ≡ Some NotJson → ⊥
not_twice None is = cc
not_twice (Some n) is = cc

name_other : (d : Data) → name_refusal d ≡ Some NotJson → ⊥
unfolding name_refusal
name_other d is = not_twice (twice_from 0 [] (names_in (columns_in d))) is

not_default : (o : Option ℕ) → option_map BadDefault o ≡ Some NotJson → ⊥
not_default None is = cc
not_default (Some n) is = cc

default_other : (d : Data) → default_refusal d ≡ Some NotJson → ⊥
unfolding default_refusal
default_other d is = not_default (bad_default_from 0 (columns_in d)) is

or_other : (p q : Option SchemaError) → (p ≡ Some NotJson → ⊥) → (q ≡ Some NotJson → ⊥) → option_or p q ≡ Some NotJson → ⊥
or_other None q first second is = second is
or_other (Some e) q first second is = first is

never_not_json : (d : Data) → refusal_in d ≡ Some NotJson → ⊥
never_not_json d =
    let names = or_other (name_refusal d) (default_refusal d) (name_other d) (default_other d) in
    let counts = or_other (count_refusal d) (option_or (name_refusal d) (default_refusal d)) (count_other d) names in
    let times = or_other (time_refusal d) (option_or (count_refusal d) (option_or (name_refusal d) (default_refusal d))) (time_other d) counts in
    or_other (shape_refusal d) (option_or (time_refusal d) (option_or (count_refusal d) (option_or (name_refusal d) (default_refusal d)))) (shape_other d) times

cause_of : (bytes : List ℕ) (d : Data) → IsText bytes d → (e : SchemaError) → (e ≢ NoMemory → refusal_in d ≡ Some e) → IsCause bytes e
cause_of bytes d text NotJson why = absurd (never_not_json d (why (λ same. cc)))
cause_of bytes d text (Shape field) why = record { json = d; text = text; refusal = why (λ same. cc) }
cause_of bytes d text NoTime why = record { json = d; text = text; refusal = why (λ same. cc) }
cause_of bytes d text (TooMany count) why = record { json = d; text = text; refusal = why (λ same. cc) }
cause_of bytes d text (Twice column) why = record { json = d; text = text; refusal = why (λ same. cc) }
cause_of bytes d text (BadDefault column) why = record { json = d; text = text; refusal = why (λ same. cc) }
cause_of bytes d text NoMemory why = tt

-- ---- what is answered where a refusal holds

time_is : (d : Data) (b : Bool) → is_time_column (slice_get (schema_in d).columns ((schema_in d).key_len - 1)) ≡ b → time_refusal d ≡ cond b None (Some NoTime)
unfolding time_refusal
time_is d b is = rw is refl

count_is : (d : Data) (b : Bool) → nat_lt 64 (length (columns_in d)) ≡ b → count_refusal d ≡ cond b (Some (TooMany (length (columns_in d)))) None
unfolding count_refusal
count_is d b is = rw is refl

name_is : (d : Data) (o : Option ℕ) → twice_from 0 [] (names_in (columns_in d)) ≡ o → name_refusal d ≡ option_map Twice o
unfolding name_refusal
name_is d o is = rw is refl

default_as : (d : Data) (o : Option ℕ) → bad_default_from 0 (columns_in d) ≡ o → default_refusal d ≡ option_map BadDefault o
unfolding default_refusal
default_as d o is = rw is refl

-- the last key column of a value is a time, or not
abbrev pub Timed : Data → Bool → Type 0
Timed d b = is_time_column (slice_get (schema_in d).columns ((schema_in d).key_len - 1)) ≡ b

refused_shape : (d : Data) (e : SchemaError) → shape_refusal d ≡ Some e → refusal_in d ≡ Some e
refused_shape d e is = rw is refl

pub refused_time : (d : Data) → shape_refusal d ≡ None → Timed d false → refusal_in d ≡ Some NoTime
refused_time d shape is = rw (shape, time_is d false is) refl

pub refused_count : (d : Data) → shape_refusal d ≡ None → Timed d true → nat_lt 64 (length (columns_in d)) ≡ true → refusal_in d ≡ Some (TooMany (length (columns_in d)))
refused_count d shape time is = rw (shape, time_is d true time, count_is d true is) refl

pub refused_name : (d : Data) (column : ℕ) → shape_refusal d ≡ None → Timed d true → nat_lt 64 (length (columns_in d)) ≡ false → twice_from 0 [] (names_in (columns_in d)) ≡ Some column
    → refusal_in d ≡ Some (Twice column)
refused_name d column shape time count is = rw (shape, time_is d true time, count_is d false count, name_is d (Some column) is) refl

-- nothing before the defaults speaks against a value
pub record IsNamed (d : Data) : Type 0 where
  pub shape : shape_refusal d ≡ None
  pub time : Timed d true
  pub count : nat_lt 64 (length (columns_in d)) ≡ false
  pub name : twice_from 0 [] (names_in (columns_in d)) ≡ None

pub refused_default : (d : Data) (o : Option ℕ) → IsNamed d → bad_default_from 0 (columns_in d) ≡ o → refusal_in d ≡ option_map BadDefault o
refused_default d o named is = rw (named.shape, time_is d true named.time, count_is d false named.count, name_is d None named.name, default_as d o is) refl

pub default_cause : (d : Data) (e : SchemaError) → IsNamed d → IsBadDefault e (bad_default_from 0 (columns_in d)) → e ≢ NoMemory → refusal_in d ≡ Some e
default_cause d NotJson named bad other = absurd bad
default_cause d (Shape field) named bad other = absurd bad
default_cause d NoTime named bad other = absurd bad
default_cause d (TooMany count) named bad other = absurd bad
default_cause d (Twice column) named bad other = absurd bad
default_cause d (BadDefault column) named bad other = refused_default d (Some column) named bad
default_cause d NoMemory named bad other = absurd (other refl)

pub misshapen_none : (d : Data) → shape_refusal d ≡ None → misshapen_from 0 (columns_in d) ≡ None
misshapen_none d none = (shaped d none).1

pub lawful_schema : (d : Data) → IsNamed d → bad_default_from 0 (columns_in d) ≡ None → IsTrue (is_schema (schema_in d))
lawful_schema d named is = is_schema_in d named.shape (time_is d true named.time) (count_is d false named.count) (name_is d None named.name) (default_as d None is)

pub causes_of : {T : Type 0} (bytes : List ℕ) (d : Data) → IsText bytes d → (r : Result T SchemaError) → IfErr r (λ e. e ≢ NoMemory → refusal_in d ≡ Some e) → IfErr r (λ e. IsCause bytes e)
causes_of bytes d text (Ok x) why = tt
causes_of bytes d text (Err e) why = cause_of bytes d text e why
