-- In a legal history one answer alone is right.
use Rattle.std.proofs.Common.{◌≡◌, ◌≢◌, inl, inr, ℕ, ◌-◌, ◌≤◌, Bool, true, false, cond, List, [], ◌∷◌, ◌++◌, length, take, drop, map, Option, refl, sym, ap, subst, ◌∙◌, arith}
use Rattle.std.specs.Prelude.{Some, None, Contains, IsTrue, nat_eq, nat_le, ◌&&◌, filter, slice_get}
use Rattle.std.specs.List.{AllByRecursion, list_all}
use Rattle.std.specs.List.Sorted.{IsSorted, IsPermutation}
use Rattle.std.proofs.lemmas.Bool.{leb-true, eqb-true}
use Rattle.std.proofs.lemmas.List.{length-append, length-map, take-append-le}
use Rattle.std.proofs.lemmas.List.Sorted.{Contains-permutation, IsPermutation-sym, sum_by-IsPermutation}
use Rattle.lt_schema.specs.declared.row.RowFault.{RowFault}
use Rattle.lt_schema.specs.declared.row.RowFault.TheVariants.{Arity}
use Rattle.lt_schema.specs.declared.value.Value.{Value}
use Rattle.lt_schema.specs.declared.change.Change.{Change}
use Rattle.lt_schema.specs.declared.change.Change.TheVariants.{Append, Widen}
use Rattle.lt_schema.specs.Shapes.{SchemaShape}
use Rattle.lt_schema.specs.Lawful.{is_schema, is_time_column, names_differ, has_lawful_default}
use Rattle.lt_schema.specs.Names.{is_name}
use Rattle.lt_schema.specs.Versions.{lifted_over, changed, after_changes}
use Rattle.lt_schema.specs.Check.{Passes, wrong_kind_from, length_fault, kind_fault, key_of}
use Rattle.lt_command.specs.declared.query.Query.{Query}
use Rattle.lt_model.specs.History.{Numbered, Opening, Entry, row_entry, bound_entry, schema_entry, kept_entry, History}
use Rattle.lt_model.specs.Readings.{rows, rows_in, schemas, key_in, time_in}
use Rattle.lt_model.specs.Boxes.{in_box}
use Rattle.lt_model.specs.Legal.{KeysDiffer, IsLegal, MayOpen, EachFollows}
use Rattle.lt_model.specs.Answer.{newest_form, matching, row_cmp, IsAnswer, is_candidate, IsNoLater, IsLatest}
use Rattle.lt_model.proofs.Verdicts.{keys_decided, one_holder, Contains-cons_cases}
use Rattle.lt_model.proofs.Orders.{Rises, holders, has_key, holders-cons, has_key-yes, has_key-no, AllByRecursion-map, Rises-sorted, row_once, even_keys}

-- changes take no column away
columns_grow : (schema : SchemaShape) (changes : List Change) → length schema.columns ≤ length (after_changes schema changes).columns
columns_grow schema [] = omega arith
columns_grow schema (Append column ∷ changes) = omega (arith, length-append schema.columns (column ∷ []), columns_grow (changed schema (Append column)) changes)
columns_grow schema (Widen name ∷ changes) = omega (arith, simp length-map at (columns_grow (changed schema (Widen name)) changes))

both_true : (a b : Bool) → IsTrue (a && b) → IsTrue a × IsTrue b
both_true true true holds = (refl, refl)
both_true true false holds = (refl, holds)
both_true false true holds = (holds, refl)
both_true false false holds = (holds, holds)

first_true : (a b : Bool) → IsTrue (a && b) → IsTrue a
first_true a b holds = (both_true a b holds).0

third_true : (a b c d e f g : Bool) → IsTrue (a && b && c && d && e && f && g) → IsTrue c
third_true a b c d e f g holds =
    (both_true (a && b) c (first_true (a && b && c) d (first_true (a && b && c && d) e (first_true (a && b && c && d && e) f (first_true (a && b && c && d && e && f) g holds))))).1

key_fits : (schema : SchemaShape) → IsTrue (is_schema schema) → schema.key_len ≤ length schema.columns
key_fits schema lawful = leb-true schema.key_len (length schema.columns)
    (third_true (nat_le (length schema.columns) 64) (nat_le 1 schema.key_len) (nat_le schema.key_len (length schema.columns)) (is_time_column (slice_get schema.columns (schema.key_len - 1)))
    (list_all (λ column. is_name column.name) schema.columns) (names_differ schema.columns) (list_all has_lawful_default schema.columns) lawful)

no_fault : (b : Bool) (other : Option RowFault) (fault : RowFault) → cond b other (Some fault) ≡ None → b ≡ true
no_fault true other fault none = refl
no_fault false other fault none = cc

passes_len : (schema : SchemaShape) (row : List Value) → Passes schema row → length row ≡ length schema.columns
passes_len schema row passes = eqb-true (length row) (length schema.columns)
    (no_fault (nat_eq (length row) (length schema.columns)) (kind_fault (wrong_kind_from 0 schema.columns row) (length_fault schema row)) (Arity (length schema.columns) (length row)) passes)

-- the row is as long as a key at least
abbrev IsLong : SchemaShape → Numbered → Type 0
IsLong schema numbered = schema.key_len ≤ length numbered.row

IsLong-passes : (schema : SchemaShape) (changes : List Change) (numbered : Numbered) → IsTrue (is_schema schema) → Passes (after_changes schema changes) numbered.row → IsLong schema numbered
IsLong-passes schema changes numbered lawful passes =
    omega (arith, key_fits schema lawful, columns_grow schema changes, passes_len (after_changes schema changes) numbered.row passes)

long_entries : (o : Opening) (before entries : List Entry) → IsTrue (is_schema o.schemas.first) → EachFollows o before entries → AllByRecursion (IsLong o.schemas.first) (rows_in entries)
long_entries o before [] lawful follows = tt
long_entries o before (row_entry numbered tablet ∷ entries) lawful follows =
    (IsLong-passes o.schemas.first (schemas (record { opening = o; entries = before })).changes numbered lawful follows.0.passes, long_entries o (before ++ row_entry numbered tablet ∷ []) entries lawful follows.1)
long_entries o before (bound_entry bound ∷ entries) lawful follows = long_entries o (before ++ bound_entry bound ∷ []) entries lawful follows.1
long_entries o before (schema_entry change ∷ entries) lawful follows = long_entries o (before ++ schema_entry change ∷ []) entries lawful follows.1
long_entries o before (kept_entry number ∷ entries) lawful follows = long_entries o (before ++ kept_entry number ∷ []) entries lawful follows.1

AllByRecursion-append : (P : Numbered → Type 0) (xs ys : List Numbered) → AllByRecursion P xs → AllByRecursion P ys → AllByRecursion P (xs ++ ys)
AllByRecursion-append P [] ys all more = more
AllByRecursion-append P (x ∷ xs) ys all more = (all.0, AllByRecursion-append P xs ys all.1 more)

-- each row of a legal history has a whole key
pub long_rows : (h : History) → IsLegal h → AllByRecursion (IsLong h.opening.schemas.first) (rows h)
long_rows h legal =
    AllByRecursion-append (IsLong h.opening.schemas.first) h.opening.rows (rows_in h.entries)
    (AllByRecursion-map (MayOpen h.opening) (IsLong h.opening.schemas.first) h.opening.rows
    (λ numbered may. IsLong-passes h.opening.schemas.first (take numbered.ver h.opening.schemas.changes) numbered legal.opening.schema may.passes) legal.opening.rows_may)
    (long_entries h.opening [] h.entries legal.opening.schema legal.follows)

-- no change touches a whole key
lifted_key : (schema : SchemaShape) (changes : List Change) (row : List Value) → schema.key_len ≤ length row → key_of schema (lifted_over changes row) ≡ key_of schema row
lifted_key schema [] row whole = refl
lifted_key schema (Append column ∷ changes) row whole =
    lifted_key schema changes (row ++ column.default ∷ []) (omega (arith, length-append row (column.default ∷ []))) ∙ take-append-le schema.key_len row (column.default ∷ []) whole
lifted_key schema (Widen name ∷ changes) row whole = lifted_key schema changes row whole

abbrev KeepsKey : SchemaShape → (Numbered → List Value) → Numbered → Type 0
KeepsKey schema form numbered = key_of schema (form numbered) ≡ key_of schema numbered.row

abbrev LacksKey : SchemaShape → List Value → Numbered → Type 0
LacksKey schema key numbered = key_of schema numbered.row ≢ key

no_holder_first : (schema : SchemaShape) (key row : List Value) (xs : List (List Value)) (b : Bool) → key_of schema row ≢ key → holders schema key xs ≡ 0 → holders schema key (cond b (row ∷ xs) xs) ≡ 0
no_holder_first schema key row xs false lacks none = none
no_holder_first schema key row xs true lacks none = omega (arith, holders-cons schema key row xs, has_key-no schema key row lacks)

map_cond : (form : Numbered → List Value) (b : Bool) (x : Numbered) (xs : List Numbered) → map form (cond b (x ∷ xs) xs) ≡ cond b (form x ∷ map form xs) (map form xs)
map_cond form true x xs = refl
map_cond form false x xs = refl

no_holder : (schema : SchemaShape) (form : Numbered → List Value) (test : Numbered → Bool) (key : List Value) (xs : List Numbered) → AllByRecursion (KeepsKey schema form) xs → AllByRecursion (LacksKey schema key) xs
    → holders schema key (map form (filter test xs)) ≡ 0
no_holder schema form test key [] keep lack = refl
no_holder schema form test key (x ∷ xs) keep lack =
    ap (holders schema key) (map_cond form (test x) x (filter test xs))
    ∙ no_holder_first schema key (form x) (map form (filter test xs)) (test x) (λ same. lack.0 (sym keep.0 ∙ same)) (no_holder schema form test key xs keep.1 lack.1)

one_holder_first : (schema : SchemaShape) (key row : List Value) (xs : List (List Value)) (b : Bool) → (key_of schema row ≡ key → holders schema key xs ≡ 0) → holders schema key xs ≤ 1 → holders schema key (cond b (row ∷ xs) xs) ≤ 1
one_holder_first schema key row xs false alone once = once
one_holder_first schema key row xs true alone once = elim (keys_decided (key_of schema row) key) [
  | inl same ↦ omega (arith, holders-cons schema key row xs, has_key-yes schema key row same, alone same)
  | inr differ ↦ omega (arith, holders-cons schema key row xs, has_key-no schema key row differ)
]

-- where keys differ, no two of the rows' forms have one
once_held : (schema : SchemaShape) (form : Numbered → List Value) (test : Numbered → Bool) (key : List Value) (xs : List Numbered) → AllByRecursion (KeepsKey schema form) xs → KeysDiffer schema xs
    → holders schema key (map form (filter test xs)) ≤ 1
once_held schema form test key [] keep differ = omega arith
once_held schema form test key (x ∷ xs) keep differ =
    subst (λ (ys : List (List Value)). holders schema key ys ≤ 1) (sym (map_cond form (test x) x (filter test xs)))
    (one_holder_first schema key (form x) (map form (filter test xs)) (test x)
    (λ same. no_holder schema form test key xs keep.1
    (AllByRecursion-map (λ other. key_of schema x.row ≢ key_of schema other.row) (LacksKey schema key) xs (λ other apart again. apart (sym keep.0 ∙ same ∙ sym again)) differ.0))
    (once_held schema form test key xs keep.1 differ.1))

-- no two rows of an answer have one key
once_matching : (h : History) (query : Query) (bound : ℕ) (key : List Value) → IsLegal h → holders h.opening.schemas.first key (matching h query bound) ≤ 1
once_matching h query bound key legal =
    once_held h.opening.schemas.first (newest_form h) (λ numbered. in_box h query numbered && nat_le bound (time_in h numbered)) key (rows h)
    (AllByRecursion-map (IsLong h.opening.schemas.first) (KeepsKey h.opening.schemas.first (newest_form h)) (rows h)
    (λ numbered whole. lifted_key h.opening.schemas.first (drop numbered.ver (schemas h).changes) numbered.row whole) (long_rows h legal))
    legal.distinct

rises_sorted : (h : History) (query : Query) (bound : ℕ) (sorted : List (List Value)) → IsLegal h → IsPermutation (matching h query bound) sorted → IsSorted (row_cmp h.opening.schemas.first query.down) sorted
    → Rises (row_cmp h.opening.schemas.first query.down) sorted
rises_sorted h query bound sorted legal all up =
    Rises-sorted h.opening.schemas.first query.down sorted up
    (λ key. omega (arith, once_matching h query bound key legal, sum_by-IsPermutation (has_key h.opening.schemas.first key) (matching h query bound) sorted all))

one_order : (h : History) (query : Query) (bound : ℕ) (xs ys : List (List Value)) → IsLegal h → IsPermutation (matching h query bound) xs → IsPermutation (matching h query bound) ys
    → IsSorted (row_cmp h.opening.schemas.first query.down) xs → IsSorted (row_cmp h.opening.schemas.first query.down) ys → xs ≡ ys
one_order h query bound xs ys legal all_x all_y up_x up_y =
    let rows_are = matching h query bound in
    row_once h.opening.schemas.first query.down xs ys (rises_sorted h query bound xs legal all_x up_x) (rises_sorted h query bound ys legal all_y up_y)
    (λ row among. Contains-permutation rows_are ys row all_y (Contains-permutation xs rows_are row (IsPermutation-sym rows_are xs all_x) among))
    (λ row among. Contains-permutation rows_are xs row all_x (Contains-permutation ys rows_are row (IsPermutation-sym rows_are ys all_y) among))

same_test : (a b : Bool) → (IsTrue a → IsTrue b) → (IsTrue b → IsTrue a) → a ≡ b
same_test true true into back = refl
same_test false false into back = refl
same_test true false into back = sym (into refl)
same_test false true into back = back refl

-- two answers to one scan are one
pub one_answer : (h : History) (query : Query) (bound : ℕ) (shown again : List (List Value)) (more others : Bool) → IsLegal h
    → IsAnswer h query bound shown more → IsAnswer h query bound again others → (shown ≡ again) × (more ≡ others)
one_answer h query bound shown again more others legal a b =
    let same : a.sorted ≡ b.sorted = one_order h query bound a.sorted b.sorted legal a.all_of_them b.all_of_them a.in_order b.in_order in
    let lengths : length a.sorted ≡ length b.sorted = ap length same in (
      a.first_ones ∙ ap (take query.limit) same ∙ sym b.first_ones,
      same_test more others (λ there. b.others.1 (omega (arith, a.others.0 there))) (λ there. a.others.1 (omega (arith, b.others.0 there))),
    )

-- neither of two rows is above the other
even_rows : (h : History) (a b : Numbered) → IsNoLater h a b → IsNoLater h b a → key_in h a ≡ key_in h b
even_rows h a b (inl less) (inl more) = absurd (omega arith)
even_rows h a b (inl less) (inr more) = absurd (omega arith)
even_rows h a b (inr less) (inl more) = absurd (omega arith)
even_rows h a b (inr less) (inr more) = even_keys (key_in h a) (key_in h b) less.1 more.1

not_none : (b : Bool) (x : Numbered) (xs : List Numbered) → cond b (x ∷ xs) xs ≡ [] → (b ≡ false) × (xs ≡ [])
not_none true x xs none = cc
not_none false x xs none = (refl, none)

one_candidate : (test : Numbered → Bool) (xs : List Numbered) (row : Numbered) → filter test xs ≡ [] → Contains xs row → IsTrue (test row) → ⊥
one_candidate test [] row none among candidate = omega arith
one_candidate test (x ∷ xs) row none among candidate =
    let parts = not_none (test x) x (filter test xs) none in
    elim (Contains-cons_cases x xs row among) [
      | inl same ↦ (let both : test row ≡ false = ap test (sym same) ∙ parts.0 in cc)
      | inr later ↦ one_candidate test xs row parts.1 later candidate
    ]

-- two latest rows of one prefix are one
pub one_latest : (h : History) (prefix : List Value) (bound : ℕ) (a b : Option (List Value)) → IsLegal h → IsLatest h prefix bound a → IsLatest h prefix bound b → a ≡ b
one_latest h prefix bound None None legal a b = refl
one_latest h prefix bound None (Some row) legal a b = absurd (one_candidate (is_candidate h prefix bound) (rows h) b.found a b.among b.candidate)
one_latest h prefix bound (Some row) None legal a b = absurd (one_candidate (is_candidate h prefix bound) (rows h) a.found b a.among a.candidate)
one_latest h prefix bound (Some row) (Some again) legal a b =
    let even : key_in h a.found ≡ key_in h b.found = even_rows h a.found b.found (b.greatest a.found a.among a.candidate) (a.greatest b.found b.among b.candidate) in
    let same : a.found ≡ b.found = one_holder h.opening.schemas.first (rows h) a.found b.found legal.distinct a.among b.among even in
    ap Some (a.lifted ∙ ap (newest_form h) same ∙ sym b.lifted)
