-- A record that is read as a row is one of it.
use Rattle.std.proofs.Common.{◌≡◌, ℕ, ◌-◌, ◌^◌, ◌<◌, ◌≤◌, Bool, true, false, cond, List, length, get_or, take, drop, refl, sym, ap, subst, ◌∙◌, arith}
use Rattle.std.specs.Prelude.{IsTrue, All, nat_le, nat_lt, nat_eq, Option, Some, None, Result, Ok, Err, slice_get}
use Rattle.std.specs.Option.{option_map_or}
use Rattle.std.proofs.lemmas.Bool.{leb-true}
use Rattle.std.proofs.lemmas.Bool.Decides.{nat_tests}
use Rattle.std.proofs.lemmas.List.{length-take, get_or_default}
use Rattle.lt_rec.specs.Record.{Record, IsRecord, time_of as key_time}
use Rattle.lt_rec.proofs.Stored.{time_is}
use Rattle.lt_schema.specs.declared.value.Value.{Value}
use Rattle.lt_schema.specs.declared.row.RowFault.TheVariants.{Arity, KeyLong, BodyLong}
use Rattle.lt_schema.specs.Shapes.{SchemaShape}
use Rattle.lt_schema.specs.Lawful.{is_schema}
use Rattle.lt_schema.specs.Values.{moment_of}
use Rattle.lt_schema.specs.Check.{Passes, wrong_kind_from, kind_fault, counted, key_len_in_bytes, body_len_in_bytes}
use Rattle.lt_schema.specs.Versions.{SchemaVersions, is_versions, schema_at, newest_version}
use Rattle.lt_schema.proofs.Growing.{is_schema-at, lawful_from}
use Rattle.lt_codec.specs.Spelling.{in_key, key_bytes, body_bytes, body_columns}
use Rattle.lt_codec.specs.Reading.{row_in, row_at}
use Rattle.lt_codec.specs.Ordering.{IsSpelling}
use Rattle.lt_codec.proofs.Keys.{forms-at}
use Rattle.lt_codec.proofs.Lengths.{spelled_front, length-key, length-body, kinds_drop, small}
use Rattle.lt_model.specs.History.{Numbered}
use Rattle.lt_loading.specs.Rows.{IsOfRow}

abbrev pub AreBytes : List ℕ → Type 0
AreBytes bytes = All (λ b. b < 2 ^ 8) bytes

-- what is read is spelled in no other way
abbrev pub OneSpelling : Type 0
OneSpelling = (schema : SchemaShape) (key body : List ℕ) (row : List Value) → IsTrue (is_schema schema) → AreBytes key → AreBytes body → row_at schema key body ≡ Ok row → IsSpelling schema key body row

-- elements that are bytes, each by its place
pub are_bytes : (bytes : List ℕ) → ((i : ℕ) → get_or bytes i 0 < 256) → AreBytes bytes
are_bytes bytes each k d lt = subst (λ (n : ℕ). n < 256) (get_or_default bytes k 0 d lt) (each k)

known_by : (b : Bool) (r : Result (List Value) ℕ) (row : List Value) → cond b r (Err 0) ≡ Ok row → (b ≡ true) × (r ≡ Ok row)
known_by true r row e = (refl, e)
known_by false r row e = absurd (cc)

known : (versions : SchemaVersions) (rec : Record) (row : List Value) → row_in versions rec ≡ Ok row → (nat_le rec.ver (newest_version versions) ≡ true) × (row_at (schema_at versions rec.ver) rec.key rec.body ≡ Ok row)
unfolding row_in
known versions rec row read = known_by (nat_le rec.ver (newest_version versions)) (row_at (schema_at versions rec.ver) rec.key rec.body) row read

no_fault : (a k b : Bool) (o : Option ℕ) (x y w g : ℕ) → a ≡ true → o ≡ None → k ≡ false → b ≡ false → cond a (kind_fault o (cond k (Some (KeyLong x)) (cond b (Some (BodyLong y)) None))) (Some (Arity w g)) ≡ None
no_fault true false false None x y w g ea eo ek eb = refl
no_fault true false false (Some c) x y w g ea eo ek eb = absurd (cc)
no_fault true false true o x y w g ea eo ek eb = absurd (cc)
no_fault true true b o x y w g ea eo ek eb = absurd (cc)
no_fault false k b o x y w g ea eo ek eb = absurd (cc)

not_above : (a b : ℕ) → b ≤ a → nat_lt a b ≡ false
not_above a b h = grind (arith, nat_tests)

same_number : (a b : ℕ) → a ≡ b → nat_eq a b ≡ true
same_number a b h = grind (arith, nat_tests)

-- what a key and a body of their lengths spell passes
passes : (schema : SchemaShape) (key body : List ℕ) (row : List Value) → IsTrue (is_schema schema) → IsSpelling schema key body row → length key ≤ 4096 → length body ≤ 60000 → Passes schema row
passes schema key body row lawful is short small_body =
    let k = schema.key_len in
    let within : k ≤ length schema.columns = leb-true k (length schema.columns) (lawful_from schema lawful).within in
    let key_len : length (key_bytes schema row) ≡ key_len_in_bytes schema row =
    ap length (sym (spelled_front in_key k schema.columns row)) ∙ length-key (take k schema.columns) (take k row) (omega (arith, length-take k schema.columns, length-take k row, is.arity)) in
    let key_same : length key ≡ length (key_bytes schema row) = ap length is.key_is in
    let kinds = kinds_drop k 0 0 schema.columns row is.kinds in
    let body_len = length-body 0 (body_columns schema) (drop k row) kinds in
    let body_same : length body ≡ length (body_bytes schema row) = ap length is.body_is in
    no_fault (nat_eq (length row) (length schema.columns)) (nat_lt 4096 (key_len_in_bytes schema row)) (nat_lt 60000 (body_len_in_bytes schema row)) (wrong_kind_from 0 schema.columns row) (counted (key_len_in_bytes schema row)) (counted (body_len_in_bytes schema row)) (length schema.columns) (length row)
    (same_number (length row) (length schema.columns) is.arity) is.kinds (not_above 4096 (key_len_in_bytes schema row) (omega (arith, key_len, key_same, short))) (not_above 60000 (body_len_in_bytes schema row) (omega (arith, body_len, body_same, small_body)))

pub row_is : OneSpelling → (versions : SchemaVersions) (rec : Record) (row : List Value) → IsTrue (is_versions versions) → IsRecord rec → AreBytes rec.key → AreBytes rec.body → row_in versions rec ≡ Ok row → IsOfRow versions rec
row_is one_spelling versions rec row lawful stored key body read =
    let parts = known versions rec row read in
    let schema = schema_at versions rec.ver in
    let fine = is_schema-at versions rec.ver lawful in
    let is = one_spelling schema rec.key rec.body row fine key body parts.1 in
    let passing = passes schema rec.key rec.body row fine is stored.short_enough stored.small_body in
    let timed = (small schema row fine passing).timed in
    let numbered : Numbered = record { seq = rec.seq; ver = rec.ver; row = row } in (
      numbered,
      record {
        number = refl;
        version = refl;
        known = leb-true rec.ver (newest_version versions) parts.0;
        read = read;
        time = sym (time_is rec stored) ∙ ap key_time is.key_is ∙ timed ∙ ap (λ (n : ℕ). option_map_or moment_of (slice_get row (n - 1)) 0) (forms-at versions rec.ver lawful).1;
        key = is.key_is;
        passes = passing;
        words = is.words;
      },
    )
