use Rattle.std.proofs.Common.{◌≡◌, ℕ, [], length, map, true, false, sym, ap, ◌∙◌, arith}
use Rattle.std.specs.Prelude.{Some, None, nat_lt}
use Rattle.std.proofs.lemmas.Bool.Decides.{nat_tests}
use Rattle.std.proofs.lemmas.List.{length-map}
use Rattle.lt_json.specs.declared.json.SchemaError.TheVariants.{TooMany}
use Rattle.serde_json.specs.View.{view}
use Rattle.lt_json.specs.FromJson.{columns_in, column_in, names_in, twice_from, shape_refusal}
use Rattle.lt_json.proofs.Reading.{Timed, IsNamed, refused_time, refused_count, refused_name, refused_default, default_cause, misshapen_none, lawful_schema}
use Rattle.lt_json.proofs.json.schema_of.Goals as goal

pub returns-then-not-is_timed-clause-cause : goal.returns-then-not-is_timed-clause-cause
returns-then-not-is_timed-clause-cause c = λ other.
    let d = view c.args.json.now in
    let shape : shape_refusal d ≡ None = sym c.in_default.ensures in
    let time : Timed d false = rw (← c.columns_in-columns.ensures, ← c.key_len_in-key_len.ensures.value) (sym c.is_timed.ensures ∙ c.if-not-is_timed.true) in
    refused_time d shape time

pub returns-then-columns-gt-MOST_COLUMNS-clause-cause : goal.returns-then-columns-gt-MOST_COLUMNS-clause-cause
returns-then-columns-gt-MOST_COLUMNS-clause-cause c = λ other.
    let d = view c.args.json.now in
    let shape : shape_refusal d ≡ None = sym c.in_default.ensures in
    let time : Timed d true = rw (← c.columns_in-columns.ensures, ← c.key_len_in-key_len.ensures.value) (sym c.is_timed.ensures ∙ c.if-not-is_timed.false) in
    let len : length (columns_in d) ≡ length c.columns_in-columns.result.now = ap length (sym c.columns_in-columns.ensures) ∙ length-map c.columns_in-columns.result.now view in
    let many : nat_lt 64 (length (columns_in d)) ≡ true = rw len (grind (arith, nat_tests, c.if-columns-gt-MOST_COLUMNS.true)) in
    refused_count d shape time many ∙ ap (λ (n : ℕ). Some (TooMany n)) len

pub returns-in-Some-twice-clause-cause : goal.returns-in-Some-twice-clause-cause
returns-in-Some-twice-clause-cause c = λ other.
    let d = view c.args.json.now in
    let shape : shape_refusal d ≡ None = sym c.in_default.ensures in
    let time : Timed d true = rw (← c.columns_in-columns.ensures, ← c.key_len_in-key_len.ensures.value) (sym c.is_timed.ensures ∙ c.if-not-is_timed.false) in
    let len : length (columns_in d) ≡ length c.columns_in-columns.result.now = ap length (sym c.columns_in-columns.ensures) ∙ length-map c.columns_in-columns.result.now view in
    let few : nat_lt 64 (length (columns_in d)) ≡ false = rw len (grind (arith, nat_tests, c.if-columns-gt-MOST_COLUMNS.false)) in
    refused_name d c.in-Some-twice.column shape time few (rw (← c.columns_in-columns.ensures) (sym c.in-Some-twice.ensures))

pub read_columns-requires-clause-shaped : goal.read_columns-requires-clause-shaped
read_columns-requires-clause-shaped c =
    let d = view c.args.json.now in
    let shape : shape_refusal d ≡ None = sym c.in_default.ensures in
    rw (c.columns_in-columns.ensures) (misshapen_none d shape)

pub returns-in-Err-clause-cause : goal.returns-in-Err-clause-cause
returns-in-Err-clause-cause c =
    let d = view c.args.json.now in
    let shape : shape_refusal d ≡ None = sym c.in_default.ensures in
    let time : Timed d true = rw (← c.columns_in-columns.ensures, ← c.key_len_in-key_len.ensures.value) (sym c.is_timed.ensures ∙ c.if-not-is_timed.false) in
    let len : length (columns_in d) ≡ length c.columns_in-columns.result.now = ap length (sym c.columns_in-columns.ensures) ∙ length-map c.columns_in-columns.result.now view in
    let few : nat_lt 64 (length (columns_in d)) ≡ false = rw len (grind (arith, nat_tests, c.if-columns-gt-MOST_COLUMNS.false)) in
    let name : twice_from 0 [] (names_in (columns_in d)) ≡ None = rw (← c.columns_in-columns.ensures) (sym c.in_default-twice.ensures) in
    let named : IsNamed d = record { shape = shape; time = time; count = few; name = name } in
    default_cause d c.in-Err.refusal named (rw (← c.columns_in-columns.ensures) c.in-Err.ensures.cause)

pub returns-in-Ok-clause-unrefused : goal.returns-in-Ok-clause-unrefused
returns-in-Ok-clause-unrefused c =
    let d = view c.args.json.now in
    let shape : shape_refusal d ≡ None = sym c.in_default.ensures in
    let time : Timed d true = rw (← c.columns_in-columns.ensures, ← c.key_len_in-key_len.ensures.value) (sym c.is_timed.ensures ∙ c.if-not-is_timed.false) in
    let len : length (columns_in d) ≡ length c.columns_in-columns.result.now = ap length (sym c.columns_in-columns.ensures) ∙ length-map c.columns_in-columns.result.now view in
    let few : nat_lt 64 (length (columns_in d)) ≡ false = rw len (grind (arith, nat_tests, c.if-columns-gt-MOST_COLUMNS.false)) in
    let name : twice_from 0 [] (names_in (columns_in d)) ≡ None = rw (← c.columns_in-columns.ensures) (sym c.in_default-twice.ensures) in
    let named : IsNamed d = record { shape = shape; time = time; count = few; name = name } in
    refused_default d None named (rw (← c.columns_in-columns.ensures) c.in-Ok.ensures.lawful)

pub new-requires : goal.new-requires
new-requires c =
    let d = view c.args.json.now in
    let shape : shape_refusal d ≡ None = sym c.in_default.ensures in
    let time : Timed d true = rw (← c.columns_in-columns.ensures, ← c.key_len_in-key_len.ensures.value) (sym c.is_timed.ensures ∙ c.if-not-is_timed.false) in
    let len : length (columns_in d) ≡ length c.columns_in-columns.result.now = ap length (sym c.columns_in-columns.ensures) ∙ length-map c.columns_in-columns.result.now view in
    let few : nat_lt 64 (length (columns_in d)) ≡ false = rw len (grind (arith, nat_tests, c.if-columns-gt-MOST_COLUMNS.false)) in
    let name : twice_from 0 [] (names_in (columns_in d)) ≡ None = rw (← c.columns_in-columns.ensures) (sym c.in_default-twice.ensures) in
    let named : IsNamed d = record { shape = shape; time = time; count = few; name = name } in
    let columns : c.from_vec.result ≡ map column_in (columns_in d) = c.from_vec.ensures ∙ c.in-Ok.ensures.value ∙ ap (map column_in) c.columns_in-columns.ensures in
    let is = lawful_schema d named (rw (← c.columns_in-columns.ensures) c.in-Ok.ensures.lawful) in
    rw (columns, c.key_len_in-key_len.ensures.value) is
