-- A new key of a row is a new key of a record.
use Rattle.std.proofs.Common.{◌≡◌, ℕ, zero, suc, ◌-◌, ◌≤◌, ◌<◌, true, List, [], ◌∷◌, take, Option, refl, sym, ◌∙◌, ap, arith}
use Rattle.std.specs.Prelude.{IsTrue, slice_get, nat_le}
use Rattle.std.specs.Option.{option_map_or}
use Rattle.std.specs.Ordering.{nat_cmp}
use Rattle.std.specs.declared.cmp.Ordering.TheVariants.{Equal}
use Rattle.std.specs.Cmp.Lexicographic.{slice_cmp}
use Rattle.std.proofs.lemmas.Bool.{and_parts}
use Rattle.std.proofs.lemmas.Cmp.{nat_list_cmp_total, tied_itself}
use Rattle.lt_rec.specs.Record.{Record}
use Rattle.lt_schema.specs.declared.value.Value.{Value}
use Rattle.lt_schema.specs.Shapes.{SchemaShape}
use Rattle.lt_schema.specs.Lawful.{is_schema}
use Rattle.lt_schema.specs.Values.{moment_of}
use Rattle.lt_schema.specs.Check.{key_of, time_of}
use Rattle.lt_schema.specs.Versions.{SchemaVersions, schema_at, is_versions, are_admitted}
use Rattle.lt_schema.proofs.Growing.{lawful_from}
use Rattle.lt_codec.specs.Spelling.{key_bytes}
use Rattle.lt_codec.specs.Ordering.{IsRowOf}
use Rattle.lt_codec.proofs.Keys.{keys_order}
use Rattle.lt_model.specs.History.{Numbered}
use Rattle.lt_model.specs.Readings.{schemas}
use Rattle.lt_model.proofs.Orders.{key_cmp_exact}
use Rattle.lt_trace.specs.Records.{IsRecordOf}
use Rattle.lt_trace.specs.Laws.{NewRowHasNewKey}

pub row_of : (versions : SchemaVersions) (rec : Record) (numbered : Numbered) → IsTrue (is_versions versions) → IsRecordOf versions rec numbered → IsRowOf versions numbered.ver numbered.row
row_of versions rec numbered lawful is = record { versions_lawful = lawful; passes = is.passes; words = is.words }

-- records with the same key are of rows with the same key
pub same_keys : (versions : SchemaVersions) (rec other : Record) (a b : Numbered) → IsTrue (is_versions versions) → IsRecordOf versions rec a → IsRecordOf versions other b → rec.key ≡ other.key → key_of versions.first a.row ≡ key_of versions.first b.row
same_keys versions rec other a b lawful is_a is_b same =
    let bytes : key_bytes (schema_at versions a.ver) a.row ≡ key_bytes (schema_at versions b.ver) b.row = sym is_a.key ∙ same ∙ is_b.key in
    let equal : slice_cmp nat_cmp (key_bytes (schema_at versions a.ver) a.row) (key_bytes (schema_at versions b.ver) b.row) ≡ Equal =
    ap (λ (bs : List ℕ). slice_cmp nat_cmp (key_bytes (schema_at versions a.ver) a.row) bs) (sym bytes) ∙ tied_itself nat_list_cmp_total (key_bytes (schema_at versions a.ver) a.row) in
    key_cmp_exact (key_of versions.first a.row) (key_of versions.first b.row) (sym (keys_order versions a.ver b.ver a.row b.row (row_of versions rec a lawful is_a) (row_of versions other b lawful is_b)) ∙ equal)

-- rows with the same key have the same timestamp
got_of_front : (n i : ℕ) (row : List Value) → i < n → slice_get row i ≡ slice_get (take n row) i
got_of_front zero i row within = absurd (omega arith)
got_of_front (suc n) i [] within = refl
got_of_front (suc n) zero (value ∷ row) within = refl
got_of_front (suc n) (suc i) (value ∷ row) within = got_of_front n i row (omega arith)

pub same_times : (schema : SchemaShape) (a b : List Value) → IsTrue (is_schema schema) → key_of schema a ≡ key_of schema b → time_of schema a ≡ time_of schema b
same_times schema a b lawful same =
    let some : 1 ≤ schema.key_len = le_of 1 schema.key_len (lawful_from schema lawful).some in
    ap (λ (o : Option Value). option_map_or moment_of o 0) (got_of_front schema.key_len (schema.key_len - 1) a (omega arith) ∙ ap (λ (k : List Value). slice_get k (schema.key_len - 1)) same ∙ sym (got_of_front schema.key_len (schema.key_len - 1) b (omega arith)))
  where
    le_of : (a b : ℕ) → nat_le a b ≡ true → a ≤ b
    le_of a b e = grind arith

pub new_row_has_new_key : NewRowHasNewKey
new_row_has_new_key h numbered rec other row lawful fresh unexpired is is_other among same =
    let first = h.opening.schemas.first in
    let key : key_of first row.row ≡ key_of first numbered.row = same_keys (schemas h) other rec row numbered lawful is_other is same in
    let schema : IsTrue (is_schema first) = (and_parts (is_schema first) (are_admitted first (schemas h).changes) lawful).0 in
    let time : time_of first row.row ≡ time_of first numbered.row = same_times first row.row numbered.row schema key in
    fresh row (among (omega (arith, unexpired, time, is_other.time))) key
