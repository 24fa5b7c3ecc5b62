-- The record of a row that passes is one of the row.
use Rattle.std.proofs.Common.{◌≡◌, ℕ, ◌-◌, ◌^◌, ◌≤◌, min, Bool, true, false, cond, List, [], ◌∷◌, length, Ok, Err, refl, sym, ◌∙◌, ap, subst, arith}
use Rattle.std.specs.Prelude.{IsTrue, Result, nat_le}
use Rattle.std.specs.List.{list_all}
use Rattle.std.proofs.lemmas.List.{take_all}
use Rattle.lt_rec.specs.Record.{Record}
use Rattle.lt_schema.specs.declared.value.Value.{Value}
use Rattle.lt_schema.specs.declared.change.Change.{Change}
use Rattle.lt_schema.specs.declared.change.Change.TheVariants.{Append, Widen}
use Rattle.lt_schema.specs.Shapes.{SchemaShape}
use Rattle.lt_schema.specs.Lawful.{is_schema}
use Rattle.lt_schema.specs.Check.{Passes, time_of}
use Rattle.lt_schema.specs.Versions.{SchemaVersions, after_changes, schema_at, newest, newest_version, changed}
use Rattle.lt_codec.specs.Spelling.{key_bytes, body_bytes, record_of}
use Rattle.lt_codec.specs.Reading.{row_at, row_in}
use Rattle.lt_codec.specs.Ordering.{fits_word, is_text}
use Rattle.lt_trace.specs.Records.{IsRecordOf}
use Rattle.lt_state.specs.State.{Core}
use Rattle.lt_core.specs.Inserts.{numbered_row, row_record, number_for}

-- what a row that passes is read back as
abbrev pub ReadsBack : Type 0
ReadsBack = (schema : SchemaShape) (row : List Value) → IsTrue (is_schema schema) → Passes schema row → IsTrue (list_all fits_word row) → IsTrue (list_all is_text row) → row_at schema (key_bytes schema row) (body_bytes schema row) ≡ Ok row

pub newest_is : (v : SchemaVersions) → schema_at v (newest_version v) ≡ newest v
newest_is v = ap (after_changes v.first) (take_all (length v.changes) v.changes (omega arith))

-- a change leaves how many columns the key has
key_len_after : (schema : SchemaShape) (changes : List Change) → (after_changes schema changes).key_len ≡ schema.key_len
key_len_after schema [] = refl
key_len_after schema (Append column ∷ changes) = key_len_after (changed schema (Append column)) changes
key_len_after schema (Widen name ∷ changes) = key_len_after (changed schema (Widen name)) changes

pub newest_time : (v : SchemaVersions) (row : List Value) → time_of (newest v) row ≡ time_of v.first row
newest_time v row = ap (λ (n : ℕ). time_of (record { columns = v.first.columns; key_len = n }) row) (key_len_after v.first v.changes)

read_in : (b : Bool) (read : Result (List Value) ℕ) → b ≡ true → cond b read (Err 0) ≡ read
read_in true read e = refl
read_in false read e = cc

le_true : (a b : ℕ) → a ≤ b → nat_le a b ≡ true
le_true a b h = grind arith

row_in_is : (versions : SchemaVersions) (rec : Record) → rec.ver ≤ newest_version versions → row_in versions rec ≡ row_at (schema_at versions rec.ver) rec.key rec.body
unfolding row_in
row_in_is versions rec within = read_in (nat_le rec.ver (newest_version versions)) (row_at (schema_at versions rec.ver) rec.key rec.body) (le_true rec.ver (newest_version versions) within)

abbrev pub newest_record : SchemaVersions → ℕ → List Value → Record
newest_record v seq row = record_of (newest v) (newest_version v) seq row

pub is_record : ReadsBack → (v : SchemaVersions) (seq : ℕ) (row : List Value) → IsTrue (is_schema (newest v)) → Passes (newest v) row → IsTrue (list_all fits_word row) → IsTrue (list_all is_text row)
    → IsRecordOf v (newest_record v seq row) (record { seq = seq; ver = newest_version v; row = row })
is_record back v seq row lawful passes words texts = record {
  number = refl;
  version = refl;
  known = omega arith;
  read = row_in_is v (newest_record v seq row) (omega arith) ∙ ap (λ (s : SchemaShape). row_at s (key_bytes (newest v) row) (body_bytes (newest v) row)) (newest_is v) ∙ back (newest v) row lawful passes words texts;
  time = newest_time v row;
  key = ap (λ (s : SchemaShape). key_bytes s row) (sym (newest_is v));
  passes = subst (λ (s : SchemaShape). Passes s row) (sym (newest_is v)) passes;
  words = words;
}

-- what the code's record says of a row of the core
pub record Made (c : Core) (row : List Value) (rec : Record) : Type 0 where
  pub record_is : rec ≡ row_record c (number_for c) row
  pub is : IsRecordOf c.schemas rec (numbered_row c (number_for c) row)
  pub passes : Passes (newest c.schemas) row
  pub time_is : rec.ts ≡ time_of c.schemas.first row

made : ReadsBack → (c : Core) (row : List Value) → IsTrue (is_schema (newest c.schemas)) → Passes (newest c.schemas) row → IsTrue (list_all fits_word row) → IsTrue (list_all is_text row) → Made c row (row_record c (number_for c) row)
made back c row lawful passes words texts = record {
  record_is = refl;
  is = is_record back c.schemas (number_for c) row lawful passes words texts;
  passes = passes;
  time_is = newest_time c.schemas row;
}

pub made_from : ReadsBack → (c old : Core) (schema : SchemaShape) (ver seq : ℕ) (row : List Value) (rec : Record) → c ≡ old → schema ≡ newest c.schemas → ver ≡ newest_version c.schemas → seq ≡ min c.next (2 ^ 62 - 1) → rec ≡ record_of schema ver seq row
    → IsTrue (is_schema schema) → Passes schema row → IsTrue (list_all fits_word row) → IsTrue (list_all is_text row) → Made old row rec
made_from back c old schema ver seq row rec same schema_is ver_is seq_is rec_is lawful passes words texts =
    let all : rec ≡ row_record c (number_for c) row = rec_is ∙ (λ i. record_of (schema_is i) (ver_is i) (seq_is i) row) in
    subst (λ (x : Core). Made x row rec) same
    (subst (Made c row) (sym all) (made back c row (subst (λ (s : SchemaShape). IsTrue (is_schema s)) schema_is lawful) (subst (λ (s : SchemaShape). Passes s row) schema_is passes) words texts))
