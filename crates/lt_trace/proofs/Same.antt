-- A stone that keeps each record from its low on.
use Rattle.std.proofs.Common.{◌≡◌, ℕ, ◌≤◌, Bool, true, false, List, length, take, Contains, refl, sym, ◌∙◌, ap, subst, arith, length-append}
use Rattle.std.specs.Prelude.{nat_le, Err, Result, ◌↔◌, cond}
use Rattle.std.proofs.lemmas.List.{take-append-le}
use Rattle.lt_rec.specs.Record.{Record}
use Rattle.lt_schema.specs.declared.value.Value.{Value}
use Rattle.lt_schema.specs.Shapes.{SchemaShape}
use Rattle.lt_schema.specs.Check.{Passes, time_of}
use Rattle.lt_schema.specs.Versions.{SchemaVersions, schema_at, after_changes, newest_version}
use Rattle.lt_codec.specs.Reading.{row_in, row_at}
use Rattle.lt_codec.specs.Spelling.{key_bytes}
use Rattle.lt_desc.specs.Shape.{StoneShape}
use Rattle.lt_model.specs.History.{Numbered, History}
use Rattle.lt_model.specs.Crash.{durable_rows}
use Rattle.lt_model.specs.Readings.{time_in}
use Rattle.lt_trace.specs.Records.{IsRecordOf, IsOn, HasRow, Extends}
use Rattle.lt_trace.specs.Opens.{durable_by, HoldsRows}
use Rattle.lt_trace.specs.Laws.{SameRecordsHold}
use Rattle.lt_trace.proofs.Rows.{IsDurableRow, durable_row, is_durable_row, one_row}

-- ---- more versions

pub version_stays : (versions more : SchemaVersions) (ver : ℕ) → Extends versions more → ver ≤ newest_version versions → schema_at more ver ≡ schema_at versions ver
version_stays versions more ver extends within =
    (λ i. after_changes (extends.first i) (take ver (extends.changes i))) ∙ ap (after_changes versions.first) (take-append-le ver versions.changes extends.since within)

versions_more : (versions more : SchemaVersions) → Extends versions more → newest_version versions ≤ newest_version more
versions_more versions more extends = omega (arith, ap length extends.changes, length-append versions.changes extends.since)

read_in : (b : Bool) (read : Result (List Value) ℕ) → b ≡ true → cond b read (Err 0) ≡ read
read_in true read e = refl
read_in false read e = cc

le_true : (a b : ℕ) → a ≤ b → nat_le a b ≡ true
le_true a b h = grind arith

pub row_in_is : (versions : SchemaVersions) (rec : Record) → rec.ver ≤ newest_version versions → row_in versions rec ≡ row_at (schema_at versions rec.ver) rec.key rec.body
unfolding row_in
row_in_is versions rec within = read_in (nat_le rec.ver (newest_version versions)) (row_at (schema_at versions rec.ver) rec.key rec.body) (le_true rec.ver (newest_version versions) within)

pub still_record : (versions more : SchemaVersions) (rec : Record) (numbered : Numbered) → Extends versions more → IsRecordOf versions rec numbered → IsRecordOf more rec numbered
still_record versions more rec numbered extends is =
    let up = versions_more versions more extends in
    let within : rec.ver ≤ newest_version versions = omega (arith, is.version, is.known) in
    let same : schema_at more numbered.ver ≡ schema_at versions numbered.ver = version_stays versions more numbered.ver extends is.known in
    let same_read : schema_at more rec.ver ≡ schema_at versions rec.ver = version_stays versions more rec.ver extends within in
    record {
      number = is.number;
      version = is.version;
      known = omega (arith, is.known, up);
      read = row_in_is more rec (omega (arith, within, up)) ∙ ap (λ (s : SchemaShape). row_at s rec.key rec.body) same_read ∙ sym (row_in_is versions rec within) ∙ is.read;
      time = is.time ∙ ap (λ (s : SchemaShape). time_of s numbered.row) (sym extends.first);
      key = is.key ∙ ap (λ (s : SchemaShape). key_bytes s numbered.row) (sym same);
      passes = subst (λ (s : SchemaShape). Passes s numbered.row) (sym same) is.passes;
      words = is.words;
    }

-- ---- rows

module _ (h : History) (old_recs new_recs : ℕ → List Record) (own new : StoneShape) (holds : HoldsRows old_recs h own)
    (rows_are : (rec : Record) → IsOn old_recs own.tablets rec → (numbered : Numbered) × IsRecordOf own.schemas rec numbered)
    (upto : new.kept ≡ own.kept) (low : own.low ≤ new.low) (extends : Extends own.schemas new.schemas)
    (same : (rec : Record) → new.low ≤ rec.ts → IsOn old_recs own.tablets rec ↔ IsOn new_recs new.tablets rec) where
  -- the timestamp by the history's schema is that by the stone's
  at_time : (numbered : Numbered) → time_of own.schemas.first numbered.row ≡ time_in h numbered
  at_time numbered = ap (λ (s : SchemaShape). time_of s numbered.row) holds.first

  there : (numbered : Numbered) → Contains (durable_rows h (durable_by new)) numbered → HasRow new.schemas new_recs new.tablets new.low numbered
  there numbered among =
      let is : IsDurableRow h (durable_by new) numbered = durable_row h (durable_by new) numbered among in
      let has_row : HasRow own.schemas old_recs own.tablets own.low numbered =
      (holds.exactly numbered).0 (is_durable_row h (durable_by own) numbered (record { among = is.among; below = omega (arith, is.below, upto); unexpired = omega (arith, is.unexpired, low) })) in
      let late : new.low ≤ has_row.rec.ts = omega (arith, is.unexpired, has_row.is.time, at_time numbered) in
      record {
        rec = has_row.rec;
        on = (same has_row.rec late).0 has_row.on;
        unexpired = late;
        is = still_record own.schemas new.schemas has_row.rec numbered extends has_row.is;
      }

  back : (numbered : Numbered) → HasRow new.schemas new_recs new.tablets new.low numbered → Contains (durable_rows h (durable_by new)) numbered
  back numbered has_row =
      let on : IsOn old_recs own.tablets has_row.rec = (same has_row.rec has_row.unexpired).1 has_row.on in
      let row : (numbered : Numbered) × IsRecordOf own.schemas has_row.rec numbered = rows_are has_row.rec on in
      let one : row.0 ≡ numbered = one_row new.schemas has_row.rec row.0 numbered (still_record own.schemas new.schemas has_row.rec row.0 extends row.1) has_row.is in
      let is_of : IsRecordOf own.schemas has_row.rec numbered = subst (λ (n : Numbered). IsRecordOf own.schemas has_row.rec n) one row.1 in
      let is : IsDurableRow h (durable_by own) numbered = durable_row h (durable_by own) numbered ((holds.exactly numbered).1 (record { rec = has_row.rec; on = on; unexpired = omega (arith, has_row.unexpired, low); is = is_of })) in
      is_durable_row h (durable_by new) numbered (record { among = is.among; below = omega (arith, is.below, upto); unexpired = omega (arith, has_row.unexpired, is_of.time, at_time numbered) })

  pub holds_same : HoldsRows new_recs h new
  holds_same = record { first = extends.first ∙ holds.first; exactly = λ numbered. (there numbered, back numbered) }

pub same_records_hold : SameRecordsHold
same_records_hold h old_recs new_recs own new holds rows_are upto low extends same = holds_same h old_recs new_recs own new holds rows_are upto low extends same
