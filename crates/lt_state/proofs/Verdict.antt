-- The verdict by the records that the core holds.
use Rattle.std.proofs.Common.{◌≡◌, ◌≢◌, ℕ, ◌≤◌, ◌<◌, List, Some, Contains, refl, sym, ◌∙◌, ap, subst, ⊎_elim, arith, true}
use Rattle.std.specs.Prelude.{IsTrue}
use Rattle.std.specs.Ordering.{nat_cmp}
use Rattle.std.specs.Cmp.Lexicographic.{slice_cmp}
use Rattle.std.specs.declared.cmp.Ordering.TheVariants.{Equal}
use Rattle.std.proofs.lemmas.Bool.{cases_lt, and_parts}
use Rattle.std.proofs.lemmas.Cmp.{tied_itself}
use Rattle.std.proofs.lemmas.Map.Lookups.{exact_bytes}
use Rattle.std.proofs.lemmas.List.Elements.{Contains-append_right, Contains-append_cases}
use Rattle.lt_rec.specs.Record.{Record}
use Rattle.lt_rec.specs.declared.listed.Listed.{Listed}
use Rattle.lt_schema.specs.Lawful.{is_schema}
use Rattle.lt_schema.specs.Values.{key_cmp}
use Rattle.lt_schema.specs.Check.{key_of, time_of}
use Rattle.lt_schema.specs.Versions.{SchemaVersions, schema_at, is_versions, are_admitted}
use Rattle.lt_codec.specs.Spelling.{key_bytes}
use Rattle.lt_codec.proofs.Keys.{keys_order}
use Rattle.lt_desc.specs.Shape.{StoneShape}
use Rattle.lt_commit.specs.Anchored.{Anchored}
use Rattle.lt_model.specs.History.{Numbered, History}
use Rattle.lt_model.specs.Readings.{rows, rows_in, low, kept, schemas, key_in, time_in}
use Rattle.lt_model.specs.Legal.{IsLegal}
use Rattle.lt_model.specs.Verdict.{HasKey, HasNewKey}
use Rattle.lt_model.proofs.Orders.{key_cmp_total}
use Rattle.lt_trace.proofs.Keys.{row_of, same_keys, same_times}
use Rattle.lt_trace.proofs.Rows.{durable_row, is_durable_row, kept_in_up, opening_below, PlacedRow, row_placed, placed_row}
use Rattle.lt_trace.specs.Opens.{durable_by}
use Rattle.lt_trace.specs.Records.{IsRecordOf, IsOn, HasRow}
use Rattle.lt_state.specs.Facts.{SixFacts, Source, in_file, in_tablet, Holds}
use Rattle.lt_state.specs.Laws.{FoundIsPresent, NoneFoundIsNew}
use Rattle.lt_state.specs.Memory.{IsPlaced, IsHeld, IsMemory}
use Rattle.lt_state.specs.State.{Filled}

-- rows with the same key have records with the same key
same_bytes : (v : SchemaVersions) (rec other : Record) (a b : Numbered) → IsTrue (is_versions v) → IsRecordOf v rec a → IsRecordOf v other b → key_of v.first a.row ≡ key_of v.first b.row → rec.key ≡ other.key
same_bytes v rec other a b lawful is_a is_b key =
    let tied : key_cmp (key_of v.first a.row) (key_of v.first b.row) ≡ Equal = ap (key_cmp (key_of v.first a.row)) (sym key) ∙ tied_itself key_cmp_total (key_of v.first a.row) in
    let equal : slice_cmp nat_cmp (key_bytes (schema_at v a.ver) a.row) (key_bytes (schema_at v b.ver) b.row) ≡ Equal = keys_order v a.ver b.ver a.row b.row (row_of v rec a lawful is_a) (row_of v other b lawful is_b) ∙ tied in
    is_a.key ∙ exact_bytes (key_bytes (schema_at v a.ver) a.row) (key_bytes (schema_at v b.ver) b.row) equal ∙ sym is_b.key

module _ (h : History) (recs : ℕ → List Record) (anchor : Anchored) (tablets : List Listed) (memory : List Filled) (own : StoneShape) (numbered : Numbered) (rec : Record)
    (lawful : IsTrue (is_versions (schemas h))) (in_memory : IsMemory h memory) (facts : SixFacts true recs h anchor tablets memory) (possible : Contains anchor.may (Some own)) (own_tablets : own.tablets ≡ tablets) (own_schemas : own.schemas ≡ schemas h) (own_low : own.low ≡ low h)
    (is : IsRecordOf (schemas h) rec numbered) (unexpired : low h ≤ time_in h numbered) where
  first_lawful : IsTrue (is_schema h.opening.schemas.first)
  first_lawful = (and_parts (is_schema h.opening.schemas.first) (are_admitted h.opening.schemas.first (schemas h).changes) lawful).0

  -- a row whose record has the key
  has_key : (other : Record) (row : Numbered) → IsRecordOf (schemas h) other row → other.key ≡ rec.key → (low h ≤ other.ts → Contains (rows h) row) → HasKey h numbered.row other.seq
  has_key other row is_other key among =
      let keys : key_of h.opening.schemas.first row.row ≡ key_of h.opening.schemas.first numbered.row = same_keys (schemas h) other rec row numbered lawful is_other is key in
      let times : time_of h.opening.schemas.first row.row ≡ time_of h.opening.schemas.first numbered.row = same_times h.opening.schemas.first row.row numbered.row first_lawful keys in
      record { found = row; among = among (omega (arith, unexpired, times, is_other.time)); same_key = keys; number = sym is_other.number }

  pub present : (other : Record) (source : Source) → Holds recs tablets memory source other → other.key ≡ rec.key → HasKey h numbered.row other.seq
  present other (in_file file) held key =
      let on : IsOn recs own.tablets other = record { tablet = held.tablet; listed = subst (λ (ts : List Listed). Contains ts held.tablet) (sym own_tablets) held.listed; among = subst (λ (n : ℕ). Contains (recs n) other) (sym held.file_is) held.among } in
      let row : (numbered : Numbered) × IsRecordOf own.schemas other numbered = (facts.entered refl own possible).rows_are other on in
      has_key other row.0 (subst (λ (v : SchemaVersions). IsRecordOf v other row.0) own_schemas row.1) key
      (λ late. (durable_row h (durable_by own) row.0 (((facts.rows refl own possible).exactly row.0).1 (record { rec = other; on = on; unexpired = omega (arith, late, own_low); is = row.1 }))).among)
  present other (in_tablet number) held key =
      let p : IsPlaced h number other = in_memory.each number other held in
      has_key other p.placed.numbered p.is key (λ late. Contains-append_right h.opening.rows (rows_in h.entries) p.placed.numbered (placed_row h.entries p.placed p.among))

  -- a row of the history that is unexpired is held
  pub is_held : IsLegal h → h.opening.kept ≡ h.opening.next → own.kept ≡ kept h → (row : Numbered) → Contains (rows h) row → low h ≤ time_in h row → (source : Source) × (other : Record) × Holds recs tablets memory source other × IsRecordOf (schemas h) other row
  is_held legal opened own_upto row among late = ⊎_elim
      (λ settled.
      let r : HasRow own.schemas recs own.tablets own.low row = ((facts.rows refl own possible).exactly row).0 (is_durable_row h (durable_by own) row (record { among = among; below = omega (arith, settled, own_upto); unexpired = omega (arith, late, own_low) })) in
      (in_file r.on.tablet.file, r.rec, record { tablet = r.on.tablet; listed = subst (λ (ts : List Listed). Contains ts r.on.tablet) own_tablets r.on.listed; file_is = refl; among = r.on.among }, subst (λ (v : SchemaVersions). IsRecordOf v r.rec row) own_schemas r.is))
      (λ unsettled. ⊎_elim
      (λ at_first. let below = opening_below h row legal at_first in let up = kept_in_up h.opening.kept h.entries in absurd (omega (arith, below, up, opened, unsettled)))
      (λ since.
      let p : PlacedRow h.entries row = row_placed h.entries row since in
      let held : IsHeld h memory p.placed = in_memory.all p.placed p.among (omega (arith, unsettled, ap (λ (n : Numbered). n.seq) p.same)) in
      (in_tablet p.placed.tablet, held.rec, held.held, subst (IsRecordOf (schemas h) held.rec) p.same held.is))
      (Contains-append_cases h.opening.rows (rows_in h.entries) row among))
      (cases_lt row.seq (kept h))

  pub none_found : IsLegal h → h.opening.kept ≡ h.opening.next → own.kept ≡ kept h → (clear : ℕ)
      → ((source : Source) (other : Record) → Holds recs tablets memory source other → other.key ≡ rec.key → other.seq < clear)
      → ((x : Numbered) → Contains (rows h) x → x.seq < clear → key_in h x ≢ key_of h.opening.schemas.first numbered.row)
      → HasNewKey h numbered.row
  none_found legal opened own_upto clear found cleared row among key =
      let times : time_of h.opening.schemas.first row.row ≡ time_of h.opening.schemas.first numbered.row = same_times h.opening.schemas.first row.row numbered.row first_lawful key in
      let held : (source : Source) × (other : Record) × Holds recs tablets memory source other × IsRecordOf (schemas h) other row = is_held legal opened own_upto row among (omega (arith, unexpired, times)) in
      let low_number : held.1.seq < clear = found held.0 held.1 held.2 (same_bytes (schemas h) held.1 rec row numbered lawful held.3 is key) in
      cleared row among (omega (arith, low_number, held.3.number)) key

pub found_is_present : FoundIsPresent
found_is_present h recs anchor tablets memory own numbered rec other source lawful in_memory facts possible own_tablets own_schemas own_low is unexpired held key =
    present h recs anchor tablets memory own numbered rec lawful in_memory facts possible own_tablets own_schemas own_low is unexpired other source held key

pub none_found_is_new : NoneFoundIsNew
none_found_is_new h recs anchor tablets memory own numbered rec clear legal opened lawful in_memory facts possible own_tablets own_schemas own_low own_upto is unexpired found cleared =
    none_found h recs anchor tablets memory own numbered rec lawful in_memory facts possible own_tablets own_schemas own_low is unexpired legal opened own_upto clear found cleared
