-- What a flush publishes.
use Rattle.std.proofs.Common.{◌≡◌, ℕ, ◌≤◌, ◌<◌, true, List, [], ◌∷◌, ◌++◌, max, Contains, sym, ◌∙◌, ap, subst, ⊎_elim, arith}
use Rattle.std.proofs.lemmas.Bool.{cases_lt}
use Rattle.std.proofs.lemmas.List.{append-nil}
use Rattle.std.proofs.lemmas.List.Elements.{Contains-append_right, Contains-append_cases}
use Rattle.lt_rec.specs.Closure.{has}
use Rattle.lt_rec.specs.Record.{Record}
use Rattle.lt_schema.specs.Versions.{SchemaVersions}
use Rattle.lt_desc.specs.Shape.{StoneShape}
use Rattle.lt_model.specs.History.{Numbered, kept_entry, History, extended}
use Rattle.lt_model.specs.Readings.{rows_in, kept, schemas, time_in}
use Rattle.lt_model.specs.Legal.{IsLegal}
use Rattle.lt_model.specs.Crash.{durable_rows}
use Rattle.lt_model.proofs.Fronts.{kept-extended}
use Rattle.lt_trace.proofs.Rows.{IsDurableRow, durable_row, is_durable_row, kept_in_up, opening_below, PlacedRow, row_placed, placed_row, placed_in-append, one_row}
use Rattle.lt_trace.specs.Elements.{Placed, placed_in}
use Rattle.lt_trace.specs.Opens.{durable_by, HoldsRows}
use Rattle.lt_trace.specs.Records.{IsRecordOf, IsOn, HasRow}
use Rattle.lt_state.specs.Flushes.{TakesAlong, Goes, Joins}
use Rattle.lt_state.specs.Laws.{FlushHolds, FlushSplitsNone}
use Rattle.lt_state.specs.Memory.{IsPlaced, IsHeld, IsMemory}
use Rattle.lt_state.specs.State.{Filled}

module _ (h : History) (memory : List Filled) (parts : List ℕ) (old_recs new_recs : ℕ → List Record) (own new : StoneShape)
    (legal : IsLegal h) (opened : h.opening.kept ≡ h.opening.next) (in_memory : IsMemory h memory)
    (own_upto : own.kept ≡ kept h) (own_schemas : own.schemas ≡ schemas h) (holds : HoldsRows old_recs h own)
    (takes : TakesAlong h parts new.kept) (new_schemas : new.schemas ≡ schemas h) (low_is : new.low ≡ own.low) (joins : Joins memory parts old_recs own.tablets new_recs new.tablets) where
  same_schemas : own.schemas ≡ new.schemas
  same_schemas = own_schemas ∙ sym new_schemas

  -- a row that the old list has is in the new one
  from_old : (numbered : Numbered) → HasRow own.schemas old_recs own.tablets own.low numbered → HasRow new.schemas new_recs new.tablets new.low numbered
  from_old numbered has_row = record {
    rec = has_row.rec;
    on = joins.old has_row.rec has_row.on;
    unexpired = omega (arith, has_row.unexpired);
    is = subst (λ (v : SchemaVersions). IsRecordOf v has_row.rec numbered) same_schemas has_row.is;
  }

  -- a row from the settled number on is in a tablet that goes
  from_memory : (p : Placed) → Contains (placed_in h.entries) p → kept h ≤ p.numbered.seq → p.numbered.seq < new.kept → new.low ≤ time_in h p.numbered → HasRow new.schemas new_recs new.tablets new.low p.numbered
  from_memory p among unsettled below unexpired =
      let is_held : IsHeld h memory p = in_memory.all p among unsettled in
      record {
        rec = is_held.rec;
        on = joins.gone is_held.rec (record { number = p.tablet; part = takes.covers p among unsettled below; held = is_held.held });
        unexpired = omega (arith, unexpired, is_held.is.time);
        is = subst (λ (v : SchemaVersions). IsRecordOf v is_held.rec p.numbered) (sym new_schemas) is_held.is;
      }

  new_row : (numbered : Numbered) → IsDurableRow h (durable_by new) numbered → kept h ≤ numbered.seq → HasRow new.schemas new_recs new.tablets new.low numbered
  new_row numbered is unsettled = ⊎_elim
      (λ at_first. let below = opening_below h numbered legal at_first in let up = kept_in_up h.opening.kept h.entries in absurd (omega (arith, below, up, opened, unsettled)))
      (λ since.
      let p : PlacedRow h.entries numbered = row_placed h.entries numbered since in
      let has_one : (n : Numbered) → p.placed.numbered ≡ n → kept h ≤ n.seq → n.seq < new.kept → new.low ≤ time_in h n → HasRow new.schemas new_recs new.tablets new.low n
      = λ n same. subst (λ (n : Numbered). kept h ≤ n.seq → n.seq < new.kept → new.low ≤ time_in h n → HasRow new.schemas new_recs new.tablets new.low n) same (from_memory p.placed p.among) in
      has_one numbered p.same unsettled is.below is.unexpired)
      (Contains-append_cases h.opening.rows (rows_in h.entries) numbered is.among)

  there : (numbered : Numbered) → Contains (durable_rows h (durable_by new)) numbered → HasRow new.schemas new_recs new.tablets new.low numbered
  there numbered among =
      let is : IsDurableRow h (durable_by new) numbered = durable_row h (durable_by new) numbered among in
      ⊎_elim
      (λ settled. from_old numbered ((holds.exactly numbered).0 (is_durable_row h (durable_by own) numbered (record { among = is.among; below = omega (arith, settled, own_upto); unexpired = omega (arith, is.unexpired, low_is) }))))
      (λ unsettled. new_row numbered is unsettled)
      (cases_lt numbered.seq (kept h))

  back_old : (numbered : Numbered) (has_row : HasRow new.schemas new_recs new.tablets new.low numbered) → IsOn old_recs own.tablets has_row.rec → IsDurableRow h (durable_by new) numbered
  back_old numbered has_row on =
      let is : IsDurableRow h (durable_by own) numbered = durable_row h (durable_by own) numbered ((holds.exactly numbered).1 (record {
        rec = has_row.rec;
        on = on;
        unexpired = omega (arith, has_row.unexpired, low_is);
        is = subst (λ (v : SchemaVersions). IsRecordOf v has_row.rec numbered) (sym same_schemas) has_row.is;
      })) in
      record { among = is.among; below = omega (arith, is.below, own_upto, takes.no_lower); unexpired = omega (arith, is.unexpired, low_is) }

  back_gone : (numbered : Numbered) (has_row : HasRow new.schemas new_recs new.tablets new.low numbered) → Goes memory parts has_row.rec → IsDurableRow h (durable_by new) numbered
  back_gone numbered has_row goes =
      let p : IsPlaced h goes.number has_row.rec = in_memory.each goes.number has_row.rec goes.held in
      let here : IsRecordOf (schemas h) has_row.rec numbered = subst (λ (v : SchemaVersions). IsRecordOf v has_row.rec numbered) new_schemas has_row.is in
      let same : p.placed.numbered ≡ numbered = one_row (schemas h) has_row.rec p.placed.numbered numbered p.is here in
      let part : has parts p.placed.tablet ≡ true = ap (has parts) p.tablet_is ∙ goes.part in
      let below : p.placed.numbered.seq < new.kept = takes.below p.placed p.among p.unsettled part in
      record {
        among = Contains-append_right h.opening.rows (rows_in h.entries) numbered (subst (Contains (rows_in h.entries)) same (placed_row h.entries p.placed p.among));
        below = subst (λ (n : Numbered). n.seq < new.kept) same below;
        unexpired = omega (arith, has_row.unexpired, here.time);
      }

  back : (numbered : Numbered) → HasRow new.schemas new_recs new.tablets new.low numbered → Contains (durable_rows h (durable_by new)) numbered
  back numbered has_row = is_durable_row h (durable_by new) numbered (⊎_elim (back_old numbered has_row) (back_gone numbered has_row) (joins.from has_row.rec has_row.on))

  pub holds_new : HoldsRows new_recs h new
  holds_new = record { first = ap (λ (v : SchemaVersions). v.first) new_schemas; exactly = λ numbered. (there numbered, back numbered) }

pub flush_holds : FlushHolds
flush_holds h memory parts old_recs new_recs own new legal opened in_memory own_upto own_schemas holds takes new_schemas low_is joins =
    holds_new h memory parts old_recs new_recs own new legal opened in_memory own_upto own_schemas holds takes new_schemas low_is joins

pub flush_splits_none : FlushSplitsNone
flush_splits_none h parts upto legal whole takes one other in_one in_other same from =
    let more = kept_entry upto ∷ [] in
    let settled : kept (extended h more) ≡ max (kept h) upto = kept-extended h more in
    let placed : placed_in (h.entries ++ more) ≡ placed_in h.entries = placed_in-append h.entries more ∙ append-nil (placed_in h.entries) in
    let one_was : Contains (placed_in h.entries) one = subst (λ (ps : List Placed). Contains ps one) placed in_one in
    let other_was : Contains (placed_in h.entries) other = subst (λ (ps : List Placed). Contains ps other) placed in_other in
    let above : kept h ≤ one.numbered.seq = omega (arith, settled, from, takes.no_lower) in
    let other_above : kept h ≤ other.numbered.seq = whole one other one_was other_was same above in
    ⊎_elim
    (λ low. let part : has parts one.tablet ≡ true = ap (has parts) same ∙ takes.covers other other_was other_above low in
    let below : one.numbered.seq < upto = takes.below one one_was above part in
    absurd (omega (arith, below, settled, from, takes.no_lower)))
    (λ high. omega (arith, high, settled, takes.no_lower))
    (cases_lt other.numbered.seq upto)
