use Rattle.std.proofs.Common.{◌≡◌, ◌<◌, ◌+◌, List, ℕ, ◌++◌, length, refl, ap, sym, subst, ◌∙◌, arith}
use Rattle.std.specs.List.{flat_map}
use Rattle.std.proofs.lemmas.Result.{err_from_is_err_and, IfOk-weaker}
use Rattle.lt_rec.specs.Periods.{Stretch, InPeriod}
use Rattle.lt_bloom.specs.Filter.{filter_bytes}
use Rattle.lt_layout.specs.Spelling.{Totals, Parts, entry_spelled, footer_spelled, listed_totals}
use Rattle.lt_tablet.specs.Loaded.{Loaded}
use Rattle.lt_tablet.specs.Writing.{Writing, IsCut, IsListing, HasRecords}
use Rattle.lt_tablet.proofs.Cut.{wanted, parts_same, closed, closed_records, closed_listing, write_err}
use Rattle.lt_tablet.specs.declared.errors.WriteError.TheVariants as write_errors
use Rattle.lt_tablet.proofs.writer.TabletWriter.close.Goals as goal

pub returns-in_err-reader-clause-cause : goal.returns-in_err-reader-clause-cause
returns-in_err-reader-clause-cause g c =
    let p = err_from_is_err_and c.from_residual-in_err-reader.result c.from_residual-in_err-reader.ensures.1 in
    rw (p.1, p.2) (record { later = c.in_err-reader.ensures.cause.later; failed = λ e. c.in_err-reader.ensures.cause.failed (write_err c.in_err-reader.field-0.0 write_errors.Fault e) })

pub whole-requires-clause-loaded : goal.whole-requires-clause-loaded
whole-requires-clause-loaded g c κs within = λ size.
    let old : Writing = record { number = c.self.inside.file; pen = g.V.Device.pen_number c.self.inside.pen; period = c.self.inside.period; index = c.self.inside.index.items; offset = c.self.inside.offset; filling = c.self.inside.block; found = c.self.inside.survey; first = c.self.inside.first.items; last = c.self.inside.last.items; bytes = g.V.Device.pen_bytes c.self.inside.pen } in
    let idx : c.in_ok-spelled.spelled.items ≡ flat_map entry_spelled c.self.inside.index.items = c.in_ok-spelled.ensures ∙ ap (flat_map entry_spelled) c.as_slice.ensures.value in
    let parts = c.in_ok-parts.ensures.exact ∙ parts_same c.self.inside.offset (length c.as_slice-2.result.now) (c.self.inside.offset + length c.as_slice-3.result.now) (length c.as_slice-4.result.now) c.self.inside.offset (length c.self.inside.index.items) (c.self.inside.offset + length (flat_map entry_spelled c.self.inside.index.items)) (length c.in_ok-filter.filter) refl (ap length c.as_slice-2.ensures.value) (ap (λ (x : List ℕ). c.self.inside.offset + length x) (c.as_slice-3.ensures.value ∙ idx)) (ap length c.as_slice-4.ensures) in
    let totals : listed_totals c.listing-listed.result ≡ c.self.inside.survey.totals = c.listing-listed.ensures.totals ∙ c.totals-2.ensures in
    let some : 0 < c.self.inside.survey.totals.rows = omega (arith, c.requires.some, ap (λ (w : Writing). w.found.totals.rows) c.self.view_is) in
    let cut : IsCut g.V.Device.honest old c.requires.cut.0 c.requires.cut.1 = subst (λ (w : Writing). IsCut g.V.Device.honest w c.requires.cut.0 c.requires.cut.1) (sym c.self.view_is) c.requires.cut.2 in
    closed g.V.Device.honest old c.listing-listed.result c.in_ok-filter.filter (g.V.Device.reader_bytes c.in_ok-reader.reader) (g.V.Device.reader_number c.in_ok-reader.reader) (g.V.Device.reader_size c.in_ok-reader.reader) c.requires.cut.0 c.requires.cut.1 cut
    (record {
      filling = ap (λ (w : Writing). w.filling) c.self.view_is ∙ c.requires.empty;
      some = some;
      totals = totals;
      number_is = c.in_ok-reader.ensures.number ∙ (cut.pen_is ∙ sym c.listing-listed.ensures.file);
      size_is = size;
      in_range = omega (arith, size, c.listing-listed.ensures.bytes, c.in_ok-parts.ensures.in_range);
      length_is = omega (arith, c.listing-listed.ensures.bytes, ap (λ (p : Parts). p.filter) parts, ap (λ (p : Parts). p.filter_len) parts);
      filter_is = c.in_ok-filter.ensures.exact ∙ ap filter_bytes c.hashes.ensures;
      bytes_are = λ honest.
          c.in_ok-reader.ensures.bytes honest
          ∙ (ap (λ (x : List ℕ). ((g.V.Device.pen_bytes c.self.inside.pen ++ x) ++ c.as_slice-6.result.now) ++ c.as_slice-7.result.now) (c.as_slice-5.ensures.value ∙ idx)
          ∙ (ap (λ (x : List ℕ). ((g.V.Device.pen_bytes c.self.inside.pen ++ flat_map entry_spelled c.self.inside.index.items) ++ x) ++ c.as_slice-7.result.now) c.as_slice-6.ensures
          ∙ ap (λ (x : List ℕ). ((g.V.Device.pen_bytes c.self.inside.pen ++ flat_map entry_spelled c.self.inside.index.items) ++ c.in_ok-filter.filter) ++ x) (c.as_slice-7.ensures.value ∙ (c.in_ok-foot.ensures ∙ (ap (λ (p : Parts). footer_spelled p c.totals.result.now) parts ∙ ap (λ (t : Totals). footer_spelled (wanted old c.in_ok-filter.filter) t) c.totals.ensures)))));
    })

pub whole-requires-clause-listing : goal.whole-requires-clause-listing
whole-requires-clause-listing g c κs within =
    let old : Writing = record { number = c.self.inside.file; pen = g.V.Device.pen_number c.self.inside.pen; period = c.self.inside.period; index = c.self.inside.index.items; offset = c.self.inside.offset; filling = c.self.inside.block; found = c.self.inside.survey; first = c.self.inside.first.items; last = c.self.inside.last.items; bytes = g.V.Device.pen_bytes c.self.inside.pen } in
    let idx : c.in_ok-spelled.spelled.items ≡ flat_map entry_spelled c.self.inside.index.items = c.in_ok-spelled.ensures ∙ ap (flat_map entry_spelled) c.as_slice.ensures.value in
    let parts = c.in_ok-parts.ensures.exact ∙ parts_same c.self.inside.offset (length c.as_slice-2.result.now) (c.self.inside.offset + length c.as_slice-3.result.now) (length c.as_slice-4.result.now) c.self.inside.offset (length c.self.inside.index.items) (c.self.inside.offset + length (flat_map entry_spelled c.self.inside.index.items)) (length c.in_ok-filter.filter) refl (ap length c.as_slice-2.ensures.value) (ap (λ (x : List ℕ). c.self.inside.offset + length x) (c.as_slice-3.ensures.value ∙ idx)) (ap length c.as_slice-4.ensures) in
    let totals : listed_totals c.listing-listed.result ≡ c.self.inside.survey.totals = c.listing-listed.ensures.totals ∙ c.totals-2.ensures in
    let some : 0 < c.self.inside.survey.totals.rows = omega (arith, c.requires.some, ap (λ (w : Writing). w.found.totals.rows) c.self.view_is) in
    let cut : IsCut g.V.Device.honest old c.requires.cut.0 c.requires.cut.1 = subst (λ (w : Writing). IsCut g.V.Device.honest w c.requires.cut.0 c.requires.cut.1) (sym c.self.view_is) c.requires.cut.2 in
    let listing = closed_listing g.V.Device.honest old c.listing-listed.result c.requires.cut.0 c.requires.cut.1 cut some totals c.listing-listed.ensures.file c.listing-listed.ensures.period in
    record {
      number_is = refl;
      period_is = refl;
      low_is = subst (λ (p : Stretch). InPeriod p c.listing-listed.result.low) (sym c.listing-listed.ensures.period) listing.low_is;
      high_is = subst (λ (p : Stretch). InPeriod p c.listing-listed.result.high) (sym c.listing-listed.ensures.period) listing.high_is;
    }

pub returns-clause-written : goal.returns-clause-written
returns-clause-written g c =
    let old : Writing = record { number = c.self.inside.file; pen = g.V.Device.pen_number c.self.inside.pen; period = c.self.inside.period; index = c.self.inside.index.items; offset = c.self.inside.offset; filling = c.self.inside.block; found = c.self.inside.survey; first = c.self.inside.first.items; last = c.self.inside.last.items; bytes = g.V.Device.pen_bytes c.self.inside.pen } in
    let idx : c.in_ok-spelled.spelled.items ≡ flat_map entry_spelled c.self.inside.index.items = c.in_ok-spelled.ensures ∙ ap (flat_map entry_spelled) c.as_slice.ensures.value in
    let parts = c.in_ok-parts.ensures.exact ∙ parts_same c.self.inside.offset (length c.as_slice-2.result.now) (c.self.inside.offset + length c.as_slice-3.result.now) (length c.as_slice-4.result.now) c.self.inside.offset (length c.self.inside.index.items) (c.self.inside.offset + length (flat_map entry_spelled c.self.inside.index.items)) (length c.in_ok-filter.filter) refl (ap length c.as_slice-2.ensures.value) (ap (λ (x : List ℕ). c.self.inside.offset + length x) (c.as_slice-3.ensures.value ∙ idx)) (ap length c.as_slice-4.ensures) in
    let totals : listed_totals c.listing-listed.result ≡ c.self.inside.survey.totals = c.listing-listed.ensures.totals ∙ c.totals-2.ensures in
    let some : 0 < c.self.inside.survey.totals.rows = omega (arith, c.requires.some, ap (λ (w : Writing). w.found.totals.rows) c.self.view_is) in
    IfOk-weaker c.whole.result _ _ (λ fresh e blocks recs h.
    let cut : IsCut g.V.Device.honest old blocks recs = subst (λ (w : Writing). IsCut g.V.Device.honest w blocks recs) (sym c.self.view_is) h in
    subst (λ (t : Loaded). HasRecords g.V.Device.honest t recs) (sym e)
    (closed_records g.V.Device.honest old c.listing-listed.result c.in_ok-filter.filter (g.V.Device.reader_bytes c.in_ok-reader.reader) c.listing-listed.result.file c.listing-listed.result.bytes blocks recs cut
    (record {
      filling = ap (λ (w : Writing). w.filling) c.self.view_is ∙ c.requires.empty;
      some = some;
      totals = totals;
      number_is = refl;
      size_is = refl;
      in_range = omega (arith, c.listing-listed.ensures.bytes, c.listing-listed.ensures.bytes, c.in_ok-parts.ensures.in_range);
      length_is = omega (arith, c.listing-listed.ensures.bytes, ap (λ (p : Parts). p.filter) parts, ap (λ (p : Parts). p.filter_len) parts);
      filter_is = c.in_ok-filter.ensures.exact ∙ ap filter_bytes c.hashes.ensures;
      bytes_are = λ honest.
          c.in_ok-reader.ensures.bytes honest
          ∙ (ap (λ (x : List ℕ). ((g.V.Device.pen_bytes c.self.inside.pen ++ x) ++ c.as_slice-6.result.now) ++ c.as_slice-7.result.now) (c.as_slice-5.ensures.value ∙ idx)
          ∙ (ap (λ (x : List ℕ). ((g.V.Device.pen_bytes c.self.inside.pen ++ flat_map entry_spelled c.self.inside.index.items) ++ x) ++ c.as_slice-7.result.now) c.as_slice-6.ensures
          ∙ ap (λ (x : List ℕ). ((g.V.Device.pen_bytes c.self.inside.pen ++ flat_map entry_spelled c.self.inside.index.items) ++ c.in_ok-filter.filter) ++ x) (c.as_slice-7.ensures.value ∙ (c.in_ok-foot.ensures ∙ (ap (λ (p : Parts). footer_spelled p c.totals.result.now) parts ∙ ap (λ (t : Totals). footer_spelled (wanted old c.in_ok-filter.filter) t) c.totals.ensures)))));
    }))) c.whole.ensures.value

pub returns-clause-listed : goal.returns-clause-listed
returns-clause-listed g c =
    let old : Writing = record { number = c.self.inside.file; pen = g.V.Device.pen_number c.self.inside.pen; period = c.self.inside.period; index = c.self.inside.index.items; offset = c.self.inside.offset; filling = c.self.inside.block; found = c.self.inside.survey; first = c.self.inside.first.items; last = c.self.inside.last.items; bytes = g.V.Device.pen_bytes c.self.inside.pen } in
    let idx : c.in_ok-spelled.spelled.items ≡ flat_map entry_spelled c.self.inside.index.items = c.in_ok-spelled.ensures ∙ ap (flat_map entry_spelled) c.as_slice.ensures.value in
    let parts = c.in_ok-parts.ensures.exact ∙ parts_same c.self.inside.offset (length c.as_slice-2.result.now) (c.self.inside.offset + length c.as_slice-3.result.now) (length c.as_slice-4.result.now) c.self.inside.offset (length c.self.inside.index.items) (c.self.inside.offset + length (flat_map entry_spelled c.self.inside.index.items)) (length c.in_ok-filter.filter) refl (ap length c.as_slice-2.ensures.value) (ap (λ (x : List ℕ). c.self.inside.offset + length x) (c.as_slice-3.ensures.value ∙ idx)) (ap length c.as_slice-4.ensures) in
    let totals : listed_totals c.listing-listed.result ≡ c.self.inside.survey.totals = c.listing-listed.ensures.totals ∙ c.totals-2.ensures in
    let some : 0 < c.self.inside.survey.totals.rows = omega (arith, c.requires.some, ap (λ (w : Writing). w.found.totals.rows) c.self.view_is) in
    let listing = closed_listing g.V.Device.honest c.args.self c.listing-listed.result c.requires.cut.0 c.requires.cut.1 c.requires.cut.2 c.requires.some (totals ∙ ap (λ (w : Writing). w.found.totals) c.self.view_is) (c.listing-listed.ensures.file ∙ ap (λ (w : Writing). w.number) c.self.view_is) (c.listing-listed.ensures.period ∙ ap (λ (w : Writing). w.period) c.self.view_is) in
    IfOk-weaker c.whole.result _ _ (λ fresh e. subst (λ (t : Loaded). IsListing t.listed c.args.self.number c.args.self.period) (sym e) listing) c.whole.ensures.value

pub returns-clause-cause : goal.returns-clause-cause
returns-clause-cause g c = record { later = c.in_ok-reader.ensures.cause.later; failed = λ e. absurd (c.whole.ensures.no_fault e) }
