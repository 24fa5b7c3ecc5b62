use Rattle.std.proofs.Common.{◌≡◌, ◌+◌, ℕ, List, drop, sym, ap, subst, ◌∙◌, arith}
use Rattle.std.specs.Prelude.{option_copied, Some, None}
use Rattle.std.proofs.lemmas.Result.{err_from_is_err_and}
use Rattle.lt_rec.specs.Records.{joined}
use Rattle.lt_layout.specs.Spelling.{Entry, listed_totals}
use Rattle.lt_layout.specs.Surveying.{Found}
use Rattle.lt_tablet.proofs.SoFar.{SoFar, so_far_start, so_far_at, so_far_lies, so_far_next, so_far_stop, so_far_done}
use Rattle.lt_tablet.proofs.loading.survey_all.Goals as goal

pub loop-entry-init : goal.loop-entry-init
loop-entry-init g c = record {
  so_far = subst (λ (f : Found). SoFar g.V.Device.honest (listed_totals c.args.listed.now) (g.V.Device.reader_bytes c.args.reader.now) c.args.index.now c.args.index.now None f) (sym c.new-survey.ensures)
      (so_far_start g.V.Device.honest (listed_totals c.args.listed.now) (g.V.Device.reader_bytes c.args.reader.now) c.args.index.now c.requires.entries);
  later = omega arith;
}

pub survey_entry-requires-clause-within : goal.survey_entry-requires-clause-within
survey_entry-requires-clause-within g c κs within =
    let here = so_far_at g.V.Device.honest (listed_totals c.args.listed.now) (g.V.Device.reader_bytes c.args.reader.now) c.args.index.now c.loop-entry.entry-index c.entry-item.result (option_copied c.loop-entry.before) c.loop-entry.survey c.loop-entry.invariant.so_far c.loop-entry-test.true c.entry-item.is in
    let lies = so_far_lies g.V.Device.honest (listed_totals c.args.listed.now) (g.V.Device.reader_bytes c.args.reader.now) c.args.index.now c.entry-item.result (drop (c.loop-entry.entry-index + 1) c.args.index.now) (option_copied c.loop-entry.before) c.loop-entry.survey here in
    omega (arith, lies.within, c.requires.within)

pub returns-in_err-survey_entry-clause-exact : goal.returns-in_err-survey_entry-clause-exact
returns-in_err-survey_entry-clause-exact g c = λ honest.
    let p = err_from_is_err_and c.from_residual.result c.from_residual.ensures.1 in
    let here = so_far_at g.V.Device.honest (listed_totals c.args.listed.now) (g.V.Device.reader_bytes c.args.reader.now) c.args.index.now c.loop-entry.entry-index c.entry-item.result (option_copied c.loop-entry.before) c.loop-entry.survey c.loop-entry.invariant.so_far c.loop-entry-test.true c.entry-item.is in
    rw (p.1, p.2) (so_far_stop g.V.Device.honest (listed_totals c.args.listed.now) (g.V.Device.reader_bytes c.args.reader.now) c.args.index.now c.entry-item.result (drop (c.loop-entry.entry-index + 1) c.args.index.now) (option_copied c.loop-entry.before) c.loop-entry.survey c.in_err-survey_entry.field-0.0 here honest (c.in_err-survey_entry.ensures.fault honest))

pub loop-entry-preserved : goal.loop-entry-preserved
loop-entry-preserved g c =
    let here = so_far_at g.V.Device.honest (listed_totals c.args.listed.now) (g.V.Device.reader_bytes c.args.reader.now) c.args.index.now c.loop-entry.entry-index c.entry-item.result (option_copied c.loop-entry.before) c.loop-entry.survey c.loop-entry.invariant.so_far c.loop-entry-test.true c.entry-item.is in
    let own = c.in_ok-survey_entry.ensures.found (joined here.blocks) here.before_is here.found_is in
    let last : c.entry-item.result.last ≡ c.as_slice.result.now = sym (c.as_slice.ensures ∙ ap (λ (e : Entry). e.last) c.entry.view_is) in
    let next = so_far_next g.V.Device.honest (listed_totals c.args.listed.now) (g.V.Device.reader_bytes c.args.reader.now) c.args.index.now c.entry-item.result (drop (c.loop-entry.entry-index + 1) c.args.index.now) (option_copied c.loop-entry.before) c.loop-entry.survey c.survey_entry.new.survey here own.0 own.1 own.2 own.3 c.in_ok-survey_entry.ensures.known in
    record {
      so_far = subst (λ (k : List ℕ). SoFar g.V.Device.honest (listed_totals c.args.listed.now) (g.V.Device.reader_bytes c.args.reader.now) c.args.index.now (drop (c.loop-entry.entry-index + 1) c.args.index.now) (Some k) c.survey_entry.new.survey) last next;
      later = omega (arith, c.loop-entry.invariant.later, c.in_ok-survey_entry.ensures.cause.later);
    }

pub returns-clause-exact : goal.returns-clause-exact
returns-clause-exact g c = (so_far_done g.V.Device.honest (listed_totals c.args.listed.now) (g.V.Device.reader_bytes c.args.reader.now) c.args.index.now c.loop-entry.entry-index (option_copied c.loop-entry.before) c.loop-entry.survey c.loop-entry.invariant.so_far c.loop-entry-test.false c.requires.some).read

pub returns-clause-some : goal.returns-clause-some
returns-clause-some g c = (so_far_done g.V.Device.honest (listed_totals c.args.listed.now) (g.V.Device.reader_bytes c.args.reader.now) c.args.index.now c.loop-entry.entry-index (option_copied c.loop-entry.before) c.loop-entry.survey c.loop-entry.invariant.so_far c.loop-entry-test.false c.requires.some).some

pub returns-clause-known : goal.returns-clause-known
returns-clause-known g c = (so_far_done g.V.Device.honest (listed_totals c.args.listed.now) (g.V.Device.reader_bytes c.args.reader.now) c.args.index.now c.loop-entry.entry-index (option_copied c.loop-entry.before) c.loop-entry.survey c.loop-entry.invariant.so_far c.loop-entry-test.false c.requires.some).known
