use Rattle.std.proofs.Common.{◌≡◌, ℕ, List, [], Ok, length, sym, ap, subst, ◌∙◌, arith}
use Rattle.std.proofs.lemmas.Result.{err_from_is_err_and}
use Rattle.lt_layout.specs.Spelling.{Entry, end_of, listed_totals}
use Rattle.lt_layout.specs.Entries.{IsEntries}
use Rattle.lt_layout.specs.Phases.{AreBytes, surveyed}
use Rattle.lt_tablet.specs.Loaded.{Loaded}
use Rattle.lt_layout.proofs.IndexText.{ends}
use Rattle.lt_tablet.proofs.Load.{refuse_ends, refuse_index, refuse_blocks, refuse_filter, load_found, all_bytes}
use Rattle.lt_tablet.proofs.Places.{told_from}
use Rattle.lt_tablet.proofs.tablet.Tablet.load.Goals as goal

pub returns-in_err-foot-clause-exact : goal.returns-in_err-foot-clause-exact
returns-in_err-foot-clause-exact g c = λ honest.
    let p = err_from_is_err_and c.from_residual.result c.from_residual.ensures.1 in
    rw (p.1, p.2) (refuse_ends c.in_err-foot.field-0.0 (listed_totals c.args.listed) c.args.listed.bytes (g.V.Device.reader_bytes c.args.reader) (c.in_err-foot.ensures.exact honest))

pub returns-in_err-index-clause-exact : goal.returns-in_err-index-clause-exact
returns-in_err-index-clause-exact g c = λ honest.
    let p = err_from_is_err_and c.from_residual-in_err-index.result c.from_residual-in_err-index.ensures.1 in
    rw (p.1, p.2) (refuse_index c.in_err-index.field-0.0 (listed_totals c.args.listed) c.args.listed.bytes (g.V.Device.reader_bytes c.args.reader) (c.in_ok-foot.foot, c.in_ok-foot.parts) (c.in_ok-foot.ensures.exact honest) (c.in_err-index.ensures.exact honest))

pub survey_all-requires-clause-entries : goal.survey_all-requires-clause-entries
survey_all-requires-clause-entries g c κs within =
    let last : end_of 8 c.in_ok-index.index.items ≡ c.in_ok-foot.parts.index = ends c.in_ok-foot.parts.index 8 [] c.in_ok-index.index.items (omega (arith, c.in_ok-index.ensures.count, c.in_ok-foot.ensures.lie.some)) c.in_ok-index.ensures.entries in
    subst (λ (es : List Entry). IsEntries (end_of 8 es) 8 [] es) (sym c.as_slice.ensures.value) (subst (λ (n : ℕ). IsEntries n 8 [] c.in_ok-index.index.items) (sym last) c.in_ok-index.ensures.entries)

pub survey_all-requires-clause-within : goal.survey_all-requires-clause-within
survey_all-requires-clause-within g c κs within =
    let last : end_of 8 c.in_ok-index.index.items ≡ c.in_ok-foot.parts.index = ends c.in_ok-foot.parts.index 8 [] c.in_ok-index.index.items (omega (arith, c.in_ok-index.ensures.count, c.in_ok-foot.ensures.lie.some)) c.in_ok-index.ensures.entries in
    omega (arith, last, ap (end_of 8) c.as_slice.ensures.value, c.in_ok-foot.ensures.lie.index_within, c.in_ok-foot.ensures.place.0)

pub returns-in_err-survey-clause-exact : goal.returns-in_err-survey-clause-exact
returns-in_err-survey-clause-exact g c = λ honest.
    let p = err_from_is_err_and c.from_residual-in_err-survey.result c.from_residual-in_err-survey.ensures.1 in
    rw (p.1, p.2) (refuse_blocks c.in_err-survey.field-0.0 (listed_totals c.args.listed) c.args.listed.bytes (g.V.Device.reader_bytes c.args.reader) (c.in_ok-foot.foot, c.in_ok-foot.parts) c.as_slice.result.now (c.in_ok-foot.ensures.exact honest) (c.in_ok-index.ensures.exact honest ∙ ap (λ (es : List Entry). Ok es) (sym c.as_slice.ensures.value)) (c.in_err-survey.ensures.exact honest))

pub returns-in_err-filter-clause-exact : goal.returns-in_err-filter-clause-exact
returns-in_err-filter-clause-exact g c = λ honest.
    let p = err_from_is_err_and c.from_residual-in_err-filter.result c.from_residual-in_err-filter.ensures.1 in
    rw (p.1, p.2) (refuse_filter c.in_err-filter.field-0.0 (listed_totals c.args.listed) c.args.listed.bytes (g.V.Device.reader_bytes c.args.reader) (c.in_ok-foot.foot, c.in_ok-foot.parts) c.as_slice.result.now c.in_ok-survey.survey (c.in_ok-foot.ensures.exact honest) (c.in_ok-index.ensures.exact honest ∙ ap (λ (es : List Entry). Ok es) (sym c.as_slice.ensures.value)) (c.in_ok-survey.ensures.exact honest) (c.in_err-filter.ensures.exact honest))

pub from_parts-requires-after_bounds : goal.from_parts-requires-after_bounds
from_parts-requires-after_bounds g c κs within =
    let last : end_of 8 c.in_ok-index.index.items ≡ c.in_ok-foot.parts.index = ends c.in_ok-foot.parts.index 8 [] c.in_ok-index.index.items (omega (arith, c.in_ok-index.ensures.count, c.in_ok-foot.ensures.lie.some)) c.in_ok-index.ensures.entries in
    let t : Loaded = record { listed = c.args.listed; index = c.in_ok-index.index.items; filter = c.in_ok-filter.filter; bytes = g.V.Device.reader_bytes c.args.reader } in
    record {
      number_is = c.requires;
      size_is = c.in_ok-foot.ensures.length;
      in_range = c.in_ok-foot.ensures.place.1;
      some = omega (arith, c.in_ok-index.ensures.count, c.in_ok-foot.ensures.lie.some);
      entries = subst (λ (n : ℕ). IsEntries n 8 [] c.in_ok-index.index.items) (sym last) c.in_ok-index.ensures.entries;
      within = omega (arith, last, c.in_ok-foot.ensures.lie.index_within, c.in_ok-foot.ensures.place.0);
      file = λ honest.
          let bytes = g.V.Device.reader_bytes c.args.reader in
          let size : length (g.V.Device.reader_bytes c.args.reader) ≡ g.V.Device.reader_size c.args.reader = (g.met.V.Device g.world.𝓛 g.world.𝓜 g.world.𝓡 ((λ s x. x), (λ x. x), (λ x. x), λ x. x)).sized c.args.reader honest in
          let blocks : AreBytes 8 c.in_ok-foot.parts.index (g.V.Device.reader_bytes c.args.reader) = subst (λ (n : ℕ). AreBytes 8 n (g.V.Device.reader_bytes c.args.reader)) (ap (end_of 8) c.as_slice.ensures.value ∙ last) (c.in_ok-survey.ensures.known honest) in
          let foot : AreBytes c.in_ok-foot.foot (length (g.V.Device.reader_bytes c.args.reader)) (g.V.Device.reader_bytes c.args.reader) = subst (λ (n : ℕ). AreBytes c.in_ok-foot.foot n (g.V.Device.reader_bytes c.args.reader)) (sym size) (c.in_ok-foot.ensures.known honest).1 in
          let fits = all_bytes bytes 8 c.in_ok-foot.parts.index c.in_ok-foot.parts.filter c.in_ok-foot.foot (c.in_ok-foot.ensures.known honest).0 blocks (c.in_ok-index.ensures.known honest) (c.in_ok-filter.ensures.known honest) foot in
          let found : surveyed (listed_totals c.args.listed) c.in_ok-index.index.items (g.V.Device.reader_bytes c.args.reader) ≡ Ok c.in_ok-survey.survey = ap (λ (es : List Entry). surveyed (listed_totals c.args.listed) es bytes) (sym c.as_slice.ensures.value) ∙ c.in_ok-survey.ensures.exact honest in
          let load = load_found (listed_totals c.args.listed) c.args.listed.bytes bytes (c.in_ok-foot.foot, c.in_ok-foot.parts) c.in_ok-index.index.items c.in_ok-survey.survey c.in_ok-filter.filter fits (c.in_ok-foot.ensures.exact honest) (c.in_ok-index.ensures.exact honest) found (c.in_ok-filter.ensures.exact honest) in
          told_from t load.blocks load.read load.tablet load.spelled load.totals load.entries load.filter_is;
    }
