use Rattle.std.proofs.Common.{◌≡◌, Ok, length, sym, ap, ◌∙◌}
use Rattle.std.proofs.lemmas.Result.{err_from_is_err_and}
use Rattle.lt_layout.specs.Reading.{footer_place}
use Rattle.lt_layout.specs.Spelling.{listed_totals}
use Rattle.lt_tablet.proofs.Answering.{named_value, named_fault}
use Rattle.lt_tablet.proofs.Load.{ends_no_place, ends_no_footer, ends_no_header, ends_read}
use Rattle.lt_tablet.proofs.loading.read_ends.Goals as goal

pub returns-in_err-foot-clause-exact : goal.returns-in_err-foot-clause-exact
returns-in_err-foot-clause-exact g c = λ honest.
    let p = err_from_is_err_and c.from_residual.result c.from_residual.ensures.1 in
    let size : c.length.result ≡ length (g.V.Device.reader_bytes c.args.reader.now) = c.length.ensures ∙ sym ((g.met.V.Device g.world.𝓛 g.world.𝓜 g.world.𝓡 ((λ s x. x), (λ x. x), (λ x. x), λ x. x)).sized c.args.reader.now honest) in
    rw (p.1, p.2) (ends_no_place c.in_err-foot.field-0.0 (listed_totals c.args.listed.now) c.args.listed.now.bytes (g.V.Device.reader_bytes c.args.reader.now)
    (rw (← size) (named_fault (λ foot. foot) c.args.listed.now.file c.in_err-foot.field-0.0 c.footer_place.result (footer_place c.args.listed.now.bytes c.length.result) c.in_err-foot.ensures c.footer_place.ensures.exact)))

pub returns-in_err-parts-clause-exact : goal.returns-in_err-parts-clause-exact
returns-in_err-parts-clause-exact g c = λ honest.
    let p = err_from_is_err_and c.from_residual-in_err-parts.result c.from_residual-in_err-parts.ensures.1 in
    let size : c.length.result ≡ length (g.V.Device.reader_bytes c.args.reader.now) = c.length.ensures ∙ sym ((g.met.V.Device g.world.𝓛 g.world.𝓜 g.world.𝓡 ((λ s x. x), (λ x. x), (λ x. x), λ x. x)).sized c.args.reader.now honest) in
    let place : footer_place c.args.listed.now.bytes (length (g.V.Device.reader_bytes c.args.reader.now)) ≡ Ok c.in_ok-foot.foot =
    ap (footer_place c.args.listed.now.bytes) (sym size) ∙ named_value (λ foot. foot) c.args.listed.now.file c.in_ok-foot.foot c.footer_place.result (footer_place c.args.listed.now.bytes c.length.result) c.in_ok-foot.ensures c.footer_place.ensures.exact in
    rw (p.1, p.2) (ends_no_footer c.in_err-parts.field-0.0 (listed_totals c.args.listed.now) c.args.listed.now.bytes c.in_ok-foot.foot (g.V.Device.reader_bytes c.args.reader.now) place (c.in_err-parts.ensures.exact honest))

pub returns-in_err-read_header-clause-exact : goal.returns-in_err-read_header-clause-exact
returns-in_err-read_header-clause-exact g c = λ honest.
    let p = err_from_is_err_and c.from_residual-in_err-read_header.result c.from_residual-in_err-read_header.ensures.1 in
    let size : c.length.result ≡ length (g.V.Device.reader_bytes c.args.reader.now) = c.length.ensures ∙ sym ((g.met.V.Device g.world.𝓛 g.world.𝓜 g.world.𝓡 ((λ s x. x), (λ x. x), (λ x. x), λ x. x)).sized c.args.reader.now honest) in
    let place : footer_place c.args.listed.now.bytes (length (g.V.Device.reader_bytes c.args.reader.now)) ≡ Ok c.in_ok-foot.foot =
    ap (footer_place c.args.listed.now.bytes) (sym size) ∙ named_value (λ foot. foot) c.args.listed.now.file c.in_ok-foot.foot c.footer_place.result (footer_place c.args.listed.now.bytes c.length.result) c.in_ok-foot.ensures c.footer_place.ensures.exact in
    rw (p.1, p.2) (ends_no_header c.in_err-read_header.field-0.0 (listed_totals c.args.listed.now) c.args.listed.now.bytes c.in_ok-foot.foot c.in_ok-parts.parts (g.V.Device.reader_bytes c.args.reader.now) place (c.in_ok-parts.ensures.exact honest) (c.in_err-read_header.ensures.exact honest))

pub returns-clause-exact : goal.returns-clause-exact
returns-clause-exact g c = λ honest.
    let size : c.length.result ≡ length (g.V.Device.reader_bytes c.args.reader.now) = c.length.ensures ∙ sym ((g.met.V.Device g.world.𝓛 g.world.𝓜 g.world.𝓡 ((λ s x. x), (λ x. x), (λ x. x), λ x. x)).sized c.args.reader.now honest) in
    let place : footer_place c.args.listed.now.bytes (length (g.V.Device.reader_bytes c.args.reader.now)) ≡ Ok c.in_ok-foot.foot =
    ap (footer_place c.args.listed.now.bytes) (sym size) ∙ named_value (λ foot. foot) c.args.listed.now.file c.in_ok-foot.foot c.footer_place.result (footer_place c.args.listed.now.bytes c.length.result) c.in_ok-foot.ensures c.footer_place.ensures.exact in
    ends_read (listed_totals c.args.listed.now) c.args.listed.now.bytes c.in_ok-foot.foot c.in_ok-parts.parts (g.V.Device.reader_bytes c.args.reader.now) c.in_ok-read_header.field-0 place (c.in_ok-parts.ensures.exact honest) (c.in_ok-read_header.ensures.exact honest)
