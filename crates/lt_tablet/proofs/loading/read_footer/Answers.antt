use Rattle.std.proofs.Common.{◌≡◌, length, drop, ◌∙◌, ◌+◌, arith}
use Rattle.lt_layout.specs.Reading.{footer_at}
use Rattle.lt_layout.specs.Spelling.{listed_totals}
use Rattle.lt_tablet.proofs.Answering.{named_answer, all_behind}
use Rattle.lt_tablet.proofs.loading.read_footer.Goals as goal

pub returns-clause-exact : goal.returns-clause-exact
returns-clause-exact g c = λ honest.
    let bytes = g.V.Device.reader_bytes c.args.reader.now in
    let size : length (g.V.Device.reader_bytes c.args.reader.now) ≡ c.args.foot + 88 = omega (arith, (g.met.V.Device g.world.𝓛 g.world.𝓜 g.world.𝓡 ((λ s x. x), (λ x. x), (λ x. x), λ x. x)).sized c.args.reader.now honest, c.requires.place) in
    let given : c.as_slice.result.now ≡ drop c.args.foot (g.V.Device.reader_bytes c.args.reader.now) = c.as_slice.ensures ∙ (c.in_ok-bytes.ensures.bytes honest ∙ all_behind (g.V.Device.reader_bytes c.args.reader.now) c.args.foot 88 size) in
    named_answer (λ parts. parts) c.args.listed.now.file c.named.result c.footer_of.result (footer_at (listed_totals c.args.listed.now) c.args.foot (drop c.args.foot bytes)) c.named.ensures
    (rw (← given) (rw (← c.listed.ensures) c.footer_of.ensures.exact))
