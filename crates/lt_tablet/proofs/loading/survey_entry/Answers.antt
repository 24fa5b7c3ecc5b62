use Rattle.std.proofs.Common.{◌≡◌, ℕ, drop, take, sym, ap, ◌∙◌}
use Rattle.lt_layout.specs.Spelling.{Entry, Totals, listed_totals}
use Rattle.lt_layout.specs.Reading.{own_block_at}
use Rattle.lt_tablet.proofs.loading.survey_entry.Goals as goal

pub returns-in-Ok-clause-found : goal.returns-in-Ok-clause-found
returns-in-Ok-clause-found g c = λ recs before old.
    let own = c.in-Ok.ensures.found recs before old in (
      own.0,
      own.3 c.requires.some,
      own.2,
      λ honest.
          let bytes = g.V.Device.reader_bytes c.args.reader.now in
          let len : c.from.result ≡ c.args.entry.now.len = c.from.ensures ∙ ap (λ (v : Entry). v.len) c.entry.view_is in
          let given : c.as_slice.result.now ≡ take c.args.entry.now.len (drop c.args.entry.now.offset (g.V.Device.reader_bytes c.args.reader.now)) =
          c.as_slice.ensures ∙ (c.in_ok-bytes.ensures.bytes honest ∙ (ap (λ (n : ℕ). take n (drop c.entry.inside.offset bytes)) len ∙ ap (λ (v : Entry). take c.args.entry.now.len (drop v.offset bytes)) c.entry.view_is)) in
          ap (own_block_at (listed_totals c.args.listed.now) c.args.entry.now) (sym given) ∙ (ap (λ (t : Totals). own_block_at t c.args.entry.now c.as_slice.result.now) (sym c.listed.ensures) ∙ own.1),
    )
