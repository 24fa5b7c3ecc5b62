use Rattle.std.proofs.Common.{ap, sym, ◌∙◌}
use Rattle.std.specs.Prelude.{option_copied}
use Rattle.lt_tablet.specs.Writing.{Writing}
use Rattle.lt_layout.proofs.Loops.{on_ok}
use Rattle.lt_tablet.proofs.Cut.{before_is}
use Rattle.lt_tablet.proofs.writer.TabletWriter.note.Goals as goal

pub returns-clause-found : goal.returns-clause-found
returns-clause-found g c = on_ok c.copy_to.result (λ recs lawful last found. c.in_ok-add.ensures recs c.args.rec.now (sym c.key-2.ensures.value) (sym c.requires) (sym c.seq.ensures.value)
    (before_is recs c.as_slice.result.now (option_copied c.key_before.result) lawful (c.as_slice.ensures.value ∙ (ap (λ (w : Writing). w.last) c.self.view_is ∙ last)) c.key_before.ensures) (ap (λ (w : Writing). w.found) c.self.view_is ∙ found))
