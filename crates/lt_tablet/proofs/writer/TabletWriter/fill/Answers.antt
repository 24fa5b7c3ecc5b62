use Rattle.std.proofs.Common.{◌≡◌, true, List, [], ◌∷◌, ◌++◌, sym, subst}
use Rattle.lt_rec.specs.Bytes.{is_less}
use Rattle.lt_rec.specs.Record.{Record}
use Rattle.lt_block.specs.Spelling.{last_key}
use Rattle.lt_block.specs.declared.writer.Added.TheVariants.{Full}
use Rattle.lt_tablet.specs.Writing.{Writing, IsCut}
use Rattle.lt_tablet.proofs.Cut.{room_above, filled_full}
use Rattle.lt_tablet.proofs.writer.TabletWriter.fill.Goals as goal

pub add-requires : goal.add-requires
add-requires g c = record { above = subst (λ (w : Writing). is_less (last_key [] w.filling) c.args.rec.now.key ≡ true) (sym c.self.view_is) (room_above g.V.Device.honest c.args.self.now c.requires.ready.0 c.args.rec.now c.requires.ready.1 c.requires.lawful c.requires.above) }

pub returns-in_ok-start-in-Full-clause-filled : goal.returns-in_ok-start-in-Full-clause-filled
returns-in_ok-start-in-Full-clause-filled g c = λ recs wrote.
    let same : c.add.new.self ≡ c.self.inside.block = c.in_ok-add.ensures.unchanged (λ e. let q : c.in_ok-add.field-0 ≡ Full = c.in-Full.is in cc) in
    let old : IsCut g.V.Device.honest (record { number = c.self.inside.file; pen = g.V.Device.pen_number c.self.inside.pen; period = c.self.inside.period; index = c.self.inside.index.items; offset = c.self.inside.offset; filling = c.add.new.self; found = c.self.inside.survey; first = c.self.inside.first.items; last = c.self.inside.last.items; bytes = g.V.Device.pen_bytes c.self.inside.pen }) wrote.blocks recs =
    subst (λ (b : List Record). IsCut g.V.Device.honest (record { number = c.self.inside.file; pen = g.V.Device.pen_number c.self.inside.pen; period = c.self.inside.period; index = c.self.inside.index.items; offset = c.self.inside.offset; filling = b; found = c.self.inside.survey; first = c.self.inside.first.items; last = c.self.inside.last.items; bytes = g.V.Device.pen_bytes c.self.inside.pen }) wrote.blocks recs) (sym same) (subst (λ (w : Writing). IsCut g.V.Device.honest w wrote.blocks recs) (sym c.self.view_is) wrote.cut) in
    filled_full g.V.Device.honest c.args.self.now c.put_block.new.self c.start.new.self (wrote.blocks ++ c.add.new.self ∷ []) recs c.args.rec.now (c.in_ok-put_block-in-Full.ensures.put wrote.blocks recs old) c.in_ok-put_block-in-Full.ensures.empty c.in_ok-start-in-Full.ensures.keeps c.in_ok-start-in-Full.ensures.ok c.in_ok-start-in-Full.ensures.found c.in_ok-start-in-Full.ensures.first c.in_ok-start-in-Full.ensures.last
