use Rattle.std.proofs.Common.{◌≡◌, ◌<◌, ◌++◌, Some, sym, ap, ◌∙◌, arith}
use Rattle.std.specs.Prelude.{slice_get}
use Rattle.std.specs.Arc.{arc_value}
use Rattle.lt_rec.specs.Records.{joined}
use Rattle.lt_tablet.specs.Loaded.{Loaded, blocks_in}
use Rattle.lt_cursor.specs.Order.{in_order}
use Rattle.lt_cursor.specs.Places.{first_place, between}
use Rattle.lt_cursor.specs.Strands.{Strand}
use Rattle.lt_cursor.specs.declared.places.Places.{Places}
use Rattle.lt_cursor.proofs.Behind.{block_of, kept_down}
use Rattle.lt_cursor.proofs.tablet_scan.TabletScan.read.Goals as goal

pub returns-clause-value : goal.returns-clause-value
returns-clause-value g c = λ honest.
    let i = c.self.inside in
    let blocks = blocks_in (arc_value i.tablet) in
    let some : i.places.from < i.places.to = omega (arith, c.requires.some, ap (λ (s : Strand). s.blocks) c.self.view_is) in
    let read : slice_get (blocks_in (arc_value i.tablet)) (first_place i.places) ≡ Some c.in_ok-block.block =
    ap (slice_get (blocks_in (arc_value i.tablet))) (sym c.take_first-at.ensures.first)
    ∙ ap (λ (t : Loaded). slice_get (blocks_in t) c.take_first-at.result) (sym c.deref.ensures) ∙ c.in_ok-block.ensures.value honest in
    let same : c.take_first-at.new.self.down ≡ i.places.down = ap (λ (p : Places). p.down) c.take_first-at.ensures.rest ∙ kept_down i.places in
    (λ j. (c.new.ensures ∙ ap (λ b. in_order b c.in_ok-block.block) same) j ++ in_order (c.take_first-at.ensures.rest j).down (joined (between (c.take_first-at.ensures.rest j) blocks)))
    ∙ sym (block_of i.places blocks c.in_ok-block.block some read)
    ∙ ap (λ (s : Strand). s.unread) c.self.view_is
