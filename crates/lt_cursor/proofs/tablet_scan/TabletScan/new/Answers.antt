use Rattle.std.proofs.Common.{sym, ap, subst, ◌∙◌}
use Rattle.std.specs.Prelude.{◌&&◌, slice_get}
use Rattle.std.specs.Arc.{arc_value}
use Rattle.lt_rec.specs.Boxes.{in_box}
use Rattle.lt_tablet.specs.Loaded.{Loaded, IsIndexRange, blocks_in, records_in, times_meet, may_have}
use Rattle.lt_cursor.specs.Order.{in_order, IsInOrder}
use Rattle.lt_cursor.proofs.Starting.{rising_in_order}
use Rattle.lt_cursor.proofs.Ranges.{count_between, kept_between}
use Rattle.lt_cursor.proofs.tablet_scan.TabletScan.new.Goals as goal

pub returns-clause-blocks : goal.returns-clause-blocks
returns-clause-blocks g c =
    let t = arc_value c.args.tablet in
    let raw_box = c.args.raw_box.now in
    let from = c.index_range-from.result.0 in
    let to = c.index_range-from.result.1 in
    let range : IsIndexRange t raw_box from to = subst (λ (t : Loaded). IsIndexRange t raw_box from to) c.deref.ensures c.index_range-from.ensures.exact in
    sym (count_between (λ e. times_meet raw_box t.listed && may_have raw_box e) t.index from to range.ordered range.within range.exactly)

pub returns-clause-records : goal.returns-clause-records
returns-clause-records g c = λ honest.
    let t = arc_value c.args.tablet in
    let raw_box = c.args.raw_box.now in
    let from = c.index_range-from.result.0 in
    let to = c.index_range-from.result.1 in
    kept_between (in_box raw_box) c.args.down (blocks_in t) from to c.index_range-from.ensures.exact.ordered
    (λ i recs e out. c.index_range-from.ensures.outside honest i recs (ap (λ (t : Loaded). slice_get (blocks_in t) i) c.deref.ensures ∙ e) out)

pub returns-clause-ordered : goal.returns-clause-ordered
returns-clause-ordered g c = λ honest.
    let kept = c.count-blocks.ensures.honest honest in
    subst (λ (t : Loaded). IsInOrder c.args.down (in_order c.args.down (records_in t))) c.deref-2.ensures (rising_in_order c.args.down (records_in c.deref-2.result.now) kept.tablet.rising)
