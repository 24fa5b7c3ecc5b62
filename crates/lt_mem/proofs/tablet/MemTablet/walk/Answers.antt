use Rattle.std.proofs.Common.{◌≡◌, List, take, filter, sym, subst}
use Rattle.std.proofs.lemmas.Result.{IfOk-weaker}
use Rattle.lt_rec.specs.Boxes.{in_box}
use Rattle.lt_rec.specs.Record.{Record}
use Rattle.lt_mem.specs.Rising.{IsInOrder, in_order}
use Rattle.lt_mem.proofs.Sorted.{walked_in_order}
use Rattle.lt_mem.proofs.tablet.MemTablet.walk.Goals as goal

pub returns-clause-sorted : goal.returns-clause-sorted
returns-clause-sorted c =
    let a = c.args in
    let kept = in_box a.raw_box.now in
    let recs = c.self.inside.pieces in
    IfOk-weaker c.walk.result (λ (list : List Record). list ≡ take a.limit (filter kept (in_order a.down recs))) (λ list. IsInOrder a.down list)
    (λ list same. subst (IsInOrder a.down) (sym same) (walked_in_order kept a.down a.limit recs c.self.invariant.rising)) c.walk.ensures
