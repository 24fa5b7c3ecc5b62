use Rattle.std.proofs.Common.{subst, arith}
use Rattle.std.specs.List.{All}
use Rattle.std.proofs.lemmas.List.{take_all}
use Rattle.std.proofs.lemmas.List.Elements.{All-more}
use Rattle.lt_cursor.specs.Order.{IsInOrder}
use Rattle.lt_reading_runs.proofs.tests.cursors.opened.lists_are_in_order.Goals as goal

pub loop-list-preserved : goal.loop-list-preserved
loop-list-preserved c =
    let here : IsInOrder c.args.down c.list-item.result = c.in_ok-is_in_order.ensures c.if-not-branch.false in
    All-more (IsInOrder c.args.down) c.args.lists.now c.loop-list.list-index c.list-item.result c.loop-list-test.true c.loop-list.invariant (subst (IsInOrder c.args.down) c.list-item.is here)

pub returns : goal.returns
returns c = λ yes. subst (All (IsInOrder c.args.down)) (take_all c.loop-list.list-index c.args.lists.now (omega (arith, c.loop-list-test.false))) c.loop-list.invariant
