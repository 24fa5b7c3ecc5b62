use Rattle.std.proofs.Common.{take}
use Rattle.std.specs.List.{All}
use Rattle.lt_cursor.specs.Order.{IsInOrder}
use Rattle.lt_reading_runs.proofs.tests.cursors.opened.lists_are_in_order.Given as goal

abbrev pub invariant-loop-list : goal.invariant-loop-list
invariant-loop-list l = All (IsInOrder l.down) (take l.list-index l.lists)
