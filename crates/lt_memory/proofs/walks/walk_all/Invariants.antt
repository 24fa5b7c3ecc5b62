use Rattle.std.proofs.Common.{◌≡◌, take, All}
use Rattle.lt_mem.specs.Rising.{IsInOrder}
use Rattle.lt_memory.specs.Walking.{walks_of}
use Rattle.lt_memory.proofs.walks.walk_all.Given as goal

abbrev pub invariant-loop-tablet : goal.invariant-loop-tablet
invariant-loop-tablet l = record {
  exact : l.lists.items ≡ walks_of l.raw_box l.down l.limit (take l.tablet-index l.tablets);
  sorted : All (IsInOrder l.down) l.lists.items;
}
