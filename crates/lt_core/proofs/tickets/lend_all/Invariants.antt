use Rattle.std.proofs.Common.{◌≡◌, ◌≤◌, ◌+◌, map, vec_len, vec_capacity}
use Rattle.std.specs.List.{range_with_len}
use Rattle.lt_core.specs.Lending.{LendsEach}
use Rattle.lt_core.proofs.tickets.lend_all.Given as goal

abbrev pub invariant-loop-i : goal.invariant-loop-i
invariant-loop-i g l = record {
  len : vec_len l.lents ≡ l.i;
  capacity : l.count ≤ vec_capacity l.lents;
  numbers : map g.V.Device.lent_number l.lents.items ≡ range_with_len l.first l.i;
  lent : LendsEach g.V.Device.honest l.first l.i l.initial.anchor l.anchor;
  ceiling : l.anchor.directory.now.ceiling ≤ l.first + l.i;
}
