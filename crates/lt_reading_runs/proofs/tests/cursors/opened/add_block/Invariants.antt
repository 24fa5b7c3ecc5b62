use Rattle.std.proofs.Common.{◌≡◌, ◌++◌, take}
use Rattle.lt_reading_runs.proofs.tests.cursors.opened.add_block.Given as goal

abbrev pub invariant-loop-i : goal.invariant-loop-i
invariant-loop-i l = l.all.items ≡ l.initial.all.items ++ take l.i l.block
