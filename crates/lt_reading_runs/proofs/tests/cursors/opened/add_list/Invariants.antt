use Rattle.std.proofs.Common.{◌≡◌, ◌++◌, length}
use Rattle.lt_reading_runs.proofs.tests.cursors.opened.add_list.Given as goal

abbrev pub invariant-loop-rec : goal.invariant-loop-rec
invariant-loop-rec l = l.all.items ++ l.left ≡ l.initial.all.items ++ l.initial.left

abbrev pub decreases-loop-rec : goal.decreases-loop-rec
decreases-loop-rec l = length l.left
