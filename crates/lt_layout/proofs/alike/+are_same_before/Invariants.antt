use Rattle.std.proofs.Common.{length}
use Rattle.lt_layout.proofs.alike.+are_same_before.Given as goal

abbrev pub decreases-are_same_before : goal.decreases-are_same_before
decreases-are_same_before l = length l.one.now
