use Rattle.std.proofs.Common.{◌≡◌, filter, length}
use Rattle.lt_rec.specs.Boxes.{in_box}
use Rattle.lt_cursor.proofs.source.next_in_list.Given as goal

-- no record of the box was left out
abbrev pub invariant-loop-rec : goal.invariant-loop-rec
invariant-loop-rec l = filter (in_box l.raw_box) l.initial.list ≡ filter (in_box l.raw_box) l.list

abbrev pub decreases-loop-rec : goal.decreases-loop-rec
decreases-loop-rec l = length l.list
