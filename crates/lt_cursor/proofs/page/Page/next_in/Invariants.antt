use Rattle.std.proofs.Common.{◌≡◌, filter, length}
use Rattle.lt_rec.specs.Boxes.{in_box}
use Rattle.lt_cursor.proofs.page.Page.next_in.Given as goal

-- no record of the box was left out
abbrev pub invariant-loop-alloc : goal.invariant-loop-alloc
invariant-loop-alloc l = filter (in_box l.raw_box) l.initial.self ≡ filter (in_box l.raw_box) l.self

abbrev pub decreases-loop-alloc : goal.decreases-loop-alloc
decreases-loop-alloc l = length l.self
