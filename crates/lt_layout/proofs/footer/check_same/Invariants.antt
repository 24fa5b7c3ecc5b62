use Rattle.std.proofs.Common.{◌≡◌, ◌+◌, drop}
use Rattle.lt_layout.specs.Reading.{same_at}
use Rattle.lt_layout.proofs.footer.check_same.Given as goal

abbrev pub invariant-loop-i : goal.invariant-loop-i
invariant-loop-i l = same_at (l.at + l.i) (drop l.i l.bytes) (drop l.i l.wanted) ≡ same_at l.at l.bytes l.wanted
