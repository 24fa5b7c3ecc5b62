use Rattle.std.proofs.Common.{◌≡◌, filter}
use Rattle.lt_rec.specs.Boxes.{in_box}
use Rattle.lt_rec.specs.Records.{joined}
use Rattle.lt_mem.specs.Rising.{in_order}
use Rattle.lt_mem.specs.Growth.{grown}
use Rattle.lt_mem.proofs.Reading.{so_far}
use Rattle.lt_mem.proofs.walk.walk_between.Given as goal

-- what was read so far is added
abbrev pub invariant-loop-step : goal.invariant-loop-step
invariant-loop-step l = l.found ≡ grown l.initial.found (filter (in_box l.raw_box) (in_order l.down (joined (so_far l.down l.pieces l.step))))
