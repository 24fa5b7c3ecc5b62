use Rattle.std.proofs.Common.{◌≡◌, ◌-◌, ◌+◌, ◌≤◌, length, filter, take}
use Rattle.lt_mem.specs.Rising.{in_order}
use Rattle.lt_mem.specs.Pieces.{has_time}
use Rattle.lt_mem.specs.Growth.{grown}
use Rattle.lt_mem.proofs.timed.add_timed.Given as goal

-- the records that were read so far are added
abbrev pub invariant-loop-start : goal.invariant-loop-start
invariant-loop-start l = record {
  within : l.start ≤ length l.recs + 1;
  added : l.found ≡ grown l.initial.found (filter (has_time l.raw_box) (take l.start (in_order l.down l.recs)));
}

abbrev pub decreases-loop-start : goal.decreases-loop-start
decreases-loop-start l = length l.recs + 1 - l.start
