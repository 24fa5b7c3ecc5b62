use Rattle.std.proofs.Common.{◌≤◌}
use Rattle.lt_probe.proofs.Picking.{IsSoFar}
use Rattle.lt_probe.proofs.block.latest_place.Given as goal

-- the place so far, and its timestamp, or the least that is asked for
abbrev pub invariant-loop-at : goal.invariant-loop-at
invariant-loop-at l = record {
  least : l.since ≤ l.most;
  crossed : l.to ≤ l.from → l.at ≤ l.from;
  picked : IsSoFar l.block l.from l.at l.since l.most l.place;
}
