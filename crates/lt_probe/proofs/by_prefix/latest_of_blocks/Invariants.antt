use Rattle.std.proofs.Common.{◌≡◌, ◌+◌, ◌-◌, ◌≤◌, true, take, drop}
use Rattle.std.specs.Prelude.{IfSome}
use Rattle.lt_rec.specs.Records.{joined}
use Rattle.lt_tablet.specs.Loaded.{blocks_in}
use Rattle.lt_probe.specs.Latest.{IsCovered, IsLatest}
use Rattle.lt_probe.proofs.by_prefix.latest_of_blocks.Given as goal

-- the latest of the blocks so far, each of which was read once
abbrev pub invariant-loop-at : goal.invariant-loop-at
invariant-loop-at g l = record {
  value : g.V.Device.honest ≡ true → IsLatest (joined (take (l.at - l.from) (drop l.from (blocks_in l.tablet)))) l.asked.prefix l.asked.since l.initial.found l.found;
  over_best : IfSome l.initial.found (IsCovered l.found);
  ticks : l.steps ≤ l.initial.steps + (l.at - l.from);
  crossed : l.to ≤ l.from → l.at ≤ l.from;
  later : g.V.Device.faults l.initial.dev ≤ g.V.Device.faults l.dev;
}
