use Rattle.std.proofs.Common.{◌≡◌, ◌+◌, ◌≤◌, true, map, take}
use Rattle.std.specs.Prelude.{IfSome}
use Rattle.std.specs.List.{sum_by}
use Rattle.std.specs.Arc.{arc_value}
use Rattle.lt_probe.specs.Counting.{blocks_asked}
use Rattle.lt_probe.specs.Latest.{IsCovered, IsLatest, records_of}
use Rattle.lt_probe.proofs.by_prefix.latest_among.Given as goal

-- the latest of the tablets so far, of which no more blocks were read than are asked for
abbrev pub invariant-loop-tablet : goal.invariant-loop-tablet
invariant-loop-tablet g l = record {
  value : g.V.Device.honest ≡ true → IsLatest (records_of (take l.tablet-index (map arc_value l.tablets))) l.asked.prefix l.asked.since l.initial.found l.found;
  over_best : IfSome l.initial.found (IsCovered l.found);
  ticks : l.steps ≤ l.initial.steps + sum_by (blocks_asked l.asked l.initial.found) (take l.tablet-index (map arc_value l.tablets));
  later : g.V.Device.faults l.initial.dev ≤ g.V.Device.faults l.dev;
}
