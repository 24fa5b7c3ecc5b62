use Rattle.std.proofs.Common.{◌≡◌, ◌+◌, ◌≤◌, true, map, take}
use Rattle.std.specs.Prelude.{count_by}
use Rattle.std.specs.Arc.{arc_value}
use Rattle.lt_probe.specs.Keys.{NoneHas, may_have_key}
use Rattle.lt_probe.specs.Latest.{records_of}
use Rattle.lt_probe.proofs.by_key.number_among.Given as goal

-- none of the tablets so far has the key, and as many blocks were read as may have it
abbrev pub invariant-loop-tablet : goal.invariant-loop-tablet
invariant-loop-tablet g l = record {
  none : g.V.Device.honest ≡ true → NoneHas (records_of (take l.tablet-index (map arc_value l.tablets))) l.key;
  ticks : l.steps ≤ l.initial.steps + count_by (may_have_key l.key) (take l.tablet-index (map arc_value l.tablets));
  later : g.V.Device.faults l.initial.dev ≤ g.V.Device.faults l.dev;
}
