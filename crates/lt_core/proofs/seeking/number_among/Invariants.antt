use Rattle.std.proofs.Common.{◌≡◌, ◌+◌, ◌≤◌, true, map, take}
use Rattle.std.specs.Prelude.{count_by}
use Rattle.std.specs.Arc.{arc_value}
use Rattle.lt_core.specs.Parts.{sealed}
use Rattle.lt_core.specs.Inserts.{is_probed, NoneListedFrom}
use Rattle.lt_core.proofs.seeking.number_among.Given as goal

abbrev pub invariant-loop-tablet : goal.invariant-loop-tablet
invariant-loop-tablet g l = record {
  none : g.V.Device.honest ≡ true → NoneListedFrom (map (λ tablet. sealed (arc_value tablet)) (take l.tablet-index l.tablets)) l.key l.clear;
  ticks : l.steps ≤ l.initial.steps + count_by (is_probed l.key l.clear) (take l.tablet-index (map arc_value l.tablets));
  later : g.V.Device.faults l.initial.dev ≤ g.V.Device.faults l.dev;
}
