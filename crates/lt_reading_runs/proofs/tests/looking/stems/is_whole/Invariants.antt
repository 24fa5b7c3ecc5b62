use Rattle.std.proofs.Common.{◌≡◌, true, map, take}
use Rattle.std.specs.Arc.{arc_value}
use Rattle.lt_probe.specs.Latest.{IsWholeIn, records_of}
use Rattle.lt_reading_runs.proofs.tests.looking.stems.is_whole.Given as goal

abbrev pub invariant-loop-tablet : goal.invariant-loop-tablet
invariant-loop-tablet g l = g.V.Device.honest ≡ true → IsWholeIn (records_of (take l.tablet-index (map arc_value l.tablets))) l.bytes
