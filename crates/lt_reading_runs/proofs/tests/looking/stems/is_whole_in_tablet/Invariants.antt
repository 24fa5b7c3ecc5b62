use Rattle.std.proofs.Common.{◌≡◌, true, take}
use Rattle.lt_rec.specs.Records.{joined}
use Rattle.lt_tablet.specs.Loaded.{blocks_in}
use Rattle.lt_probe.specs.Latest.{IsWholeIn}
use Rattle.lt_reading_runs.proofs.tests.looking.stems.is_whole_in_tablet.Given as goal

abbrev pub invariant-loop-at : goal.invariant-loop-at
invariant-loop-at g l = g.V.Device.honest ≡ true → IsWholeIn (joined (take l.at (blocks_in l.tablet))) l.bytes
