use Rattle.std.proofs.Common.{◌≡◌, ◌++◌, true, take}
use Rattle.lt_rec.specs.Records.{joined}
use Rattle.lt_tablet.specs.Loaded.{blocks_in}
use Rattle.lt_reading_runs.proofs.tests.cursors.opened.add_tablet.Given as goal

abbrev pub invariant-loop-i : goal.invariant-loop-i
invariant-loop-i g l = g.V.Device.honest ≡ true → l.all.items ≡ l.initial.all.items ++ joined (take l.i (blocks_in l.tablet))
