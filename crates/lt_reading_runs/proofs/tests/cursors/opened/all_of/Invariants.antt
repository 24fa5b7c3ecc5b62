use Rattle.std.proofs.Common.{◌≡◌, true, map, take}
use Rattle.std.specs.Arc.{arc_value}
use Rattle.lt_rec.specs.Records.{joined}
use Rattle.lt_tablet.specs.Loaded.{records_in}
use Rattle.lt_cursor.specs.Boxed.{gathered}
use Rattle.lt_reading_runs.proofs.tests.cursors.opened.all_of.Given as goal

abbrev pub invariant-loop-tablet : goal.invariant-loop-tablet
invariant-loop-tablet g l = g.V.Device.honest ≡ true → l.all.items ≡ joined (map records_in (map arc_value (take l.tablet-index l.tablets)))

abbrev pub invariant-loop-list : goal.invariant-loop-list
invariant-loop-list g l = g.V.Device.honest ≡ true → l.all.items ≡ gathered true (map arc_value l.tablets) (take l.list-index l.lists)
