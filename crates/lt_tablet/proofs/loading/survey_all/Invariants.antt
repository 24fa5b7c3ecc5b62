use Rattle.std.proofs.Common.{◌≤◌, drop}
use Rattle.std.specs.Prelude.{option_copied}
use Rattle.lt_layout.specs.Spelling.{listed_totals}
use Rattle.lt_tablet.proofs.SoFar.{SoFar}
use Rattle.lt_tablet.proofs.loading.survey_all.Given as goal

abbrev pub invariant-loop-entry : goal.invariant-loop-entry
invariant-loop-entry g l = record {
  so_far : SoFar g.V.Device.honest (listed_totals l.listed) (g.V.Device.reader_bytes l.reader) l.index (drop l.entry-index l.index) (option_copied l.before) l.survey;
  later : g.V.Device.faults l.fn.dev ≤ g.V.Device.faults l.dev;
}
