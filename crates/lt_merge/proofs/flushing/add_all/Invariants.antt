use Rattle.std.proofs.Common.{◌≡◌, ◌≤◌, ◌++◌, ◌⊎◌, true, List, [], length}
use Rattle.std.specs.List.{AllByRecursion}
use Rattle.lt_rec.specs.Bytes.{is_less}
use Rattle.lt_rec.specs.Record.{Record}
use Rattle.lt_rec.specs.Periods.{InPeriod}
use Rattle.lt_mem.specs.Rising.{IsRising}
use Rattle.lt_tablet.specs.Writing.{Wrote}
use Rattle.lt_merge.proofs.flushing.add_all.Given as goal

-- the records that were written, and those that are left, whose keys are above the last one
abbrev pub invariant-loop-rec : goal.invariant-loop-rec
invariant-loop-rec g l = record {
  done : List Record;
  parts : l.initial.left ≡ done ++ l.left;
  wrote : Wrote g.V.Device.honest l.writer done;
  above : (l.writer.last ≡ []) ⊎ AllByRecursion (λ r. is_less l.writer.last r.key ≡ true) l.left;
  rising : IsRising l.left;
  timed : AllByRecursion (λ r. InPeriod l.initial.writer.period r.ts) l.left;
  number : l.writer.number ≡ l.initial.writer.number;
  period : l.writer.period ≡ l.initial.writer.period;
  later : g.V.Device.faults l.initial.dev ≤ g.V.Device.faults l.dev;
}

abbrev pub decreases-loop-rec : goal.decreases-loop-rec
decreases-loop-rec g l = length l.left
