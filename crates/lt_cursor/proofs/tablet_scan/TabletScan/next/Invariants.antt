use Rattle.std.proofs.Common.{◌≡◌, ◌+◌, ◌≤◌, true}
use Rattle.lt_cursor.specs.Strands.{left_of}
use Rattle.lt_cursor.proofs.tablet_scan.TabletScan.next.Given as goal

-- no record of the box was left out, and each block that was read was counted
abbrev pub invariant-loop-rec : goal.invariant-loop-rec
invariant-loop-rec g l = record {
  same : g.V.Device.honest ≡ true → left_of l.raw_box l.initial.self ≡ left_of l.raw_box l.self;
  ticks : l.steps + l.self.blocks ≡ l.initial.steps + l.initial.self.blocks;
  later : g.V.Device.faults l.initial.dev ≤ g.V.Device.faults l.dev;
}

abbrev pub decreases-loop-rec : goal.decreases-loop-rec
decreases-loop-rec g l = l.self.blocks
