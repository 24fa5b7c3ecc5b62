use Rattle.std.proofs.Common.{◌≡◌, ◌+◌, ◌≤◌, true, length}
use Rattle.lt_cursor.specs.Merging.{IsSoundMerging, blocks_left, coming_of}
use Rattle.lt_cursor.proofs.merge.Merge.lead_all.Given as goal

-- each source is led or still waits, and nothing was lost
abbrev pub invariant-loop-at : goal.invariant-loop-at
invariant-loop-at g l = record {
  sound : g.V.Device.honest ≡ true → IsSoundMerging l.self l.self.waiting;
  coming : g.V.Device.honest ≡ true → coming_of l.self ≡ coming_of l.initial.self;
  ticks : l.steps + blocks_left l.self ≡ l.initial.steps + blocks_left l.initial.self;
  later : g.V.Device.faults l.initial.dev ≤ g.V.Device.faults l.dev;
}

abbrev pub decreases-loop-at : goal.decreases-loop-at
decreases-loop-at g l = length l.self.waiting
