use Rattle.std.proofs.Common.{◌≤◌, length}
use Rattle.lt_serve.specs.Growing.{meter, ReadSoFar}
use Rattle.lt_serve.proofs.session.session_over.Given as goal

-- the front of the input that was read is answered so far
abbrev pub invariant-loop-bytes : goal.invariant-loop-bytes
invariant-loop-bytes g l = record {
  read : ReadSoFar g.V.Device.honest (g.C.Clock.shows l.clock) l.fn.store.table l.store.table (meter (g.V.Device.faults l.fn.device) l.fn.store.next_file l.fn.store.anchor.directory)
      (meter (g.V.Device.faults l.device) l.store.next_file l.store.anchor.directory) l.fn.client l.input l.rest l.text.items;
  later : g.V.Device.faults l.fn.device ≤ g.V.Device.faults l.device;
}

abbrev pub decreases-loop-bytes : goal.decreases-loop-bytes
decreases-loop-bytes g l = length l.rest
