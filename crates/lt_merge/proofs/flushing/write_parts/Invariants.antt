use Rattle.std.proofs.Common.{◌≤◌}
use Rattle.lt_merge.specs.Flushing.{AreOutputs}
use Rattle.lt_merge.proofs.flushing.write_parts.Given as goal

-- an output for each part so far
abbrev pub invariant-loop-part : goal.invariant-loop-part
invariant-loop-part g l = record {
  outputs : AreOutputs g.V.Device.honest l.yielded l.written.items;
  later : g.V.Device.faults l.initial.dev ≤ g.V.Device.faults l.dev;
}
