use Rattle.std.proofs.Common.{◌-◌, ◌<◌, ◌≤◌, length, vec_len}
use Rattle.std.specs.Io.KnownBytes.{Consumes}
use Rattle.lt_io.proofs.reading.read_pieces.Given as goal

-- what was read so far is what the source lost
abbrev pub invariant-loop-bytes : goal.invariant-loop-bytes
invariant-loop-bytes g l = record {
  room : 0 < length l.piece;
  within : vec_len l.bytes ≤ 67108864;
  consumed : Consumes (g.S.Source.left l.fn.source) (g.S.Source.left l.source) l.bytes.items;
  later : g.S.Source.faults l.fn.source ≤ g.S.Source.faults l.source;
}

abbrev pub decreases-loop-bytes : goal.decreases-loop-bytes
decreases-loop-bytes g l = 67108864 - vec_len l.bytes
