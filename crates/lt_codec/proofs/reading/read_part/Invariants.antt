use Rattle.std.proofs.Common.{◌≡◌, ◌≤◌, length, drop}
use Rattle.lt_codec.specs.Reading.{reads_of, all_at, behind_values}
use Rattle.lt_codec.proofs.reading.read_part.Given as goal

-- the values so far are read, and the rest is read behind them
abbrev pub invariant-loop-column : goal.invariant-loop-column
invariant-loop-column l = record {
  read : behind_values l.rows.row (all_at (reads_of l.part) l.end (drop l.column-index l.columns) l.left) ≡ behind_values l.initial.rows.row (all_at (reads_of l.part) l.end l.columns l.bytes);
  whole : l.rows.rows ≡ l.initial.rows.rows;
  within : length l.left ≤ length l.bytes;
}
