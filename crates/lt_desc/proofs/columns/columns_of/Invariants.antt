use Rattle.std.proofs.Common.{◌≡◌, ◌-◌, ◌≤◌, [], length}
use Rattle.lt_desc.specs.Reading.{repeated, next_column}
use Rattle.lt_desc.proofs.columns.columns_of.Given as goal

-- the columns so far, and the rest behind them
abbrev pub invariant-loop : goal.invariant-loop
invariant-loop l = record {
  few : length l.columns.items ≤ l.counter;
  read : repeated (next_column l.key_len l.total) (l.count - l.counter) l.columns.items l.rest ≡ repeated (next_column l.key_len l.total) l.count [] l.bytes;
}
