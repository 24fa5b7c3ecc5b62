use Rattle.std.proofs.Common.{◌≡◌, ◌-◌, ℕ, ◌<◌, get_or}
use Rattle.lt_desc.specs.Reading.{repeated, next_change}
use Rattle.lt_desc.proofs.changes.changes_of.Given as goal

-- the changes so far, and the rest behind them
abbrev pub invariant-loop : goal.invariant-loop
invariant-loop l = record {
  rest_fits : (i : ℕ) → get_or l.rest i 0 < 256;
  read : repeated (next_change l.total) (l.count - l.counter) l.schemas l.rest ≡ repeated (next_change l.total) l.count l.initial.schemas l.bytes;
}
