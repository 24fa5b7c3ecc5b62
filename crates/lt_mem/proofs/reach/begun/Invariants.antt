use Rattle.std.proofs.Common.{ℕ, ◌+◌, ◌-◌, ◌<◌, ◌≤◌, length}
use Rattle.lt_mem.specs.Pieces.{piece_at, AllBelow, NoneBelow}
use Rattle.lt_mem.proofs.reach.begun.Given as goal

-- the piece before `low` begins below the cut, and the one at `high` doesn't
abbrev pub invariant-loop-low : goal.invariant-loop-low
invariant-loop-low l = record {
  ordered : l.low ≤ l.high;
  within : l.high ≤ length l.pieces;
  below : (k : ℕ) → k + 1 < l.low → AllBelow l.cut (piece_at l.pieces k);
  above : (k : ℕ) → l.high ≤ k → k < length l.pieces → NoneBelow l.cut (piece_at l.pieces k);
}

abbrev pub decreases-loop-low : goal.decreases-loop-low
decreases-loop-low l = l.high - l.low
