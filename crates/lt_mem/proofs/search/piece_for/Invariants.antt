use Rattle.std.proofs.Common.{◌≡◌, ◌-◌, ◌<◌, ◌≤◌, true, length}
use Rattle.lt_rec.specs.Bytes.{is_less}
use Rattle.lt_mem.specs.Pieces.{first_key, piece_at, IsUpTo}
use Rattle.lt_mem.proofs.search.piece_for.Given as goal

-- the piece at `low` is the first or does not begin after the key, and the one at `high` does
abbrev pub invariant-loop-high : goal.invariant-loop-high
invariant-loop-high l = record {
  ordered : l.low < l.high;
  within : l.high ≤ length l.pieces;
  begun : 0 < l.low → IsUpTo (first_key (piece_at l.pieces l.low)) l.key;
  next : l.high < length l.pieces → is_less l.key (first_key (piece_at l.pieces l.high)) ≡ true;
}

abbrev pub decreases-loop-high : goal.decreases-loop-high
decreases-loop-high l = l.high - l.low
