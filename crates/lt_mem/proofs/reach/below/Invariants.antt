use Rattle.std.proofs.Common.{◌≡◌, ℕ, ◌-◌, ◌<◌, ◌≤◌, true, false, length, get_or}
use Rattle.lt_rec.specs.Boxes.{is_below}
use Rattle.lt_rec.specs.Record.{Record}
use Rattle.lt_mem.proofs.reach.below.Given as goal

-- all before `low` lie below the cut, and none from `high` on does
abbrev pub invariant-loop-low : goal.invariant-loop-low
invariant-loop-low l = record {
  ordered : l.low ≤ l.high;
  within : l.high ≤ length l.recs;
  before : (k : ℕ) (d : Record) → k < l.low → is_below l.cut (get_or l.recs k d).key ≡ true;
  after : (k : ℕ) (d : Record) → l.high ≤ k → k < length l.recs → is_below l.cut (get_or l.recs k d).key ≡ false;
}

abbrev pub decreases-loop-low : goal.decreases-loop-low
decreases-loop-low l = l.high - l.low
