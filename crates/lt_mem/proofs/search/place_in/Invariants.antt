use Rattle.std.proofs.Common.{◌≡◌, ℕ, ◌-◌, ◌<◌, ◌≤◌, true, length, get_or}
use Rattle.lt_rec.specs.Bytes.{is_less}
use Rattle.lt_rec.specs.Record.{Record}
use Rattle.lt_mem.proofs.search.place_in.Given as goal

-- all below `low` come before the key, and all from `high` on after it
abbrev pub invariant-loop-low : goal.invariant-loop-low
invariant-loop-low l = record {
  ordered : l.low ≤ l.high;
  within : l.high ≤ length l.recs;
  before : (k : ℕ) (d : Record) → k < l.low → is_less (get_or l.recs k d).key l.key ≡ true;
  after : (k : ℕ) (d : Record) → l.high ≤ k → k < length l.recs → is_less l.key (get_or l.recs k d).key ≡ true;
}

abbrev pub decreases-loop-low : goal.decreases-loop-low
decreases-loop-low l = l.high - l.low
