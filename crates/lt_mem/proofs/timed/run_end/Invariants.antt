use Rattle.std.proofs.Common.{◌≡◌, ℕ, ◌-◌, ◌<◌, ◌≤◌, true, length, get_or}
use Rattle.lt_rec.specs.Record.{Record}
use Rattle.lt_mem.specs.Rising.{in_order}
use Rattle.lt_mem.specs.Pieces.{has_time}
use Rattle.lt_mem.proofs.timed.run_end.Given as goal

-- each record of the run so far has a timestamp of the box
abbrev pub invariant-loop-end : goal.invariant-loop-end
invariant-loop-end l = record {
  forward : l.start ≤ l.end;
  within : l.end ≤ length l.recs;
  timed : (k : ℕ) (d : Record) → l.start ≤ k → k < l.end → has_time l.raw_box (get_or (in_order l.down l.recs) k d) ≡ true;
}

abbrev pub decreases-loop-end : goal.decreases-loop-end
decreases-loop-end l = length l.recs - l.end
