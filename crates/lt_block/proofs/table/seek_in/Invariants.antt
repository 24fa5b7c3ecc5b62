use Rattle.std.proofs.Common.{◌≡◌, ◌≤◌, ◌<◌, ◌-◌, ℕ, true, false, length}
use Rattle.lt_block.specs.Reading.{records_in}
use Rattle.lt_block.specs.Below.{below_at}
use Rattle.lt_block.proofs.table.seek_in.Given as goal

abbrev pub invariant-loop-low : goal.invariant-loop-low
invariant-loop-low l =
    (l.low ≤ l.high)
    × (l.high ≤ length (records_in l.bytes))
    × ((k : ℕ) → k < l.low → below_at l.cut (records_in l.bytes) k ≡ true)
    × ((k : ℕ) → l.high ≤ k → k < length (records_in l.bytes) → below_at l.cut (records_in l.bytes) k ≡ false)

abbrev pub decreases-loop-low : goal.decreases-loop-low
decreases-loop-low l = l.high - l.low
