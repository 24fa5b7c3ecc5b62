use Rattle.std.proofs.Common.{◌≡◌, ◌≤◌, ◌+◌, ◌-◌, [], length}
use Rattle.lt_block.specs.Reading.{records_at, placed}
use Rattle.lt_block.proofs.Loop.{with_front}
use Rattle.lt_block.proofs.reading.offsets_of.Given as goal

abbrev pub invariant-loop : goal.invariant-loop
invariant-loop l =
    (length l.rest ≤ length l.bytes)
    × (with_front l.offsets.items (placed (4 + length l.bytes - length l.rest) (records_at (l.count - l.counter) (4 + length l.bytes - length l.rest) l.last l.rest)) ≡ placed 4 (records_at l.count 4 [] l.bytes))
