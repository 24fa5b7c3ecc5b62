use Rattle.std.proofs.Common.{◌≡◌, ◌≤◌, ◌<◌, ◌+◌, ◌-◌, ℕ, [], length, get_or}
use Rattle.lt_layout.specs.Reading.{entries_at}
use Rattle.lt_layout.proofs.Loops.{with_front, place_of}
use Rattle.lt_layout.proofs.index.entries_of.Given as goal

abbrev pub invariant-loop-done : goal.invariant-loop-done
invariant-loop-done l =
    (length l.rest ≤ length l.bytes)
    × ((i : ℕ) → get_or l.rest i 0 < 256)
    × (begin : ℕ) × (l.start ≡ place_of begin) × (with_front l.entries.items (entries_at l.index (l.count - l.done) (l.index + (length l.bytes - length l.rest)) begin l.last l.rest) ≡ entries_at l.index l.count l.index 8 [] l.bytes)
