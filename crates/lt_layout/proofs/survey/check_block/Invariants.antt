use Rattle.std.proofs.Common.{◌≡◌, ◌≤◌, ◌-◌, List, [], length}
use Rattle.lt_rec.specs.Record.{Record}
use Rattle.lt_layout.specs.Reading.{own_records_at}
use Rattle.lt_layout.proofs.Loops.{with_front}
use Rattle.lt_layout.proofs.survey.check_block.Given as goal

abbrev pub invariant-loop-done : goal.invariant-loop-done
invariant-loop-done l =
    (length l.rest ≤ length l.bytes)
    × (front : List Record) × (with_front front (own_records_at l.totals l.entry (l.count - l.done) (length l.bytes - length l.rest) l.last l.rest) ≡ own_records_at l.totals l.entry l.count 4 [] l.initial.rest)
