use Rattle.std.proofs.Common.{◌≡◌, ◌≤◌, ◌<◌, ◌-◌, List, [], ◌++◌, length}
use Rattle.std.specs.Prelude.{Some, None, option_copied}
use Rattle.lt_rec.specs.Record.{Record}
use Rattle.lt_layout.specs.Spelling.{totals_of, hashes_from}
use Rattle.lt_layout.specs.Reading.{own_records_at}
use Rattle.lt_layout.specs.Surveying.{last_of, found_in}
use Rattle.lt_layout.proofs.Loops.{with_front}
use Rattle.lt_layout.proofs.survey.survey_block.Given as goal

abbrev pub invariant-loop-done : goal.invariant-loop-done
invariant-loop-done l =
    (length l.rest ≤ length l.bytes)
    × (front : List Record) × (with_front front (own_records_at l.totals l.entry (l.count - l.done) (length l.bytes - length l.rest) l.last l.rest) ≡ own_records_at l.totals l.entry l.count 4 [] l.initial.rest)
    × ((recs : List Record) → option_copied l.fn.before ≡ last_of recs → l.fn.survey ≡ found_in recs → (l.found ≡ totals_of (recs ++ front)) × (l.survey-inside.hashes.items ≡ hashes_from None (recs ++ front)))
    × (l.done ≡ 0 → front ≡ [])
    × (0 < l.done → (last_of front ≡ Some l.last) × (8 ≤ length l.last))
