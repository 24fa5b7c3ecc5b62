use Rattle.std.proofs.Common.{◌≡◌, ℕ, ◌<◌, true, get_or}
use Rattle.lt_rec.specs.Bytes.{begins_with}
use Rattle.lt_rec.specs.Record.{Record, stem_of}
use Rattle.lt_reading_runs.proofs.tests.looking.stems.is_whole_in_block.Given as goal

abbrev pub invariant-loop-at : goal.invariant-loop-at
invariant-loop-at l = (i : ℕ) (d : Record) → i < l.at → begins_with (get_or l.block i d).key l.bytes ≡ true → stem_of (get_or l.block i d).key ≡ l.bytes
