use Rattle.std.proofs.Common.{◌≢◌, ℕ, ◌<◌, get_or}
use Rattle.lt_rec.specs.Record.{Record}
use Rattle.lt_reading_runs.proofs.tests.cursors.opened.is_new.Given as goal

abbrev pub invariant-loop-i : goal.invariant-loop-i
invariant-loop-i l = (i : ℕ) (d : Record) → i < l.i → (get_or l.recs i d).key ≢ l.key
