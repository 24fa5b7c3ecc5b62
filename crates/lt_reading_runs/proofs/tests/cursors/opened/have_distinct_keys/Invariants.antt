use Rattle.std.proofs.Common.{◌≢◌, ℕ, ◌<◌, get_or}
use Rattle.lt_rec.specs.Record.{Record}
use Rattle.lt_reading_runs.proofs.tests.cursors.opened.have_distinct_keys.Given as goal

abbrev pub invariant-loop-j : goal.invariant-loop-j
invariant-loop-j l = (i j : ℕ) (d : Record) → i < j → j < l.j → (get_or l.recs i d).key ≢ (get_or l.recs j d).key
