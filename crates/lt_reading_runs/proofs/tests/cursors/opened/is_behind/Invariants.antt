use Rattle.std.proofs.Common.{◌≡◌, ℕ, ◌<◌, true, get_or}
use Rattle.lt_rec.specs.Record.{Record}
use Rattle.lt_kway.specs.Heads.{is_before}
use Rattle.lt_reading_runs.proofs.tests.cursors.opened.is_behind.Given as goal

abbrev pub invariant-loop-i : goal.invariant-loop-i
invariant-loop-i l = (i : ℕ) (d : Record) → i < l.i → is_before l.down (get_or l.recs i d).key l.key ≡ true
