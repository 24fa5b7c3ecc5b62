use Rattle.std.proofs.Common.{◌≡◌, ℕ, ◌<◌, true, get_or}
use Rattle.lt_rec.specs.Record.{Record}
use Rattle.lt_kway.specs.Heads.{is_before}
use Rattle.lt_reading_runs.proofs.tests.cursors.opened.are_in_order.Given as goal

abbrev pub invariant-loop-j : goal.invariant-loop-j
invariant-loop-j l = (i j : ℕ) (d : Record) → i < j → j < l.j → is_before l.down (get_or l.recs i d).key (get_or l.recs j d).key ≡ true
