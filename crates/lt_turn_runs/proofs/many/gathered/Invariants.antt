use Rattle.std.specs.Prelude.{vec_len}
use Rattle.std.specs.List.{All}
use Rattle.lt_turn_runs.specs.Seats.{IsReady}
use Rattle.lt_turn_runs.proofs.many.gathered.Given as goal

abbrev pub invariant-loop-worker : goal.invariant-loop-worker
invariant-loop-worker g l = record {
  ready : IsReady l.seat l.turn;
  workers : All (λ w. IsReady w.seat l.turn) l.workers.items;
}

abbrev pub decreases-loop-worker : goal.decreases-loop-worker
decreases-loop-worker g l = vec_len l.workers
