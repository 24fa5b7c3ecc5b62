use Rattle.std.specs.Prelude.{◌≡◌, ◌+◌}
use Rattle.std.specs.List.{All}
use Rattle.lt_turn.specs.Seats.{parts}
use Rattle.lt_turn_runs.specs.Seats.{IsReady}
use Rattle.lt_turn_runs.proofs.many.seated.Given as goal

abbrev pub invariant-loop-taken : goal.invariant-loop-taken
invariant-loop-taken g l = record {
  ready : IsReady l.seat l.turn;
  left : parts l.seat + l._taken ≡ parts l.initial.seat;
  workers : All (λ w. IsReady w.seat l.turn) l.workers.items;
}
