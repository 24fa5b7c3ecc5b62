use Rattle.std.specs.Prelude.{◌≡◌, ◌+◌, ◌*◌, ◌≤◌}
use Rattle.std.specs.List.{sum}
use Rattle.lt_turn.specs.Seats.{mine}
use Rattle.lt_turn_runs.specs.Seats.{IsReady, IsLater}
use Rattle.lt_turn_runs.proofs.runs.add_many.Given as goal

abbrev pub invariant-loop-round : goal.invariant-loop-round
invariant-loop-round g l = record {
  ready : IsReady l.seat l.turn;
  later : IsLater l.initial.seat l.seat;
  given : sum (mine l.seat) ≡ sum (mine l.initial.seat) + l.gave;
  small : l.gave ≤ l._round * 4294967295;
}
