use Rattle.std.specs.Prelude.{◌≡◌}
use Rattle.lt_turn.proofs.turn.Turn.wait.Given as goal

abbrev pub invariant-loop : goal.invariant-loop
invariant-loop g l = (l.pass.table_id ≡ l.initial.pass.table_id) × (l.pass.me.1 ≡ l.initial.pass.me.1) × (l.pass.me.0 ≡ l.initial.pass.me.0)
