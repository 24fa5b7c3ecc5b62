use Rattle.std.specs.Prelude.{[], ◌∷◌}
use Rattle.lt_turn_runs.proofs.runs.add.Given as goal

abbrev pub ghosts-put : goal.ghosts-put
ghosts-put g a = record { list = a.amount ∷ [] }
