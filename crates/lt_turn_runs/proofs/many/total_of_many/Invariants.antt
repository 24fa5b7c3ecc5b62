use Rattle.lt_turn_runs.proofs.many.total_of_many.Given as goal

abbrev pub ghosts-run-B-Ledger : goal.ghosts-run-B-Ledger
ghosts-run-B-Ledger g a = record { name = a.blank.name; parts = a.blank.parts }
