use Rattle.lt_turn_runs.proofs.runs.total_of_two.Given as goal

abbrev pub ghosts-opened-B-Ledger : goal.ghosts-opened-B-Ledger
ghosts-opened-B-Ledger g a = record { name = a.blank.name; parts = a.blank.parts }
