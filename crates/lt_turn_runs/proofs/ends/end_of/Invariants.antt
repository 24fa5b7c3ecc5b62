use Rattle.lt_turn_runs.proofs.ends.end_of.Given as goal

abbrev pub ghosts-ended-B-Ledger : goal.ghosts-ended-B-Ledger
ghosts-ended-B-Ledger g a = record { name = a.blank.name; parts = a.blank.parts }
