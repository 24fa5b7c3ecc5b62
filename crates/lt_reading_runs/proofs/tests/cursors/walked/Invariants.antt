use Rattle.lt_reading_runs.proofs.tests.cursors.walked.Given as goal

-- the ledger that the blank stands for
abbrev pub ghosts-shown : goal.ghosts-shown
ghosts-shown a = record { name = a.blank.name; parts = a.blank.parts }
