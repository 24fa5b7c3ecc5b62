use Rattle.lt_reading_runs.proofs.tests.looking.found.Given as goal

-- the ledger that the blank stands for
abbrev pub ghosts-counted : goal.ghosts-counted
ghosts-counted a = record { name = a.blank.name; parts = a.blank.parts }
