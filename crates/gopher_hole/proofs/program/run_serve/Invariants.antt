use Rattle.gopher_hole.proofs.program.run_serve.Given as goal

-- the names of the blank that was made
abbrev pub ghosts-serve-C-Ledger : goal.ghosts-serve-C-Ledger
ghosts-serve-C-Ledger g a = record { name = a.blank.name; parts = a.blank.parts }

abbrev pub ghosts-serve-C-Crew : goal.ghosts-serve-C-Crew
ghosts-serve-C-Crew g a = record { history = a.blank.history }
