use Rattle.test_library.proofs.desks.calls_succeed_with_ample_memory.Given as goal

-- the names of the blank that was made
abbrev pub ghosts-check-C-Ledger : goal.ghosts-check-C-Ledger
ghosts-check-C-Ledger g a = record { name = a.blank.name; parts = a.blank.parts }

abbrev pub ghosts-check-C-Crew : goal.ghosts-check-C-Crew
ghosts-check-C-Crew g a = record { history = a.blank.history }
