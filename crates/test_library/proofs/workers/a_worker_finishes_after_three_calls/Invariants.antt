use Rattle.test_library.proofs.workers.a_worker_finishes_after_three_calls.Given as goal

-- the names of the blank that was made
abbrev pub ghosts-worked-C-Ledger : goal.ghosts-worked-C-Ledger
ghosts-worked-C-Ledger g a = record { name = a.blank.name; parts = a.blank.parts }

abbrev pub ghosts-worked-C-Crew : goal.ghosts-worked-C-Crew
ghosts-worked-C-Crew g a = record { history = a.blank.history }
