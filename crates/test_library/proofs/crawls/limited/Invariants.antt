use Rattle.test_library.proofs.crawls.limited.Given as goal

-- the names of the blank that was made
abbrev pub ghosts-found_within-C-Ledger : goal.ghosts-found_within-C-Ledger
ghosts-found_within-C-Ledger g a = record { name = a.blank.name; parts = a.blank.parts }

abbrev pub ghosts-found_within-C-Crew : goal.ghosts-found_within-C-Crew
ghosts-found_within-C-Crew g a = record { history = a.blank.history }
