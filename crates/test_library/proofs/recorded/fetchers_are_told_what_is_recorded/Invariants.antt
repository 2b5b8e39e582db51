use Rattle.test_library.proofs.recorded.fetchers_are_told_what_is_recorded.Given as goal

-- the names of the blank that was made
abbrev pub ghosts-crawl_told-C-Ledger : goal.ghosts-crawl_told-C-Ledger
ghosts-crawl_told-C-Ledger g a = record { name = a.blank.name; parts = a.blank.parts }

abbrev pub ghosts-crawl_told-C-Crew : goal.ghosts-crawl_told-C-Crew
ghosts-crawl_told-C-Crew g a = record { history = a.blank.history }
