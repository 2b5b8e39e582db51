use Rattle.test_library.proofs.crawls.idle_workers_hear_of_each_end.Given as goal

-- the names of the blank that was made
abbrev pub ghosts-crawl_root-C-Ledger : goal.ghosts-crawl_root-C-Ledger
ghosts-crawl_root-C-Ledger g a = record { name = a.blank.name; parts = a.blank.parts }

abbrev pub ghosts-crawl_root-C-Crew : goal.ghosts-crawl_root-C-Crew
ghosts-crawl_root-C-Crew g a = record { history = a.blank.history }
