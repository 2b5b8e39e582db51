use Rattle.test_library.proofs.crawls.pages_that_were_merged_are_found.Given as goal

-- the names of the blank that was made
abbrev pub ghosts-crawl_files-C-Ledger : goal.ghosts-crawl_files-C-Ledger
ghosts-crawl_files-C-Ledger g a = record { name = a.blank.name; parts = a.blank.parts }

abbrev pub ghosts-crawl_files-C-Crew : goal.ghosts-crawl_files-C-Crew
ghosts-crawl_files-C-Crew g a = record { history = a.blank.history }
