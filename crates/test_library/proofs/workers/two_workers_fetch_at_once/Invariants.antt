use Rattle.test_library.proofs.workers.two_workers_fetch_at_once.Given as goal

-- the names of the blank that was made
abbrev pub ghosts-crawled-C-Ledger : goal.ghosts-crawled-C-Ledger
ghosts-crawled-C-Ledger g a = record { name = a.blank.name; parts = a.blank.parts }

abbrev pub ghosts-crawled-C-Crew : goal.ghosts-crawled-C-Crew
ghosts-crawled-C-Crew g a = record { history = a.blank.history }
