use Rattle.test_library.proofs.connections.a_thread_serves_what_a_fetcher_asks_for.Given as goal

-- the names of the blank that was made
abbrev pub ghosts-serves-C-Ledger : goal.ghosts-serves-C-Ledger
ghosts-serves-C-Ledger g a = record { name = a.blank.name; parts = a.blank.parts }

abbrev pub ghosts-serves-C-Crew : goal.ghosts-serves-C-Crew
ghosts-serves-C-Crew g a = record { history = a.blank.history }
