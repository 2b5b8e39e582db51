use Rattle.test_library.proofs.answers.a_note_makes_a_pass_see_a_page.Given as goal

-- the names of the blank that was made
abbrev pub ghosts-crawl_docs-C-Ledger : goal.ghosts-crawl_docs-C-Ledger
ghosts-crawl_docs-C-Ledger g a = record { name = a.blank.name; parts = a.blank.parts }

abbrev pub ghosts-crawl_docs-C-Crew : goal.ghosts-crawl_docs-C-Crew
ghosts-crawl_docs-C-Crew g a = record { history = a.blank.history }

-- the names of the blank that was made
abbrev pub ghosts-go_on-C-Ledger : goal.ghosts-go_on-C-Ledger
ghosts-go_on-C-Ledger g a = record { name = a.blank.name; parts = a.blank.parts }

abbrev pub ghosts-go_on-C-Crew : goal.ghosts-go_on-C-Crew
ghosts-go_on-C-Crew g a = record { history = a.blank.history }
