use Rattle.example_crawl.proofs.both.Given as goal

-- the names of the blanks that `both` makes, and of what each crawl begins with
abbrev pub ghosts-opened-C-Ledger : goal.ghosts-opened-C-Ledger
ghosts-opened-C-Ledger g a = record { name = a.blank.name; parts = a.blank.parts }

abbrev pub ghosts-opened-C-Crew : goal.ghosts-opened-C-Crew
ghosts-opened-C-Crew g a = record { history = a.blank.history }

abbrev pub ghosts-opened-T-Table : goal.ghosts-opened-T-Table
ghosts-opened-T-Table g a = record { scope = a.scope; replies = a.host.now }
