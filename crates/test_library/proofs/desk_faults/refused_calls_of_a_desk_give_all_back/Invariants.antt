use Rattle.test_library.proofs.desk_faults.refused_calls_of_a_desk_give_all_back.Given as goal

-- the names of the blank that was made
abbrev pub ghosts-refused_desks-C-Ledger : goal.ghosts-refused_desks-C-Ledger
ghosts-refused_desks-C-Ledger g a = record { name = a.blank.name; parts = a.blank.parts }

abbrev pub ghosts-refused_desks-C-Crew : goal.ghosts-refused_desks-C-Crew
ghosts-refused_desks-C-Crew g a = record { history = a.blank.history }
