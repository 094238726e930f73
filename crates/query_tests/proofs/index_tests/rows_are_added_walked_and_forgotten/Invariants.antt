use Rattle.query_tests.proofs.index_tests.rows_are_added_walked_and_forgotten.Given as goal

-- the counter is that of the blank
abbrev pub ghosts-counted : goal.ghosts-counted
ghosts-counted g a = record { name = a.blank.name; parts = a.blank.parts }
