use Rattle.query_tests.proofs.index_tests.rows_found_by_a_key_are_those_that_have_it.Given as goal

-- the counter is that of the blank
abbrev pub ghosts-found : goal.ghosts-found
ghosts-found g a = record { name = a.blank.name; parts = a.blank.parts }
