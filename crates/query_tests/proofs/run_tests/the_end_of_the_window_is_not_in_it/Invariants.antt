use Rattle.query_tests.proofs.run_tests.the_end_of_the_window_is_not_in_it.Given as goal

-- the counter is that of the blank
abbrev pub ghosts-found : goal.ghosts-found
ghosts-found g a = record { name = a.blank.name; parts = a.blank.parts }
