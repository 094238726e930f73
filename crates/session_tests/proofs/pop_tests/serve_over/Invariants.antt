use Rattle.session_tests.proofs.pop_tests.serve_over.Given as goal

-- the counter is that of the blank
abbrev pub ghosts-serve_with : goal.ghosts-serve_with
ghosts-serve_with a = record { name = a.blank.name; parts = a.blank.parts }
