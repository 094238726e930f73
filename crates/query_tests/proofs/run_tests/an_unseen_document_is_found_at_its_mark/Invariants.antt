use Rattle.query_tests.proofs.run_tests.an_unseen_document_is_found_at_its_mark.Given as goal

-- the counter is that of the blank
abbrev pub ghosts-found : goal.ghosts-found
ghosts-found g a = record { name = a.blank.name; parts = a.blank.parts }
