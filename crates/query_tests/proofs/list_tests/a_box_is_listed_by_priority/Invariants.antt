use Rattle.query_tests.proofs.list_tests.a_box_is_listed_by_priority.Given as goal

-- the counter is that of the blank
abbrev pub ghosts-listed : goal.ghosts-listed
ghosts-listed g a = record { name = a.blank.name; parts = a.blank.parts }
