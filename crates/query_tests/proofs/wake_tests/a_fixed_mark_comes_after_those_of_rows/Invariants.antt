use Rattle.query_tests.proofs.wake_tests.a_fixed_mark_comes_after_those_of_rows.Given as goal

-- the counter is that of the blank
abbrev pub ghosts-planned : goal.ghosts-planned
ghosts-planned g a = record { name = a.blank.name; parts = a.blank.parts }
