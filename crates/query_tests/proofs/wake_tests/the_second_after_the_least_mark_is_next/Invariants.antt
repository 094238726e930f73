use Rattle.query_tests.proofs.wake_tests.the_second_after_the_least_mark_is_next.Given as goal

-- the counter is that of the blank
abbrev pub ghosts-planned : goal.ghosts-planned
ghosts-planned g a = record { name = a.blank.name; parts = a.blank.parts }
