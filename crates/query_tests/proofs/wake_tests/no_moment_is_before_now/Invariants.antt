use Rattle.query_tests.proofs.wake_tests.no_moment_is_before_now.Given as goal

-- the counter is that of the blank
abbrev pub ghosts-planned : goal.ghosts-planned
ghosts-planned g a = record { name = a.blank.name; parts = a.blank.parts }
