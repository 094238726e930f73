use Rattle.query_tests.proofs.wake_tests.a_mark_before_the_last_run_is_never_met.Given as goal

-- the counter is that of the blank
abbrev pub ghosts-planned : goal.ghosts-planned
ghosts-planned g a = record { name = a.blank.name; parts = a.blank.parts }
