use Rattle.tapestry.proofs.main.Given as goal

-- the counter is that of the blank
abbrev pub ghosts-run_session : goal.ghosts-run_session
ghosts-run_session a = record { name = a.blank.name; parts = a.blank.parts }
