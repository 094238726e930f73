use Rattle.session_tests.proofs.command_tests.each_command_with_rows_is_one_commit.Given as goal

-- the counter is that of the blank
abbrev pub ghosts-session : goal.ghosts-session
ghosts-session g a = record { name = a.blank.name; parts = a.blank.parts }
