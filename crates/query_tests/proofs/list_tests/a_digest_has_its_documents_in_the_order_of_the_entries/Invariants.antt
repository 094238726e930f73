use Rattle.query_tests.proofs.list_tests.a_digest_has_its_documents_in_the_order_of_the_entries.Given as goal

-- the counter is that of the blank
abbrev pub ghosts-digested : goal.ghosts-digested
ghosts-digested g a = record { name = a.blank.name; parts = a.blank.parts }
