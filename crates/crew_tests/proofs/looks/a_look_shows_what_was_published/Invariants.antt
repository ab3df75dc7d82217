use Rattle.crew_tests.proofs.looks.a_look_shows_what_was_published.Given as goal

abbrev pub ghosts-looks_of_one_put : goal.ghosts-looks_of_one_put
ghosts-looks_of_one_put g a = record { book = a.opened }
