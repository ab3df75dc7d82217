use Rattle.crew_tests.proofs.looks.a_closed_writer_gives_no_look.Given as goal

abbrev pub ghosts-looks_after_close : goal.ghosts-looks_after_close
ghosts-looks_after_close g a = record { book = a.opened }
