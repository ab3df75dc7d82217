use Rattle.crew_tests.proofs.live.who_looks_on_sees_it_come.Given as goal

abbrev pub ghosts-looked_at : goal.ghosts-looked_at
ghosts-looked_at g a = record { book = a.opened }
