use Rattle.crew_tests.proofs.looks.versions_never_fall.Given as goal

abbrev pub ghosts-looked_beside : goal.ghosts-looked_beside
ghosts-looked_beside g a = record { book = a.opened }
