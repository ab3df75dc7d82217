use Rattle.desk_tests.proofs.plays.odd_call.Given as goal

abbrev pub ghosts-first_of : goal.ghosts-first_of
ghosts-first_of a = record { name = a.blank.name; parts = a.blank.parts }
