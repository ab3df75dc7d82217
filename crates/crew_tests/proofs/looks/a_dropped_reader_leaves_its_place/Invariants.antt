use Rattle.crew_tests.proofs.looks.a_dropped_reader_leaves_its_place.Given as goal

abbrev pub ghosts-places_of_one : goal.ghosts-places_of_one
ghosts-places_of_one g a = record { book = a.opened }
