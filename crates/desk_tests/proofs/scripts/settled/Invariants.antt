use Rattle.desk_tests.proofs.scripts.settled.Given as goal

abbrev pub ghosts-settle_on : goal.ghosts-settle_on
ghosts-settle_on a = record { name = a.blank.name; parts = a.blank.parts }
