use Rattle.desk_tests.proofs.orders.driven.Given as goal

abbrev pub ghosts-drives_well : goal.ghosts-drives_well
ghosts-drives_well a = record { name = a.blank.name; parts = a.blank.parts }
