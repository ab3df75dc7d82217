use Rattle.small_host.proofs.main.Given as goal

abbrev pub ghosts-draw : goal.ghosts-draw
ghosts-draw a = record { name = a.blank.name; parts = a.blank.parts }
