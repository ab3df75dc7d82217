use Rattle.host_desk.proofs.host.Host.take.Given as goal

abbrev pub ghosts-take_on : goal.ghosts-take_on
ghosts-take_on a = record { name = a.blank.name; parts = a.blank.parts }
