use Rattle.host_desk.proofs.host.Host.settle.Given as goal

abbrev pub ghosts-settle_on : goal.ghosts-settle_on
ghosts-settle_on a = record { name = a.blank.name; parts = a.blank.parts }
