use Rattle.crew_run.proofs.crew.join.Given as goal

abbrev pub ghosts-named_join : goal.ghosts-named_join
ghosts-named_join g a = record { name = a.blank.name; parts = a.blank.parts }
