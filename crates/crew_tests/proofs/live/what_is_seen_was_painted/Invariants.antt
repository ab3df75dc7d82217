use Rattle.crew_tests.proofs.live.what_is_seen_was_painted.Given as goal

abbrev pub ghosts-looked_at : goal.ghosts-looked_at
ghosts-looked_at g a = record { book = a.opened }
