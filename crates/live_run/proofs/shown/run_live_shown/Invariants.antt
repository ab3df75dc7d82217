use Rattle.live_run.proofs.shown.run_live_shown.Given as goal

-- the live view that was just opened
abbrev pub ghosts-named_shown : goal.ghosts-named_shown
ghosts-named_shown g a = record { book = a.opened }
