use Rattle.crew_run.proofs.crew.run_watched.Given as goal

-- the script, the history that was just begun, and the ledger
abbrev pub ghosts-named_run-J-Following : goal.ghosts-named_run-J-Following
ghosts-named_run-J-Following g a = record { script = a.script.now }

abbrev pub ghosts-named_run-J-StampNaming : goal.ghosts-named_run-J-StampNaming
ghosts-named_run-J-StampNaming g a = record { book = a.unnamed }

abbrev pub ghosts-named_run-L-Ledger : goal.ghosts-named_run-L-Ledger
ghosts-named_run-L-Ledger g a = record { name = a.blank.name; parts = a.blank.parts }
