use Rattle.crew_tests.proofs.stamps.stamps_are_told_apart.Given as goal

abbrev pub ghosts-are_told_apart : goal.ghosts-are_told_apart
ghosts-are_told_apart g a = record { book = a.unnamed }
